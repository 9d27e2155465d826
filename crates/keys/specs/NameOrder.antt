-- The laws of the order of names, and how a loop over two names goes.
use Rattle.std.specs.Prelude.{◌≡◌, ℕ, ◌+◌, ◌<◌, ◌≤◌, Bool, true, false, not, ◌&&◌, ◌||◌, List, [], ◌∷◌, length, drop, ◌==◌, ◌≢◌, nat_lt, slice_index, slice_index_or, refl}
use Rattle.std.proofs.Common.{◌∙◌, arith}
use Rattle.std.proofs.lemmas.List.{drop_more, drop_all}
use Rattle.std.proofs.lemmas.Bool.Decides.{nat_tests}
use Rattle.keys.specs.Names.{earlier}

pub never : (us : List ℕ) (m : ℕ) → earlier us us m m ≡ false
never [] m = grind (arith, nat_tests)
never (a ∷ us) m = grind (arith, nat_tests, never us m)

pub one : (us bs : List ℕ) (m n : ℕ) → (m ≢ n) → earlier us bs m n ≡ not (earlier bs us n m)
one [] [] m n u = grind (arith, nat_tests)
one [] (b ∷ bs) m n u = refl
one (a ∷ us) [] m n u = refl
one (a ∷ us) (b ∷ bs) m n u = grind (arith, nat_tests, one us bs m n u)

pub chain : (us bs cs : List ℕ) (l m n : ℕ) → earlier us bs l m ≡ true → earlier bs cs m n ≡ true → earlier us cs l n ≡ true
chain [] [] [] l m n p q = grind (arith, nat_tests)
chain [] bs (c ∷ cs) l m n p q = refl
chain [] (b ∷ bs) [] l m n p q = cc
chain (a ∷ us) [] cs l m n p q = cc
chain (a ∷ us) (b ∷ bs) [] l m n p q = cc
chain (a ∷ us) (b ∷ bs) (c ∷ cs) l m n p q = grind (arith, nat_tests, chain us bs cs l m n)

by_lt : (a b : ℕ) (x : Bool) → a < b → (nat_lt a b || (a == b && x)) ≡ true
by_lt a b x h = grind (arith, nat_tests)

by_eq : (a b : ℕ) (x : Bool) → a ≡ b → (nat_lt a b || (a == b && x)) ≡ x
by_eq a b x h = grind (arith, nat_tests)

by_gt : (a b : ℕ) (x : Bool) → b < a → (nat_lt a b || (a == b && x)) ≡ false
by_gt a b x h = grind (arith, nat_tests)

-- the loop, at the place i of both
module _ (xs ys : List ℕ) (m n i : ℕ) where
  module _ (lx : i < length xs) (ly : i < length ys) where
    cut : earlier (drop i xs) (drop i ys) m n ≡ (nat_lt (slice_index xs i) (slice_index ys i) || (slice_index xs i == slice_index ys i && earlier (drop (i + 1) xs) (drop (i + 1) ys) m n))
    cut = λ j. earlier (drop_more xs i 0 lx j) (drop_more ys i 0 ly j) m n

    pub at_lt : slice_index_or xs i 0 < slice_index ys i → earlier (drop i xs) (drop i ys) m n ≡ true
    at_lt h = cut ∙ by_lt _ _ _ h

    pub at_eq : slice_index_or xs i 0 ≡ slice_index ys i → earlier (drop i xs) (drop i ys) m n ≡ earlier (drop (i + 1) xs) (drop (i + 1) ys) m n
    at_eq h = cut ∙ by_eq _ _ _ h

    pub at_gt : slice_index_or ys i 0 < slice_index xs i → earlier (drop i xs) (drop i ys) m n ≡ false
    at_gt h = cut ∙ by_gt _ _ _ h

  pub ends_first : length xs ≤ i → i < length ys → earlier (drop i xs) (drop i ys) m n ≡ true
  ends_first lx ly = λ j. earlier (drop_all i xs lx j) (drop_more ys i 0 ly j) m n

  pub ends_second : i < length xs → length ys ≤ i → earlier (drop i xs) (drop i ys) m n ≡ false
  ends_second lx ly = λ j. earlier (drop_more xs i 0 lx j) (drop_all i ys ly j) m n

  pub ends_both : length xs ≤ i → length ys ≤ i → earlier (drop i xs) (drop i ys) m n ≡ nat_lt m n
  ends_both lx ly = λ j. earlier (drop_all i xs lx j) (drop_all i ys ly j) m n
