-- The order of names is std's order of the slices of bytes, and then of the numbers.
use Rattle.std.proofs.Common.{◌≡◌, ℕ, List, [], ◌∷◌, Some, refl, arith}
use Rattle.std.specs.Ordering.{is_lt, is_some_and, nat_cmp, ordering_then, partial_ordering_then}
use Rattle.std.specs.Cmp.Lexicographic.{slice_cmp, slice_partial_cmp}
use Rattle.std.proofs.lemmas.Bool.Decides.{nat_tests}
use Rattle.keys.specs.Names.{earlier}

pub earlier_is : (us bs : List ℕ) (m n : ℕ) → is_some_and is_lt (partial_ordering_then (slice_partial_cmp (λ x y. Some (nat_cmp x y)) us bs) (Some (nat_cmp m n))) ≡ earlier us bs m n
earlier_is [] [] m n = grind (arith, nat_tests)
earlier_is [] (b ∷ bs) m n = refl
earlier_is (a ∷ us) [] m n = refl
earlier_is (a ∷ us) (b ∷ bs) m n = grind (arith, nat_tests, earlier_is us bs m n)

-- And so it is by the order of the slices, which is never none.
pub earlier_cmp : (us bs : List ℕ) (m n : ℕ) → is_lt (ordering_then (slice_cmp nat_cmp us bs) (nat_cmp m n)) ≡ earlier us bs m n
earlier_cmp [] [] m n = grind (arith, nat_tests)
earlier_cmp [] (b ∷ bs) m n = refl
earlier_cmp (a ∷ us) [] m n = refl
earlier_cmp (a ∷ us) (b ∷ bs) m n = grind (arith, nat_tests, earlier_cmp us bs m n)
