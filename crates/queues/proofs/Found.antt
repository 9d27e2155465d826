-- A row without a number: where it first stands a gap closes.
use Rattle.std.proofs.Common.{◌≡◌, ℕ, suc, ◌+◌, ◌==◌, ◌<◌, ◌≤◌, ◌++◌, Bool, true, false, not, cond, ltb, List, [], ◌∷◌, length, Some, None, sym, refl, ap, ◌∙◌, ⊎_elim, arith}
use Rattle.std.proofs.lemmas.Bool.{cases_eq, cond-true, cond-false, eq-eqb, ne_eqb, lt-ltb, le-ltb, ltb-true, ltb-false}
use Rattle.std.proofs.lemmas.Bool.Decides.{nat_tests}
use Rattle.std.proofs.lemmas.List.{append-nil, length-append, take_all, drop_all}
use Rattle.std.proofs.lemmas.Option.{none-some}
use Rattle.std.specs.List.{position, position_or_len}
use Rattle.queues.specs.Rows.{gapless, without}

module _ (n : ℕ) where
  abbrev pub is : ℕ → Bool
  is x = x == n

  abbrev first : List ℕ → ℕ
  first ys = position_or_len is ys

  without_first : (ys : List ℕ) → without n ys ≡ gapless ys (first ys)
  without_first [] = refl
  without_first (y ∷ ys) =
      ⊎_elim
      (λ e.
      ap (λ b. cond b ys (y ∷ without n ys)) (eq-eqb n y e)
      ∙ sym (ap (λ b. gapless (y ∷ ys) (cond (not b) (1 + first ys) 0)) (eq-eqb y n (sym e))))
      (λ d.
      let next : 1 + first ys ≡ suc (first ys) = omega arith in
      ap (λ b. cond b ys (y ∷ without n ys)) (ne_eqb n y d)
      ∙ ap (λ (zs : List ℕ). y ∷ zs) (without_first ys)
      ∙ sym (ap (λ b. gapless (y ∷ ys) (cond (not b) (1 + first ys) 0)) (ne_eqb y n (λ e. d (sym e))) ∙ ap (gapless (y ∷ ys)) next))
      (cases_eq n y)

  picked : (b : Bool) (k i : ℕ) → cond b (Some k) None ≡ Some i → k ≡ i
  picked true k i e = cc
  picked false k i e = absurd (none-some i e)

  pub without_found : (ys : List ℕ) (i : ℕ) → position is ys ≡ Some i → without n ys ≡ gapless ys i
  without_found ys i e = without_first ys ∙ ap (gapless ys) (picked (ltb (first ys) (length ys)) (first ys) i e)

  missed : (b : Bool) (k : ℕ) → cond b (Some k) None ≡ None → b ≡ false
  missed true k e = absurd (none-some k (sym e))
  missed false k e = refl

  pub without_absent : (ys : List ℕ) → position is ys ≡ None → without n ys ≡ ys
  without_absent ys e =
      let past : length ys ≤ first ys = ltb-false (first ys) (length ys) (missed (ltb (first ys) (length ys)) (first ys) e) in
      without_first ys
      ∙ (λ i. take_all (first ys) ys past i ++ drop_all (suc (first ys)) ys (omega (arith, past)) i)
      ∙ append-nil ys

  -- ---- two lists, one behind the other
  first_front : (xs ys : List ℕ) → first xs < length xs → first (xs ++ ys) ≡ first xs
  first_front [] ys l = absurd (omega arith)
  first_front (x ∷ xs) ys l = grind (arith, nat_tests, first_front xs ys)

  first_back : (xs ys : List ℕ) → length xs ≤ first xs → first (xs ++ ys) ≡ length xs + first ys
  first_back [] ys l = omega arith
  first_back (x ∷ xs) ys l = grind (arith, nat_tests, first_back xs ys)

  held : (b : Bool) (k i : ℕ) → cond b (Some k) None ≡ Some i → b ≡ true
  held true k i e = refl
  held false k i e = absurd (none-some i e)

  pub position_front : (xs ys : List ℕ) (i : ℕ) → position is xs ≡ Some i → position is (xs ++ ys) ≡ Some i
  position_front xs ys i e =
      let low : first xs < length xs = ltb-true (first xs) (length xs) (held (ltb (first xs) (length xs)) (first xs) i e) in
      let at = first_front xs ys low ∙ picked (ltb (first xs) (length xs)) (first xs) i e in
      cond-true (ltb (first (xs ++ ys)) (length (xs ++ ys))) (Some (first (xs ++ ys))) None (lt-ltb (first (xs ++ ys)) (length (xs ++ ys)) (omega (arith, first_front xs ys low, length-append xs ys)))
      ∙ ap Some at

  pub position_back : (xs ys : List ℕ) (j : ℕ) → position is xs ≡ None → position is ys ≡ Some j → position is (xs ++ ys) ≡ Some (length xs + j)
  position_back xs ys j e f =
      let past : length xs ≤ first xs = ltb-false (first xs) (length xs) (missed (ltb (first xs) (length xs)) (first xs) e) in
      let low : first ys < length ys = ltb-true (first ys) (length ys) (held (ltb (first ys) (length ys)) (first ys) j f) in
      let at = first_back xs ys past ∙ ap (λ k. length xs + k) (picked (ltb (first ys) (length ys)) (first ys) j f) in
      cond-true (ltb (first (xs ++ ys)) (length (xs ++ ys))) (Some (first (xs ++ ys))) None (lt-ltb (first (xs ++ ys)) (length (xs ++ ys)) (omega (arith, first_back xs ys past, length-append xs ys)))
      ∙ ap Some at

  pub position_neither : (xs ys : List ℕ) → position is xs ≡ None → position is ys ≡ None → position is (xs ++ ys) ≡ None
  position_neither xs ys e f =
      let past : length xs ≤ first xs = ltb-false (first xs) (length xs) (missed (ltb (first xs) (length xs)) (first xs) e) in
      let past' : length ys ≤ first ys = ltb-false (first ys) (length ys) (missed (ltb (first ys) (length ys)) (first ys) f) in
      cond-false (ltb (first (xs ++ ys)) (length (xs ++ ys))) (Some (first (xs ++ ys))) None (le-ltb (first (xs ++ ys)) (length (xs ++ ys)) (omega (arith, first_back xs ys past, length-append xs ys)))
