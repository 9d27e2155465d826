-- Which child of a key comes first, and whether the key goes down to it.
use Rattle.std.proofs.Common.{◌≡◌, ℕ, ◌+◌, ◌*◌, ◌<◌, ◌≤◌, Bool, true, false, ◌⊎◌, sym, refl, ◌∙◌, subst, inl, inr, ⊎_elim, arith}
use Rattle.std.proofs.lemmas.Bool.{cases_lt, cases_Bool, lt-ltb, le-ltb, cond-true, cond-false}
use Rattle.std.proofs.lemmas.Bool.Decides.{nat_tests}
use Rattle.heap.specs.Order.{Ordered}
use Rattle.heap.specs.Sifting.{Under, Least, first_child, next_down, Apart}

-- The key at j stays, before its children, or r is the child that comes before the other and before the key.
abbrev pub Next : {K : Type 0} → (K → K → Bool) → (ℕ → K) → ℕ → ℕ → ℕ → Type 0
Next before f n j r = ((r ≡ j) × Under before f j n) ⊎ ((j * 2 + 1 ≤ r) × (r ≤ j * 2 + 2) × (r < n) × Least before f j r n × (before (f r) (f j) ≡ true))

module _ {K : Type 0} {handle : K → ℕ} {before : K → K → Bool} (o : Ordered handle before) (f : ℕ → K) (n j : ℕ) (distinct : Apart handle f n) where
  left_first : j * 2 + 1 < n → (j * 2 + 2 < n → before (f (j * 2 + 2)) (f (j * 2 + 1)) ≡ false) → Least before f j (j * 2 + 1) n
  left_first l t k a b e u = grind (arith, o.one, distinct k (j * 2 + 1))

  right_first : before (f (j * 2 + 2)) (f (j * 2 + 1)) ≡ true → Least before f j (j * 2 + 2) n
  right_first t k a b e u = grind arith

  -- the first child is a child, and comes before the other
  first_child_lem : (c : ℕ) → c ≡ first_child before f n j → j * 2 + 1 < n → (j * 2 + 1 ≤ c) × (c ≤ j * 2 + 2) × (c < n) × Least before f j c n
  first_child_lem c is l = grind (arith, nat_tests, left_first)

  -- where its first child c does not come before it, the key at j comes before both
  stays : (c : ℕ) → (j * 2 + 1 ≤ c) × (c ≤ j * 2 + 2) × (c < n) × Least before f j c n → j < n → before (f c) (f j) ≡ false → Under before f j n
  stays c is lj t k a b e = grind (arith, o.one, o.chain, distinct c j, is.3 k)

  pub next_is : (r : ℕ) → r ≡ next_down before f n j → j < n → Next before f n j r
  next_is r is lj = ⊎_elim
      (λ (l : j * 2 + 1 < n).
      let c = first_child before f n j in
      let child = first_child_lem c refl l in
      let down = is ∙ cond-true _ _ _ (lt-ltb (j * 2 + 1) n l) in
      ⊎_elim
      (λ (t : before (f c) (f j) ≡ true). inr (subst (λ r. (j * 2 + 1 ≤ r) × (r ≤ j * 2 + 2) × (r < n) × Least before f j r n × (before (f r) (f j) ≡ true)) (sym (down ∙ cond-true _ _ _ t)) (child.0, child.1, child.2, child.3, t)))
      (λ (t : before (f c) (f j) ≡ false). inl (down ∙ cond-false _ _ _ t, stays c child lj t))
      (cases_Bool (before (f c) (f j))))
      (λ (l : n ≤ j * 2 + 1). inl (is ∙ cond-false _ _ _ (le-ltb (j * 2 + 1) n l), λ k a b e. absurd (omega arith)))
      (cases_lt (j * 2 + 1) n)
