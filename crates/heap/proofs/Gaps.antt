-- The order of a heap with one gap: what an exchange of a key with its parent or its child keeps of it.
use Rattle.std.proofs.Common.{◌≡◌, ℕ, zero, suc, ◌+◌, ◌-◌, ◌*◌, ◌/◌, ◌<◌, ◌≤◌, Bool, true, false, not, sym, ap, ◌∙◌, arith}
use Rattle.std.proofs.lemmas.List.Edits.{Swapped}
use Rattle.heap.specs.Order.{Ordered}
use Rattle.heap.specs.Sifting.{Heap, Gap, Over, Under, Least}

module _ {K : Type 0} {handle : K → ℕ} {before : K → K → Bool} (o : Ordered handle before) where
  by : {a b x y : K} → a ≡ x → b ≡ y → before x y ≡ true → before a b ≡ true
  by p q h = (λ i. before (p i) (q i)) ∙ h

  -- of two keys with different handles, where one does not come before, the other does
  pub turns : (p q : K) → (handle p ≡ handle q → ⊥) → before p q ≡ false → before q p ≡ true
  turns p q n e = o.one q p (λ s. n (sym s)) ∙ ap not e

  module _ (f g : ℕ → K) (j c n : ℕ) (from : j * 2 + 1 ≤ c) (to : c ≤ j * 2 + 2) (in' : c < n) (s : Swapped f g j c) (t : before (f c) (f j) ≡ true) where
    pub rises : Gap before f c n → Gap before g j n
    rises h = (
      λ p k a b e u v. grind (arith, h.0 p k, h.1 j k, s.2 p, s.2 k),
      λ p k a b e u v. grind (arith, o.chain, h.0 p j, h.0 j k, s.2 p, s.2 k),
    )

    pub sinks : Least before f j c n → Gap before f j n → Gap before g c n
    sinks least h = (
      λ p k a b e u v. grind (arith, least k, h.1 p c, h.0 p k, s.2 p, s.2 k),
      λ p k a b e u v. grind (arith, h.0 c k, s.2 k),
    )

    pub sinks_over : Over before g c
    sinks_over = λ p a b. grind arith

  pub closes : (f : ℕ → K) (j n : ℕ) → Gap before f j n → Over before f j → Under before f j n → Heap before f n
  closes f j n h over under = λ p k a b e. grind (arith, h.0 p k, over p, under k)

  -- the first key comes before all others
  pub first : (f : ℕ → K) (n : ℕ) → Heap before f n → (fuel k : ℕ) → k ≤ fuel → 0 < k → k < n → before (f 0) (f k) ≡ true
  first f n h zero k a b e = absurd (omega arith)
  first f n h (suc fuel) k a b e =
      let up = (k - 1) / 2 in
      grind (arith, o.chain, h up k, first f n h fuel up)
