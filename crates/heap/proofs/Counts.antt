-- How the number of held keys changes.
use Rattle.std.proofs.Common.{◌≡◌, ℕ, zero, suc, ◌+◌, ◌<◌, ◌≤◌, Bool, true, false, List, length, get_or, is_some, Option, sym, refl, ap, ◌∙◌, ⊎_elim, arith}
use Rattle.std.proofs.lemmas.Bool.{cases_eq}
use Rattle.heap.specs.Held.{counted, held}
use Rattle.heap.specs.InOrder.{InOrder}
use Rattle.heap.specs.Sifting.{Apart}
use Rattle.heap.proofs.Handles.{held_at, held_none, held_alike, some_key}
use Rattle.heap.proofs.Reading.{none_held, in_order_apart}

module _ {K : Type 0} (m p : ℕ → Option K) where
  -- the same handles are held
  pub counted_same : (c : ℕ) → ((h : ℕ) → h < c → is_some (p h) ≡ is_some (m h)) → counted p c ≡ counted m c
  unfolding counted
  counted_same zero e = refl
  counted_same (suc c) e = grind (arith, counted_same c (λ h l. e h (omega arith)), e c)

  -- one handle more
  pub counted_more : (c x : ℕ) → x < c → is_some (m x) ≡ false → is_some (p x) ≡ true → ((h : ℕ) → (h ≡ x → ⊥) → is_some (p h) ≡ is_some (m h)) → counted p c ≡ counted m c + 1
  unfolding counted
  counted_more zero x l f t e = absurd (omega arith)
  counted_more (suc c) x l f t e = grind (arith, cases_eq c x, e c, counted_more c x, counted_same c)

counted_none : {K : Type 0} (m : ℕ → Option K) (c : ℕ) → ((h : ℕ) → is_some (m h) ≡ false) → counted m c ≡ 0
unfolding counted
counted_none m zero e = refl
counted_none m (suc c) e = grind (arith, counted_none m c e, e c)

module _ {K : Type 0} (handle : K → ℕ) (xs : List K) (d : K) (c : ℕ) where
  pub counted_all : (n : ℕ) → n ≤ length xs → Apart handle (λ m. get_or xs m d) n → ((i : ℕ) → i < n → handle (get_or xs i d) < c) → counted (held handle xs n) c ≡ n
  counted_all zero f a l = counted_none (held handle xs 0) c (λ h. ap is_some (none_held handle xs h))
  counted_all (suc n) f a l =
      let x = handle (get_or xs n d) in
      let b : Apart handle (λ m. get_or xs m d) n = λ i k p q e. a i k (omega arith) (omega arith) e in
      let r = counted_all n (omega arith) b (λ i p. l i (omega arith)) in
      let more = counted_more (held handle xs n) (held handle xs (suc n)) c x (l n (omega arith))
      (ap is_some (held_none handle xs n d x (omega arith) (λ j p e. let z : j ≡ n = a j n (omega arith) (omega arith) e in omega arith)))
      (ap is_some (held_at handle xs (suc n) n d x (omega arith) f a refl))
      (λ h u. ap is_some (held_alike handle xs xs n (suc n) d h (omega arith) f b a (λ i p e. (i, omega arith, refl)) (λ j p e. let v : j ≡ n → ⊥ = λ q. u (sym e ∙ ap (λ m. handle (get_or xs m d)) q) in (j, omega arith, refl)))) in
      omega arith

-- a heap in order holds as many keys as its length says
pub in_order_counted : {K : Type 0} {handle : K → ℕ} {before : K → K → Bool} {xs : List K} {ps : List ℕ} {n : ℕ} → InOrder handle before xs ps n → counted (held handle xs n) 1024 ≡ n
in_order_counted {handle = handle} {xs = xs} {n = n} s = ⊎_elim
    (λ (z : n ≡ 0). ap (λ i. counted (held handle xs i) 1024) z ∙ counted_none (held handle xs 0) 1024 (λ h. ap is_some (none_held handle xs h)) ∙ sym z)
    (λ u. let f = s.fits in let d = some_key handle xs (omega arith) in counted_all handle xs d 1024 n f (in_order_apart s d) (λ i p. (s.low d i p).0))
    (cases_eq n 0)
