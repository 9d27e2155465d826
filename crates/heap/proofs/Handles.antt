-- Handles, told places, and which key is held at a handle.
use Rattle.std.proofs.Common.{◌≡◌, ℕ, zero, suc, ◌<◌, ◌≤◌, ◌⊎◌, List, [], ◌∷◌, length, get_or, set, Some, None, sym, refl, ◌∙◌, arith}
use Rattle.std.proofs.lemmas.List.{get_or-set_same, get_or-set_other}
use Rattle.std.proofs.lemmas.List.Edits.{Swapped}
use Rattle.std.proofs.lemmas.Bool.{cases_eq}
use Rattle.std.proofs.lemmas.Bool.Decides.{nat_tests}
use Rattle.heap.specs.Held.{held}
use Rattle.heap.specs.Sifting.{Apart, Told, Fresh}

module _ {K : Type 0} (handle : K → ℕ) where
  pub apart : (f : ℕ → K) (places : List ℕ) (n j : ℕ) → Told handle f places n j → Fresh handle f n j → (i k : ℕ) → i < n → k < n → handle (f i) ≡ handle (f k) → i ≡ k
  apart f places n j told fresh i k a b e = grind (arith, told i, told k, fresh i, fresh k)

  -- the key in question goes from x to y, and the place of the one that was at y is told
  module _ (f g : ℕ → K) (places : List ℕ) (n x y : ℕ) (inx : x < n) (iny : y < n) (xy : x ≡ y → ⊥) (gx : g x ≡ f y) (gy : g y ≡ f x) (rest : (m : ℕ) → (m ≡ x → ⊥) → (m ≡ y → ⊥) → g m ≡ f m) (told : Told handle f places n x) (fresh : Fresh handle f n x) where
    pub still_fresh : Fresh handle g n y
    still_fresh i a u e = grind (arith, rest i, fresh y, fresh i, cases_eq i x)

    pub still_told : handle (f y) < length places → Told handle g (set places (handle (g x)) x) n y
    still_told wide i a u = grind (arith, cases_eq i x, rest i, told i, apart f places n x told fresh i y, get_or-set_same places (handle (g x)) x 0, get_or-set_other places (handle (g x)) (handle (g i)) x 0)

  -- what is held
  held_found : (ks : List K) (n i : ℕ) (d : K) (h : ℕ) → i < n → n ≤ length ks → handle (get_or ks i d) ≡ h → ((j : ℕ) → j < i → handle (get_or ks j d) ≡ h → ⊥) → held handle ks n h ≡ Some (get_or ks i d)
  held_found [] n i d h a b e u = absurd (omega arith)
  held_found (k ∷ ks) zero i d h a b e u = absurd (omega arith)
  held_found (k ∷ ks) (suc n) zero d h a b e u = grind (arith, nat_tests)
  held_found (k ∷ ks) (suc n) (suc i) d h a b e u = grind (arith, nat_tests, u 0, held_found ks n i d h (omega arith) (omega arith) e (λ j l. u (suc j) (omega arith)))

  pub held_none : (ks : List K) (n : ℕ) (d : K) (h : ℕ) → n ≤ length ks → ((j : ℕ) → j < n → handle (get_or ks j d) ≡ h → ⊥) → held handle ks n h ≡ None
  held_none ks zero d h b u = refl
  held_none [] (suc n) d h b u = refl
  held_none (k ∷ ks) (suc n) d h b u = grind (arith, nat_tests, u 0, held_none ks n d h (omega arith) (λ j l. u (suc j) (omega arith)))

  pub held_at : (ks : List K) (n i : ℕ) (d : K) (h : ℕ) → i < n → n ≤ length ks → Apart handle (λ m. get_or ks m d) n → handle (get_or ks i d) ≡ h → held handle ks n h ≡ Some (get_or ks i d)
  held_at ks n i d h a b u e = held_found ks n i d h a b e (λ j l z. let q : j ≡ i = u j i (omega arith) a (z ∙ sym e) in omega arith)

  pub decide : (f : ℕ → ℕ) (h n : ℕ) → ((i : ℕ) × (i < n) × (f i ≡ h)) ⊎ ((i : ℕ) → i < n → f i ≡ h → ⊥)
  decide f h zero = grind arith
  decide f h (suc n) = grind (arith, decide f h n, cases_eq (f n) h)

  -- two heaps hold the same key at h
  pub held_alike : (xs ys : List K) (n m : ℕ) (d : K) (h : ℕ) → n ≤ length xs → m ≤ length ys → Apart handle (λ i. get_or xs i d) n → Apart handle (λ i. get_or ys i d) m
      → ((i : ℕ) → i < n → handle (get_or xs i d) ≡ h → (j : ℕ) × (j < m) × (get_or ys j d ≡ get_or xs i d))
      → ((j : ℕ) → j < m → handle (get_or ys j d) ≡ h → (i : ℕ) × (i < n) × (get_or xs i d ≡ get_or ys j d))
      → held handle ys m h ≡ held handle xs n h
  held_alike xs ys n m d h lx ly ax ay to from = grind (arith, decide (λ i. handle (get_or xs i d)) h n, to, from, held_at ys m, held_at xs n, held_none ys m d h, held_none xs n d h)

  -- after an exchange every key is among the first n as before
  swap_there : (f g : ℕ → K) (n a b : ℕ) → a < n → b < n → Swapped f g a b → (i : ℕ) → i < n → (m : ℕ) × (m < n) × (g m ≡ f i)
  swap_there f g n a b la lb s = λ i l. grind (arith, cases_eq i a, cases_eq i b, s.2 i)

  flip : (f g : ℕ → K) (a b : ℕ) → Swapped f g a b → Swapped g f a b
  flip f g a b s = (sym s.1, sym s.0, λ m u v. sym (s.2 m u v))

  pub turn : (f g : ℕ → K) (a b : ℕ) → Swapped f g a b → Swapped f g b a
  turn f g a b s = (s.1, s.0, λ m u v. s.2 m v u)

  pub some_key : (xs : List K) → 0 < length xs → K
  some_key [] h = absurd (omega arith)
  some_key (x ∷ xs) h = x

  pub held_swap : (xs ys : List K) (n a b : ℕ) → a < n → b < n → n ≤ length xs → length ys ≡ length xs
      → ((d : K) → Swapped (λ m. get_or xs m d) (λ m. get_or ys m d) a b) → ((d : K) → Apart handle (λ m. get_or xs m d) n) → ((d : K) → Apart handle (λ m. get_or ys m d) n)
      → (h : ℕ) → held handle ys n h ≡ held handle xs n h
  held_swap xs ys n a b la lb lx ly s ax ay =
      let d = some_key xs (omega arith) in
      λ h. held_alike xs ys n n d h lx (omega arith) (ax d) (ay d)
      (λ i l e. swap_there (λ m. get_or xs m d) (λ m. get_or ys m d) n a b la lb (s d) i l)
      (λ i l e. swap_there (λ m. get_or ys m d) (λ m. get_or xs m d) n a b la lb (flip _ _ a b (s d)) i l)
