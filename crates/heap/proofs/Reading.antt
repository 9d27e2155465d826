-- What can be read off a heap in order: where a key is, what is held at a handle, and which key is the first.
use Rattle.std.proofs.Common.{◌≡◌, ℕ, zero, suc, ◌-◌, ◌<◌, ◌≤◌, Bool, false, List, [], ◌∷◌, length, get_or, is_some, Some, None, Ok, Err, Option, Result, sym, refl, ap, ◌∙◌, subst, ⊎_elim, arith}
use Rattle.std.proofs.lemmas.List.{get_or_default}
use Rattle.std.specs.Option.{ok_or}
use Rattle.heap.specs.Order.{Ordered}
use Rattle.heap.specs.Held.{held, capacity, Foremost}
use Rattle.heap.specs.InOrder.{InOrder}
use Rattle.heap.specs.Answers.{Seated}
use Rattle.heap.specs.Sifting.{Heap, Apart, Sifting}
use Rattle.refusal.specs.declared.Refusal.{Refusal}
use Rattle.refusal.specs.declared.Refusal.TheVariants.{OutOfRange}
use Rattle.heap.proofs.Gaps.{first}
use Rattle.heap.proofs.Handles.{apart, held_at, held_none, decide, some_key}

module _ {K : Type 0} {handle : K → ℕ} {before : K → K → Bool} where
  pub heap_of : {xs : List K} {ps : List ℕ} {n : ℕ} → InOrder handle before xs ps n → (d : K) → Heap before (λ m. get_or xs m d) n
  heap_of s d p k a b e = grind (arith, s.heaped d (k - 1))

  pub in_order_apart : {xs : List K} {ps : List ℕ} {n : ℕ} → InOrder handle before xs ps n → (d : K) → Apart handle (λ m. get_or xs m d) n
  in_order_apart s d i k a b e = grind (arith, s.told d i, s.told d k)

  pub sifting_apart : {xs : List K} {ps : List ℕ} {n j : ℕ} → Sifting handle before xs ps n j → (d : K) → Apart handle (λ m. get_or xs m d) n
  sifting_apart {xs = xs} {ps = ps} {n = n} {j = j} s d = apart handle (λ m. get_or xs m d) ps n j (s.told d) (s.fresh d)

pub none_held : {K : Type 0} (handle : K → ℕ) (xs : List K) (h : ℕ) → held handle xs 0 h ≡ None
none_held handle xs h = refl

none_there : {K : Type 0} (handle : K → ℕ) (xs : List K) (n h : ℕ) → n ≤ length xs → ((d : K) (i : ℕ) → i < n → handle (get_or xs i d) ≡ h → ⊥) → held handle xs n h ≡ None
none_there handle xs zero h f none = refl
none_there handle [] (suc n) h f none = refl
none_there handle (x ∷ xs) (suc n) h f none = held_none handle (x ∷ xs) (suc n) x h f (none x)

module _ {K : Type 0} {handle : K → ℕ} {before : K → K → Bool} {xs : List K} {ps : List ℕ} {n : ℕ} (s : InOrder handle before xs ps n) where
  -- the key with a handle is at one of the first n places
  held_is : (h : ℕ) (q : K) → held handle xs n h ≡ Some q → (i : ℕ) × (i < n) × (handle q ≡ h) × ((d : K) → get_or xs i d ≡ q)
  held_is h q e = let f = s.fits in ⊎_elim
      (λ t.
      let found = held_at handle xs n t.0 q h t.1 s.fits (in_order_apart s q) t.2 in
      let is : get_or xs t.0 q ≡ q = cc in
      (t.0, t.1, cc, λ d. grind (arith, get_or_default xs t.0 d q)))
      (λ none. let gone = held_none handle xs n q h s.fits none in cc)
      (decide handle (λ i. handle (get_or xs i q)) h n)

  pub held_there : (i h : ℕ) (d : K) → i < n → handle (get_or xs i d) ≡ h → held handle xs n h ≡ Some (get_or xs i d)
  held_there i h d l e = held_at handle xs n i d h l s.fits (in_order_apart s d) e

  -- the first of the keys comes before all others
  pub foremost : Ordered handle before → (h : ℕ) (k : K) → 0 < n → h ≡ handle (get_or xs 0 k) → Foremost handle before (held handle xs n) h
  foremost o h k pos is =
      let f = get_or xs 0 k in (
        f,
        sym is,
        held_there 0 h k pos (sym is),
        λ x q e u.
            let t = held_is x q e in
            let at : 0 ≡ t.0 → ⊥ = λ z. u (sym t.2 ∙ ap handle (sym (t.3 k) ∙ ap (λ i. get_or xs i k) (sym z)) ∙ sym is) in
            let l = t.1 in
            ap (before f) (sym (t.3 k)) ∙ first o (λ i. get_or xs i k) n (heap_of s k) t.0 t.0 (omega arith) (omega arith) l,
      )

  -- what a seat says of what is held
  pub outside : {h : ℕ} → capacity xs ps ≤ h → Seated handle xs ps n h (Err OutOfRange)
  outside {h = h} high = (refl, high, none_there handle xs n h s.fits (λ d i l e. let w = s.low d i l in let a = w.0 in let b = w.1 in let c = w.2 in omega arith))

  pub free : {h : ℕ} → h < capacity xs ps → ((d : K) (i : ℕ) → i < n → handle (get_or xs i d) ≡ h → ⊥) → Seated handle xs ps n h (Ok None)
  free {h = h} low none = (low, none_there handle xs n h s.fits none, none)

  pub taken : {h : ℕ} (i : ℕ) → h < capacity xs ps → i < n → ((d : K) → handle (get_or xs i d) ≡ h) → Seated handle xs ps n h (Ok (Some i))
  taken {h = h} i low l is =
      let fits = s.fits in
      let there : (d : K) → held handle xs n h ≡ Some (get_or xs i d) = λ d. held_there i h d l (is d) in
      (low, l, is, there, ap is_some (there (some_key handle xs (omega arith))))

  -- what a view's seat says of the memory that it views, and of a handle that is known by another name
  pub read_off : {vs : List K} {qs : List ℕ} {m h k : ℕ} {r seat : Result (Option ℕ) Refusal} → (vs ≡ xs) × (qs ≡ ps) × (m ≡ n) → h ≡ k → r ≡ seat → Seated handle vs qs m h r → Seated handle xs ps n k seat
  read_off {qs = qs} {m = m} {h = h} {k = k} {r = r} same e is s =
      subst (λ r. Seated handle xs ps n k r) is
      (subst (λ h. Seated handle xs ps n h r) e
      (subst (λ n. Seated handle xs ps n h r) same.2
      (subst (λ ps. Seated handle xs ps m h r) same.1
      (subst (λ xs. Seated handle xs qs m h r) same.0 s))))

pub vacant : (o : Option ℕ) → is_some o ≡ false → o ≡ None
vacant None e = refl
vacant (Some i) e = cc

pub found : (o : Option ℕ) (e : Refusal) (i : ℕ) → ok_or o e ≡ Ok i → o ≡ Some i
found None e i h = cc
found (Some j) e i h = cc
