-- What `insert`, `replace` and `remove` do to the keys before one of them is settled.
use Rattle.std.proofs.Common.{◌≡◌, ℕ, ◌+◌, ◌<◌, Bool, cond, eqb, ◌⊎◌, List, length, get_or, set, Some, None, Ok, sym, refl, ap, ◌∙◌, ⊎_elim, arith}
use Rattle.std.proofs.lemmas.List.{get_or-set_same, get_or-set_other, length-set, get_or_default}
use Rattle.std.proofs.lemmas.Bool.{cases_eq, eq-eqb, ne_eqb}
use Rattle.std.proofs.lemmas.Bool.Decides.{nat_tests}
use Rattle.heap.specs.Order.{Ordered}
use Rattle.heap.specs.Held.{held, put, without}
use Rattle.heap.specs.InOrder.{Low, InOrder}
use Rattle.heap.specs.Answers.{Seated}
use Rattle.heap.specs.Sifting.{Sifting}
use Rattle.heap.proofs.Pigeons.{pigeon}
use Rattle.heap.proofs.Handles.{held_at, held_none, held_alike, some_key}
use Rattle.heap.proofs.Reading.{heap_of, in_order_apart, sifting_apart}

module _ {K : Type 0} {handle : K → ℕ} {before : K → K → Bool} where
  -- `insert`
  module _ {xs : List K} {ps : List ℕ} {n : ℕ} (s : InOrder handle before xs ps n) (k : K) (free : Seated handle xs ps n (handle k) (Ok None)) where
    low : Low xs ps (handle k)
    low = let l = free.0 in (omega arith, omega arith, omega arith)

    none : (i : ℕ) → i < n → handle (get_or xs i k) ≡ handle k → ⊥
    none = free.2 k

    room_for : (c : ℕ) → ((i : ℕ) → i < n → handle (get_or xs i k) < c) → handle k < c → n < c
    room_for c below l =
        let f : ℕ → ℕ = λ m. cond (eqb m n) (handle k) (handle (get_or xs m k)) in
        let at_n : (m : ℕ) → m ≡ n → f m ≡ handle k = λ m q. ap (λ t. cond t (handle k) (handle (get_or xs m k))) (eq-eqb m n q) in
        let off_n : (m : ℕ) → (m ≡ n → ⊥) → f m ≡ handle (get_or xs m k) = λ m q. ap (λ t. cond t (handle k) (handle (get_or xs m k))) (ne_eqb m n q) in
        let le = pigeon c (n + 1) f
        (λ m a. grind (arith, cases_eq m n, at_n m, off_n m, below m))
        (λ m i a b e. grind (arith, cases_eq m n, cases_eq i n, at_n m, off_n m, at_n i, off_n i, none m, none i, in_order_apart s k m i)) in
        omega arith

    pub room : (n < 1024) × (n < length xs)
    room = (room_for 1024 (λ i l. (s.low k i l).0) low.0, room_for (length xs) (λ i l. (s.low k i l).1) low.1)

    here : (d : K) → get_or (set xs n k) n d ≡ k
    here d = get_or-set_same xs n k d room.1

    there : (d : K) (i : ℕ) → (i ≡ n → ⊥) → get_or (set xs n k) i d ≡ get_or xs i d
    there d i u = get_or-set_other xs n i k d u

    within : (d : K) (i : ℕ) → i < n → get_or xs i d ≡ get_or xs i k
    within d i l = get_or_default xs i d k (let f = s.fits in omega arith)

    pub inserts : Sifting handle before (set xs n k) ps (n + 1) n
    inserts = let r = room in let long = length-set xs n k in record {
      few = omega arith;
      fits = omega arith;
      inside = omega arith;
      low = λ d i a. grind (arith, cases_eq i n, here d, there d i, low, s.low d i);
      told = λ d i a u. ap (λ x. get_or ps (handle x) 0) (there d i u) ∙ s.told d i (omega arith);
      fresh = λ d i a u e. grind (arith, none i, there d i, within d i, here d);
      gap = λ d. (
        λ p c a b e u v. grind (arith, there d p, there d c, heap_of s d p c),
        λ p c a b e f i. absurd (omega arith),
      );
    }

    pub insert_held : (h : ℕ) → held handle (set xs n k) (n + 1) h ≡ put handle k (held handle xs n) h
    insert_held h = let r = room in let long = length-set xs n k in let f = s.fits in ⊎_elim
        (λ (q : h ≡ handle k). grind (arith, nat_tests, here k, held_at handle (set xs n k) (n + 1) n k h (omega arith) (omega arith) (sifting_apart inserts k) (ap handle (here k) ∙ sym q)))
        (λ u. let same = held_alike handle xs (set xs n k) n (n + 1) k h f (omega arith) (in_order_apart s k) (sifting_apart inserts k)
        (λ i l e. (i, omega arith, there k i (omega arith)))
        (λ i l e. grind (arith, cases_eq i n, here k, there k i)) in
        grind (arith, nat_tests))
        (cases_eq h (handle k))

  -- `replace`: the key at j gives way to k
  module _ (o : Ordered handle before) {xs : List K} {ps : List ℕ} {n : ℕ} (s : InOrder handle before xs ps n) (k : K) (j : ℕ) (taken : Seated handle xs ps n (handle k) (Ok (Some j))) where
    in' : j < n
    in' = taken.1

    same : (d : K) → handle (get_or xs j d) ≡ handle k
    same = taken.2

    now_k : (d : K) → get_or (set xs j k) j d ≡ k
    now_k d = get_or-set_same xs j k d (let f = s.fits in omega arith)

    as_was : (d : K) (i : ℕ) → (i ≡ j → ⊥) → get_or (set xs j k) i d ≡ get_or xs i d
    as_was d i u = get_or-set_other xs j i k d u

    handled : (d : K) (i : ℕ) → handle (get_or (set xs j k) i d) ≡ handle (get_or xs i d)
    handled d i = grind (arith, cases_eq i j, now_k d, as_was d i, same d)

    pub replaces : Sifting handle before (set xs j k) ps n j
    replaces = let f = s.fits in let long = length-set xs j k in record {
      few = s.few;
      fits = omega arith;
      inside = in';
      low = λ d i a. grind (arith, handled d i, s.low d i);
      told = λ d i a u. ap (λ x. get_or ps x 0) (handled d i) ∙ s.told d i a;
      fresh = λ d i a u e. u (in_order_apart s d i j a in' (sym (handled d i) ∙ e ∙ handled d j));
      gap = λ d. (
        λ p c a b e u v. grind (arith, as_was d p, as_was d c, heap_of s d p c),
        λ p c a b e f i. grind (arith, o.chain, as_was d p, as_was d c, heap_of s d p j, heap_of s d j c),
      );
    }

    pub replace_held : (h : ℕ) → held handle (set xs j k) n h ≡ put handle k (held handle xs n) h
    replace_held h = let f = s.fits in let long = length-set xs j k in ⊎_elim
        (λ (q : h ≡ handle k). grind (arith, nat_tests, now_k k, held_at handle (set xs j k) n j k h in' (omega arith) (sifting_apart replaces k) (ap handle (now_k k) ∙ sym q)))
        (λ u. let same = held_alike handle xs (set xs j k) n n k h f (omega arith) (in_order_apart s k) (sifting_apart replaces k)
        (λ i l e. grind (arith, cases_eq i j, same k, as_was k i))
        (λ i l e. grind (arith, cases_eq i j, now_k k, as_was k i)) in
        grind (arith, nat_tests))
        (cases_eq h (handle k))

  -- `remove` of the last key
  module _ {xs : List K} {ps : List ℕ} {n : ℕ} (s : InOrder handle before xs ps n) (m : ℕ) (more : m + 1 ≡ n) where
    pub drops : InOrder handle before xs ps m
    drops = let few = s.few in let f = s.fits in record {
      few = omega arith;
      fits = omega arith;
      low = λ d i a. s.low d i (omega arith);
      told = λ d i a. s.told d i (omega arith);
      heaped = λ d k e. s.heaped d k (omega arith);
    }

    pub drop_held : (x : ℕ) → ((d : K) → handle (get_or xs m d) ≡ x) → (h : ℕ) → held handle xs m h ≡ without x (held handle xs n) h
    drop_held x is h =
        let f = s.fits in
        let d = some_key handle xs (omega arith) in ⊎_elim
        (λ (q : h ≡ x). let none = held_none handle xs m d h (omega arith) (λ j l e. grind (arith, in_order_apart s d j m, is d)) in grind (arith, nat_tests))
        (λ u. let same = held_alike handle xs xs n m d h f (omega arith) (in_order_apart s d) (in_order_apart drops d)
        (λ i l e. grind (arith, cases_eq i m, is d))
        (λ j l e. (j, omega arith, refl)) in
        grind (arith, nat_tests))
        (cases_eq h x)

  -- `remove` of the key at j, whose place the last key k takes
  module _ (o : Ordered handle before) {xs : List K} {ps : List ℕ} {n : ℕ} (s : InOrder handle before xs ps n) (m : ℕ) (more : m + 1 ≡ n) (j : ℕ) (k : K) (in' : j < m) (last : (d : K) → get_or xs m d ≡ k) where
    k_now : (d : K) → get_or (set xs j k) j d ≡ get_or xs m d
    k_now d = get_or-set_same xs j k d (let f = s.fits in omega arith) ∙ sym (last d)

    was_so : (d : K) (i : ℕ) → (i ≡ j → ⊥) → get_or (set xs j k) i d ≡ get_or xs i d
    was_so d i u = get_or-set_other xs j i k d u

    -- where the key at i came from
    came : (d : K) (i : ℕ) → i < m → (p : ℕ) × (p < n) × (get_or xs p d ≡ get_or (set xs j k) i d) × (((i ≡ j) × (p ≡ m)) ⊎ ((i ≡ j → ⊥) × (p ≡ i)))
    came d i l = grind (arith, cases_eq i j, k_now d, was_so d i)

    pub fills : Sifting handle before (set xs j k) ps m j
    fills = let few = s.few in let f = s.fits in let long = length-set xs j k in record {
      few = omega arith;
      fits = omega arith;
      inside = in';
      low = λ d i a. let p = came d i a in grind (arith, s.low d p.0);
      told = λ d i a u. ap (λ y. get_or ps (handle y) 0) (was_so d i u) ∙ s.told d i (omega arith);
      fresh = λ d i a u e. let z : i ≡ m = in_order_apart s d i m (omega arith) (omega arith) (sym (ap handle (was_so d i u)) ∙ e ∙ ap handle (k_now d)) in omega arith;
      gap = λ d. (
        λ p c a b e u v. grind (arith, was_so d p, was_so d c, heap_of s d p c),
        λ p c a b e f i. grind (arith, o.chain, was_so d p, was_so d c, heap_of s d p j, heap_of s d j c),
      );
    }

    pub fill_held : (x : ℕ) → ((d : K) → handle (get_or xs j d) ≡ x) → (h : ℕ) → held handle (set xs j k) m h ≡ without x (held handle xs n) h
    fill_held x is h = let f = s.fits in let long = length-set xs j k in ⊎_elim
        (λ (q : h ≡ x). let none = held_none handle (set xs j k) m k h (omega arith) (λ i l e. let p = came k i l in grind (arith, in_order_apart s k p.0 j, is k)) in grind (arith, nat_tests))
        (λ u. let same = held_alike handle xs (set xs j k) n m k h f (omega arith) (in_order_apart s k) (sifting_apart fills k)
        (λ i l e. grind (arith, cases_eq i j, cases_eq i m, is k, k_now k, was_so k i))
        (λ i l e. let p = came k i l in (p.0, p.1, p.2)) in
        grind (arith, nat_tests))
        (cases_eq h x)
