-- The steps of the two loops of a sift, and how each ends, with what `exchange`, `handle_at` and `tell` ensure.
use Rattle.std.proofs.Common.{◌≡◌, ℕ, ◌+◌, ◌-◌, ◌*◌, ◌/◌, ◌<◌, ◌≤◌, Bool, true, List, length, get_or, set, sym, ap, subst, ⊎_elim, arith}
use Rattle.std.specs.List.{SwappedAt}
use Rattle.std.proofs.lemmas.List.{get_or_default, get_or-set_same, get_or-set_other, length-set}
use Rattle.std.proofs.lemmas.List.Edits.{Swapped}
use Rattle.std.proofs.lemmas.Bool.{cases_eq}
use Rattle.heap.specs.Order.{Ordered}
use Rattle.heap.specs.Held.{held}
use Rattle.heap.specs.InOrder.{Low, InOrder}
use Rattle.heap.specs.Sifting.{Gap, Over, Under, Least, next_down, Apart, Told, Fresh, Sifting}
use Rattle.heap.proofs.Children.{Next, next_is}
use Rattle.heap.proofs.Gaps.{rises, sinks, sinks_over, closes}
use Rattle.heap.proofs.Handles.{apart, still_told, still_fresh, some_key, held_swap, turn}

-- the key on its way goes from x to y, and the place of the key displaced is told
module _ {K : Type 0} {handle : K → ℕ} {before : K → K → Bool} {xs : List K} {ps : List ℕ} {n x : ℕ} (was : Sifting handle before xs ps n x) (ys : List K) (y r : ℕ) (iny : y < n) (xy : x ≡ y → ⊥) (long : length ys ≡ length xs) (s : (d : K) → Swapped (λ m. get_or xs m d) (λ m. get_or ys m d) x y) (told : (d : K) → r ≡ handle (get_or ys x d)) where
  step_low : (d : K) (i : ℕ) → i < n → Low ys (set ps r x) (handle (get_or ys i d))
  step_low d i a = let wide = length-set ps r x in grind (arith, cases_eq i x, cases_eq i y, was.low d y, was.low d x, was.low d i, (s d).2 i)

  step_told : (d : K) → Told handle (λ i. get_or ys i d) (set ps r x) n y
  step_told d = subst (λ t. Told handle (λ i. get_or ys i d) (set ps t x) n y) (sym (told d))
      (still_told handle (λ i. get_or xs i d) (λ i. get_or ys i d) ps n x y was.inside iny xy (s d).0 (s d).1 (s d).2 (was.told d) (was.fresh d) (was.low d y iny).2)

  step_fresh : (d : K) → Fresh handle (λ i. get_or ys i d) n y
  step_fresh d = still_fresh handle (λ i. get_or xs i d) (λ i. get_or ys i d) ps n x y was.inside iny xy (s d).0 (s d).1 (s d).2 (was.told d) (was.fresh d)

  step : ((d : K) → Gap before (λ i. get_or ys i d) y n) → Sifting handle before ys (set ps r x) n y
  step gap = let fits = was.fits in record {
    few = was.few;
    fits = omega arith;
    inside = iny;
    low = step_low;
    told = step_told;
    fresh = step_fresh;
    gap = gap;
  }

  step_held : (h : ℕ) → held handle ys n h ≡ held handle xs n h
  step_held = held_swap handle xs ys n x y was.inside iny was.fits long s
      (λ d. apart handle (λ m. get_or xs m d) ps n x (was.told d) (was.fresh d))
      (λ d. apart handle (λ m. get_or ys m d) (set ps r x) n y (step_told d) (step_fresh d))

-- the key at j is on its way
module _ {K : Type 0} {handle : K → ℕ} {before : K → K → Bool} (o : Ordered handle before) {xs : List K} {ps : List ℕ} {n j : ℕ} (was : Sifting handle before xs ps n j) where
  pub are_apart : (d : K) → Apart handle (λ m. get_or xs m d) n
  are_apart d = apart handle (λ m. get_or xs m d) ps n j (was.told d) (was.fresh d)

  -- the place i can be told for the handle r of the key there
  pub tellable : (i r : ℕ) → i < n → ((d : K) → r ≡ handle (get_or xs i d)) → (r < length ps) × (i < 1024)
  tellable i r l named =
      let few = was.few in
      let fits = was.fits in
      let d = some_key handle xs (omega arith) in
      let low = was.low d i l in
      (omega (arith, low.2, named d), omega arith)

  next : (r : ℕ) → ((d : K) → r ≡ next_down before (λ m. get_or xs m d) n j) → (d : K) → Next before (λ m. get_or xs m d) n j r
  next r is d = next_is o (λ m. get_or xs m d) n j (are_apart d) r (is d) was.inside

  -- it goes down to r, the child that comes before the other
  pub goes : (r : ℕ) → (r ≡ j → ⊥) → ((d : K) → r ≡ next_down before (λ m. get_or xs m d) n j) → (j * 2 + 1 ≤ r) × (r ≤ j * 2 + 2) × (r < n) × ((d : K) → Least before (λ m. get_or xs m d) j r n) × ((d : K) → before (get_or xs r d) (get_or xs j d) ≡ true)
  goes r ne is =
      let in' = was.inside in
      let fits = was.fits in
      let to : (d : K) → (j * 2 + 1 ≤ r) × (r ≤ j * 2 + 2) × (r < n) × Least before (λ m. get_or xs m d) j r n × (before (get_or xs r d) (get_or xs j d) ≡ true) = λ d. ⊎_elim (λ w. absurd (ne w.0)) (λ w. w) (next r is d) in
      let d = some_key handle xs (omega arith) in
      ((to d).0, (to d).1, (to d).2, λ e. (to e).3, λ e. (to e).4)

  -- it rests, and its place is told
  pub rests : {qs : List ℕ} (r : ℕ) → ((d : K) → next_down before (λ m. get_or xs m d) n j ≡ j) → ((d : K) → Over before (λ m. get_or xs m d) j) → ((d : K) → r ≡ handle (get_or xs j d)) → qs ≡ set ps r j → InOrder handle before xs qs n
  rests r is over named put =
      let under : (d : K) → Under before (λ m. get_or xs m d) j n = λ d. ⊎_elim (λ w. w.1) (λ w. let z = w.0 in absurd (omega arith)) (next j (λ e. sym (is e)) d) in
      subst (λ q. InOrder handle before xs q n) (sym put) (record {
        few = was.few;
        fits = was.fits;
        low = λ d i a. let l = was.low d i a in let z = length-set ps r j in (l.0, l.1, omega (arith, l.2));
        told = λ d i a. let low = was.low d j was.inside in grind (arith, cases_eq i j, named d, was.fresh d i, was.told d i, get_or-set_same ps r j 0, get_or-set_other ps r (handle (get_or xs i d)) j 0);
        heaped = λ d k e. closes o (λ m. get_or xs m d) j n (was.gap d) (over d) (under d) (k / 2) (k + 1) (omega arith) (omega arith) e;
      })

  -- one turn: it changes places with the key at y, whose new place is then told
  module _ (ys : List K) (y : ℕ) {qs : List ℕ} (long : length ys ≡ length xs) (s : SwappedAt xs ys j y) (put : (d : K) → qs ≡ set ps (handle (get_or ys j d)) j) where
    swapped : (d : K) → Swapped (λ m. get_or xs m d) (λ m. get_or ys m d) j y
    swapped d = (s.0 d, s.1 d, λ k u v. s.2 k d u v)

    moved : y < n → (j ≡ y → ⊥) → ((d : K) → Gap before (λ i. get_or ys i d) y n) → Sifting handle before ys qs n y × ((h : ℕ) → held handle ys n h ≡ held handle xs n h)
    moved iny jy gap =
        let fits = was.fits in
        let inside = was.inside in
        let d = some_key handle ys (omega arith) in
        let r = handle (get_or ys j d) in
        let named : (e : K) → r ≡ handle (get_or ys j e) = λ e. ap handle (get_or_default ys j d e (omega arith)) in (
          subst (λ q. Sifting handle before ys q n y) (sym (put d)) (step was ys y r iny jy long swapped named gap),
          step_held was ys y r iny jy long swapped named,
        )

    pub rise_step : 0 < j → y ≡ (j - 1) / 2 → ((d : K) → before (get_or xs j d) (get_or xs y d) ≡ true) → Sifting handle before ys qs n y × ((h : ℕ) → held handle ys n h ≡ held handle xs n h)
    rise_step pos up t =
        let in' = was.inside in
        moved (omega arith) (omega arith)
        (λ d. rises o (λ m. get_or xs m d) (λ m. get_or ys m d) y j n (omega arith) (omega arith) in' (turn handle (λ m. get_or xs m d) (λ m. get_or ys m d) j y (swapped d)) (t d) (was.gap d))

    pub sink_step : (y ≡ j → ⊥) → ((d : K) → y ≡ next_down before (λ m. get_or xs m d) n j) → (Sifting handle before ys qs n y × ((h : ℕ) → held handle ys n h ≡ held handle xs n h)) × ((d : K) → Over before (λ m. get_or ys m d) y)
    sink_step ne is =
        let to = goes y ne is in (
          moved to.2 (λ e. ne (sym e)) (λ d. sinks o (λ m. get_or xs m d) (λ m. get_or ys m d) j y n to.0 to.1 to.2 (swapped d) (to.4 d) (to.3 d) (was.gap d)),
          λ d. sinks_over o (λ m. get_or xs m d) (λ m. get_or ys m d) j y n to.0 to.1 to.2 (swapped d) (to.4 d),
        )
