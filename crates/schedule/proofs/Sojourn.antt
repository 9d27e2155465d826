-- The ticks that a job spent present are its sojourn once it is finished, and the clock less its arrival until then.
use Rattle.std.proofs.Common.{◌≡◌, ℕ, ◌+◌, ◌<◌, ◌≤◌, false, cond, ◌&&◌, eqb, ltb, [], ◌∷◌, length, drop, sym, refl, ap, ◌∙◌, subst, inl, inr, arith}
use Rattle.std.proofs.lemmas.List.{length_push, get_or_push, get_or_past, get_or_append_left}
use Rattle.std.proofs.lemmas.Bool.Decides.{nat_tests}
use Rattle.std.proofs.lemmas.Bool.{cases_lt, cases_eq, lt-ltb, le-ltb, eq-eqb}
use Rattle.schedule.specs.Histories.{History, enter, tick, lost, sizes, jobs, ticks, arrivals, arrival, Sized}
use Rattle.schedule.specs.Schedules.{Entry, Schedule, job, idle, units, remaining, Legal}
use Rattle.schedule.specs.Occupancy.{ticks_present}
use Rattle.schedule.specs.Sojourn.{finish, SojournCounted}
use Rattle.schedule.proofs.Remaining.{units_same, units_other, unnamed, entered}
use Rattle.schedule.proofs.Counting.{presence_yes, presence_no}
use Rattle.schedule.proofs.Occupancy.{not_yet}

-- Every job that entered has an arrival.
pub length-arrivals : (h : History) → length (arrivals h) ≡ jobs h
length-arrivals [] = refl
length-arrivals (enter z ∷ h) = omega (arith, length_push (arrivals h) (ticks h), length_push (sizes h) z, length-arrivals h)
length-arrivals (tick ∷ h) = length-arrivals h
length-arrivals (lost ∷ h) = length-arrivals h

-- Where every job has a unit of work, so had those before the last one entered.
pub sized-before : (h : History) (z : ℕ) → Sized (enter z ∷ h) → Sized h
sized-before h z p j l = omega (arith, p j (omega (arith, length_push (sizes h) z)), get_or_append_left (sizes h) (z ∷ []) 0 j l)

-- And so has the last one.
pub sized_last : (h : History) (z : ℕ) → Sized (enter z ∷ h) → 0 < z
sized_last h z p = omega (arith, p (jobs h) (omega (arith, length_push (sizes h) z)), get_or_push (sizes h) z 0 (jobs h) refl)

-- An entry does not add to a job's remaining work.
pub remaining_falls : (h : History) (s : Schedule) (e : Entry) (j : ℕ) → remaining h (e ∷ s) j ≤ remaining h s j
remaining_falls h s idle j = omega arith
remaining_falls h s (job i) j =
    elim (cases_eq i j) [ inl e ↦ omega (arith, units_same i j s e) | inr n ↦ omega (arith, units_other i j s n) ]

-- The finish of a job whose remaining work became 0 in the last tick is that tick.
pub finish_now :
    (h : History) (s : Schedule) (j : ℕ) → 0 < remaining h (drop 1 s) j → remaining h s j ≡ 0 → finish (tick ∷ h) s j ≡ ticks h
finish_now h s j l e = rw (lt-ltb 0 (remaining h (drop 1 s) j) l, eq-eqb (remaining h s j) 0 e)

-- The finish of a job that had none before the last tick is as it was.
pub finish_past : (h : History) (s : Schedule) (j : ℕ) → remaining h (drop 1 s) j ≡ 0 → finish (tick ∷ h) s j ≡ finish h (drop 1 s) j
finish_past h s j e = rw (le-ltb 0 (remaining h (drop 1 s) j) (omega arith))

-- The finish of a job that has work left after the last tick is as it was.
pub finish_still : (h : History) (s : Schedule) (j : ℕ) → 0 < remaining h s j → finish (tick ∷ h) s j ≡ finish h (drop 1 s) j
finish_still h s j l =
    let not_done : (ltb 0 (remaining h (drop 1 s) j) && eqb (remaining h s j) 0) ≡ false = grind (arith, nat_tests) in
    ap (λ b. cond b (ticks h) (finish h (drop 1 s) j)) not_done

-- The finish of a job that the last tick left as it was is as it was.
pub finish_same :
    (h : History) (s : Schedule) (j : ℕ) → remaining h s j ≡ remaining h (drop 1 s) j → finish (tick ∷ h) s j ≡ finish h (drop 1 s) j
finish_same h s j e =
    elim (cases_lt 0 (remaining h (drop 1 s) j)) [
      | inl l ↦ finish_still h s j (omega arith)
      | inr l ↦ finish_past h s j (omega arith)
    ]

-- No job finishes after the clock.
pub finish_by_now : (h : History) (s : Schedule) (j : ℕ) → finish h s j ≤ ticks h
finish_by_now [] s j = omega arith
finish_by_now (enter z ∷ h) s j = finish_by_now h s j
finish_by_now (tick ∷ h) s j =
    elim (cases_lt 0 (remaining h s j)) [
      | inl l ↦ omega (arith, finish_still h s j l, finish_by_now h (drop 1 s) j)
      | inr l ↦ elim (cases_lt 0 (remaining h (drop 1 s) j)) [
        | inl m ↦ omega (arith, finish_now h s j m (omega arith))
        | inr m ↦ omega (arith, finish_past h s j (omega arith), finish_by_now h (drop 1 s) j)
      ]
    ]
finish_by_now (lost ∷ h) s j = omega (arith, finish_by_now h (drop 1 s) j)

-- A job that has not entered has no finish.
pub finish_not_yet : (h : History) (s : Schedule) (j : ℕ) → jobs h ≤ j → finish h s j ≡ 0
finish_not_yet [] s j l = refl
finish_not_yet (enter z ∷ h) s j l = finish_not_yet h s j (omega (arith, length_push (sizes h) z))
finish_not_yet (tick ∷ h) s j l = finish_past h s j (omega (arith, get_or_past (sizes h) j 0 l)) ∙ finish_not_yet h (drop 1 s) j l
finish_not_yet (lost ∷ h) s j l = finish_not_yet h (drop 1 s) j l

-- A job that has work left has no finish.
pub finish_none : (h : History) (s : Schedule) → Legal h s → (j : ℕ) → 0 < remaining h s j → finish h s j ≡ 0
finish_none [] s p j l = refl
finish_none (enter z ∷ h) s p j l =
    elim (cases_lt j (jobs h)) [
      | inl k ↦ finish_none h s p j (omega (arith, get_or_append_left (sizes h) (z ∷ []) 0 j k))
      | inr k ↦ finish_not_yet h s j k
    ]
finish_none (tick ∷ h) [] p j l = absurd p
finish_none (tick ∷ h) (e ∷ s) p j l = finish_still h (e ∷ s) j l ∙ finish_none h s p.0 j (omega (arith, remaining_falls h s e j))
finish_none (lost ∷ h) [] p j l = absurd p
finish_none (lost ∷ h) (e ∷ s) p j l = finish_none h s p.0 j (omega (arith, remaining_falls h s e j))

-- What is to be shown of a job, without subtraction.
record Stay (h : History) (s : Schedule) (j : ℕ) : Type 0 where
  pub in_order : remaining h s j ≡ 0 → arrival h j ≤ finish h s j
  pub finished : remaining h s j ≡ 0 → ticks_present h s j + arrival h j ≡ finish h s j + 1
  pub waiting : 0 < remaining h s j → ticks_present h s j + arrival h j ≡ ticks h

-- A tick in which a job was present is one more, and it may finish it.
stay-tick : (h : History) (s : Schedule) (e : Entry) (j : ℕ) → Stay h s j → Stay (tick ∷ h) (e ∷ s) j
stay-tick h s e j p =
    elim (cases_lt 0 (remaining h s j)) [
      | inl l ↦ record {
        in_order = λ z. omega (arith, finish_now h (e ∷ s) j l z, p.waiting l);
        finished = λ z. omega (arith, finish_now h (e ∷ s) j l z, p.waiting l, presence_yes h s j (omega arith));
        waiting = λ m. omega (arith, p.waiting l, presence_yes h s j (omega arith));
      }
      | inr l ↦ record {
        in_order = λ z. omega (arith, finish_past h (e ∷ s) j (omega arith), p.in_order (omega arith));
        finished = λ z. omega (arith, finish_past h (e ∷ s) j (omega arith), p.finished (omega arith), presence_no h s j (omega arith));
        waiting = λ m. absurd (omega (arith, remaining_falls h s e j));
      }
    ]

-- A lost tick in which a job was present is one more.
stay_lost : (h : History) (s : Schedule) (j : ℕ) → Stay h s j → Stay (lost ∷ h) (idle ∷ s) j
stay_lost h s j p = record {
  in_order = λ z. p.in_order z;
  finished = λ z. omega (arith, p.finished z, presence_no h s j (omega arith));
  waiting = λ m. omega (arith, p.waiting m, presence_yes h s j (omega arith));
}

-- A new job leaves the others as they are.
stay_old : (h : History) (s : Schedule) (x j : ℕ) → j < jobs h → Stay h s j → Stay (enter x ∷ h) s j
stay_old h s x j k p =
    let a = get_or_append_left (sizes h) (x ∷ []) 0 j k in
    let b = get_or_append_left (arrivals h) (ticks h ∷ []) 0 j (omega (arith, length-arrivals h)) in
    record {
      in_order = λ e. omega (arith, p.in_order (omega arith));
      finished = λ e. omega (arith, p.finished (omega arith));
      waiting = λ e. omega (arith, p.waiting (omega arith));
    }

-- A new job starts now.
stay_new :
    (h : History) (s : Schedule) (x j : ℕ) → jobs h ≡ j → 0 < x → ticks_present h s j ≡ 0 → units j s ≡ 0 → Stay (enter x ∷ h) s j
stay_new h s x j k z u n =
    let a = get_or_push (sizes h) x 0 j k in
    let b = get_or_push (arrivals h) (ticks h) 0 j (length-arrivals h ∙ k) in
    record { in_order = λ e. absurd (omega arith); finished = λ e. absurd (omega arith); waiting = λ e. omega arith }

stays : (h : History) (s : Schedule) → Sized h → Legal h s → (j : ℕ) → j < jobs h → Stay h s j
stays [] s z p j l = absurd (omega arith)
stays (enter x ∷ h) s z p j l =
    elim (cases_lt j (jobs h)) [
      | inl k ↦ stay_old h s x j k (stays h s (sized-before h x z) p j k)
      | inr k ↦ stay_new h s x j (omega (arith, length_push (sizes h) x)) (sized_last h x z) (not_yet h s j k) (unnamed h s p j k)
    ]
stays (tick ∷ h) [] z p j l = absurd p
stays (tick ∷ h) (e ∷ s) z p j l = stay-tick h s e j (stays h s z p.0 j l)
stays (lost ∷ h) [] z p j l = absurd p
stays (lost ∷ h) (e ∷ s) z p j l =
    subst (λ d. Stay (lost ∷ h) (d ∷ s) j) (sym p.1) (stay_lost h s j (stays h s z p.0 j l))

pub sojourn_counted_lem : SojournCounted
sojourn_counted_lem h s z p j = (
  (λ f. let m = stays h s z p j f.0 in (m.in_order f.1, omega (arith, m.finished f.1))),
  λ q. let m = stays h s z p j (entered h s j q) in
      (omega (arith, m.waiting (omega arith)), omega (arith, m.waiting (omega arith))),
)
