-- The remaining work of each job under a schedule, and how it moves with an event.
use Rattle.std.proofs.Common.{◌≡◌, ℕ, suc, ◌-◌, ◌<◌, ◌≤◌, List, [], ◌∷◌, ◌++◌, length, get_or, set, sym, refl, ap, ◌∙◌, subst, inl, inr, zero-add, arith}
use Rattle.std.proofs.lemmas.List.FromFn.{length-map-range_with_len, get_or-map-range_with_len}
use Rattle.std.proofs.lemmas.List.{get_or_past, length_push, get_or_push, get_or_append_left, length-set, get_or-set_same, get_or-set_other, ext_get_or}
use Rattle.std.proofs.lemmas.Bool.{cases_lt, cases_eq, eq-eqb, ne_eqb}
use Rattle.schedule.specs.Histories.{History, enter, tick, lost, sizes, jobs, size_of, ticks}
use Rattle.schedule.specs.Schedules.{Entry, Schedule, job, idle, units, remaining, Present, Legal, LegalWithin}
use Rattle.schedule.specs.Computed.{remaining_by_job}

-- The jobs' work after an entry: one unit less of the job that it names.
abbrev pub served : Entry → List ℕ → List ℕ
served idle xs = xs
served (job j) xs = set xs j (get_or xs j 0 - 1)

-- There is one number for each job.
pub length-remaining : (h : History) (s : Schedule) → length (remaining_by_job h s) ≡ jobs h
length-remaining h s = length-map-range_with_len (remaining h s) 0 (jobs h)

-- A job's number in the list is its remaining work; past the list it is 0, as for a job that has not entered.
pub get_or-remaining : (h : History) (s : Schedule) (j : ℕ) → get_or (remaining_by_job h s) j 0 ≡ remaining h s j
get_or-remaining h s j = elim (cases_lt j (jobs h)) [
  | inl l ↦ get_or-map-range_with_len (remaining h s) 0 (jobs h) j j 0 l (zero-add j)
  | inr l ↦ omega (arith, get_or_past (remaining_by_job h s) j 0 (omega (arith, length-remaining h s)), get_or_past (sizes h) j 0 l)
]

-- An entry that names a job adds a unit of it.
pub units_same : (i j : ℕ) (s : Schedule) → i ≡ j → units j (job i ∷ s) ≡ suc (units j s)
units_same i j s e = rw (eq-eqb i j e) (omega arith)

-- An entry that names another job adds none.
pub units_other : (i j : ℕ) (s : Schedule) → (i ≡ j → ⊥) → units j (job i ∷ s) ≡ units j s
units_other i j s n = rw (ne_eqb i j n) (omega arith)

-- A job that is present has entered.
pub entered : (h : History) (s : Schedule) (j : ℕ) → Present h s j → j < jobs h
entered h s j p = elim (cases_lt j (jobs h)) [ inl l ↦ l | inr l ↦ absurd (omega (arith, get_or_past (sizes h) j 0 l)) ]

-- A legal schedule names nobody who has not entered.
pub unnamed : (h : History) (s : Schedule) → Legal h s → (j : ℕ) → jobs h ≤ j → units j s ≡ 0
unnamed [] [] p j l = refl
unnamed [] (e ∷ s) p j l = absurd p
unnamed (enter z ∷ h) s p j l = unnamed h s p j (omega (arith, length_push (sizes h) z))
unnamed (tick ∷ h) [] p j l = absurd p
unnamed (tick ∷ h) (idle ∷ s) p j l = unnamed h s p.0 j l
unnamed (tick ∷ h) (job i ∷ s) p j l = units_other i j s (λ e. omega (arith, entered h s i p.1)) ∙ unnamed h s p.0 j l
unnamed (lost ∷ h) [] p j l = absurd p
unnamed (lost ∷ h) (e ∷ s) p j l = ap (λ d. units j (d ∷ s)) p.1 ∙ unnamed h s p.0 j l

-- A new job leaves the remaining work of the others as it is.
pub remaining_old : (h : History) (s : Schedule) (z i : ℕ) → i < jobs h → remaining (enter z ∷ h) s i ≡ remaining h s i
remaining_old h s z i l = omega (arith, get_or_append_left (sizes h) (z ∷ []) 0 i l)

-- A new job has all of its size left.
pub remaining_new : (h : History) (s : Schedule) (z i : ℕ) → Legal h s → jobs h ≡ i → remaining (enter z ∷ h) s i ≡ z
remaining_new h s z i p e = omega (arith, unnamed h s p i (omega arith), get_or_push (sizes h) z 0 i e)

-- So it comes last in the list.
pub remaining_entered : (h : History) (s : Schedule) (z : ℕ) → Legal h s → remaining_by_job (enter z ∷ h) s ≡ remaining_by_job h s ++ z ∷ []
remaining_entered h s z p =
    let n = length-remaining h s in
    let n' = length-remaining (enter z ∷ h) s in
    let m = length_push (remaining_by_job h s) z in
    let m' = length_push (sizes h) z in
    ext_get_or 0 _ _ (omega arith)
    (λ i l. get_or-remaining (enter z ∷ h) s i
    ∙ elim (cases_lt i (jobs h)) [
      | inl k ↦ remaining_old h s z i k
          ∙ sym (get_or-remaining h s i)
          ∙ sym (get_or_append_left (remaining_by_job h s) (z ∷ []) 0 i (omega arith))
      | inr k ↦ remaining_new h s z i p (omega arith) ∙ sym (get_or_push (remaining_by_job h s) z 0 i (omega arith))
    ])

-- An entry takes a unit from the job that it names.
pub remaining_worked : (h : History) (s : Schedule) (j : ℕ) → remaining h (job j ∷ s) j ≡ remaining h s j - 1
remaining_worked h s j = omega (arith, units_same j j s refl)

-- An entry takes nothing from a job that it does not name.
pub remaining_other : (h : History) (s : Schedule) (j i : ℕ) → (j ≡ i → ⊥) → remaining h (job j ∷ s) i ≡ remaining h s i
remaining_other h s j i n = omega (arith, units_other j i s n)

get_or-served :
    (h : History) (s : Schedule) (j i : ℕ) → i < jobs h → remaining h (job j ∷ s) i ≡ get_or (served (job j) (remaining_by_job h s)) i 0
get_or-served h s j i l =
    let x = get_or (remaining_by_job h s) j 0 - 1 in
    elim (cases_eq j i) [
      | inl e ↦ subst (λ m. remaining h (job j ∷ s) m ≡ get_or (served (job j) (remaining_by_job h s)) m 0) e
          (remaining_worked h s j
          ∙ sym (ap (λ m. m - 1) (get_or-remaining h s j))
          ∙ sym (get_or-set_same (remaining_by_job h s) j x 0 (omega (arith, l, e, length-remaining h s))))
      | inr n ↦ remaining_other h s j i n
          ∙ sym (get_or-remaining h s i)
          ∙ sym (get_or-set_other (remaining_by_job h s) j i x 0 (λ e. n (sym e)))
    ]

-- An entry's unit, in the list.
pub remaining-served : (h : History) (s : Schedule) (e : Entry) → remaining_by_job h (e ∷ s) ≡ served e (remaining_by_job h s)
remaining-served h s idle = refl
remaining-served h s (job j) =
    let n = length-remaining h (job j ∷ s) in
    ext_get_or 0 _ _ (n ∙ sym (length-remaining h s) ∙ sym (length-set (remaining_by_job h s) j _))
    (λ i l. get_or-remaining h (job j ∷ s) i ∙ get_or-served h s j i (omega arith))

-- No job has more units than its size.
within : (h : History) (s : Schedule) → Legal h s → (j : ℕ) → units j s ≤ size_of h j
within [] [] p j = omega arith
within [] (e ∷ s) p j = absurd p
within (enter z ∷ h) s p j =
    elim (cases_lt j (jobs h)) [
      | inl l ↦ omega (arith, within h s p j, get_or_append_left (sizes h) (z ∷ []) 0 j l)
      | inr l ↦ omega (arith, unnamed h s p j l)
    ]
within (tick ∷ h) [] p j = absurd p
within (tick ∷ h) (idle ∷ s) p j = within h s p.0 j
within (tick ∷ h) (job i ∷ s) p j =
    elim (cases_eq i j) [
      | inl e ↦ omega (arith, units_same i j s e, subst (Present h s) e p.1)
      | inr n ↦ omega (arith, units_other i j s n, within h s p.0 j)
    ]
within (lost ∷ h) [] p j = absurd p
within (lost ∷ h) (e ∷ s) p j = omega (arith, ap (λ d. units j (d ∷ s)) p.1, within h s p.0 j)

-- A legal schedule has one entry for each tick that ended.
one_entry_a_tick : (h : History) (s : Schedule) → Legal h s → length s ≡ ticks h
one_entry_a_tick [] [] p = refl
one_entry_a_tick [] (e ∷ s) p = absurd p
one_entry_a_tick (enter z ∷ h) s p = one_entry_a_tick h s p
one_entry_a_tick (tick ∷ h) [] p = absurd p
one_entry_a_tick (tick ∷ h) (e ∷ s) p = omega (arith, one_entry_a_tick h s p.0)
one_entry_a_tick (lost ∷ h) [] p = absurd p
one_entry_a_tick (lost ∷ h) (e ∷ s) p = omega (arith, one_entry_a_tick h s p.0)

pub legal_within : LegalWithin
legal_within h s p = (one_entry_a_tick h s p, λ j. omega (arith, within h s p j))
