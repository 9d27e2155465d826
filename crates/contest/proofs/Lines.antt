-- The lines of the book keep to the history and the run's own schedule, call by call.
use Rattle.std.proofs.Common.{◌≡◌, ℕ, ◌+◌, ◌-◌, ◌<◌, Bool, cond, eqb, List, [], ◌∷◌, length, get_or, set, sym, refl, ap, ◌∙◌, subst, inl, inr, arith}
use Rattle.std.proofs.lemmas.List.{length_push, get_or_push, get_or_append_left, get_or-set_same, get_or-set_other}
use Rattle.std.proofs.lemmas.Bool.{cases_lt, cases_eq, lt-ltb, le-ltb, eq-eqb, ne_eqb}
use Rattle.job.specs.declared.name.Name.{Name}
use Rattle.run.specs.declared.line.Line.{Line}
use Rattle.run.specs.Lines.{unused, new_line, worked_line, sojourn_of}
use Rattle.schedule.specs.Histories.{History, enter, tick, lost, sizes, jobs, ticks, arrivals, Sized}
use Rattle.schedule.specs.Schedules.{Schedule, job, idle, remaining, Legal}
use Rattle.schedule.specs.Occupancy.{ticks_present}
use Rattle.schedule.specs.Sojourn.{finish}
use Rattle.schedule.proofs.Remaining.{remaining_old, remaining_new, remaining_worked, remaining_other}
use Rattle.schedule.proofs.Sojourn.{length-arrivals, finish_now, finish_still, finish_same, finish_not_yet, finish_none, sojourn_counted_lem}
use Rattle.contest.specs.Books.{LineOf, stay}

-- Every job that entered has its line.
abbrev pub Booked : History → Schedule → List Line → Type 0
Booked h s ls = (j : ℕ) → j < jobs h → LineOf h s j (get_or ls j unused)

-- A new job leaves the lines of the others right.
line_old : (h : History) (s : Schedule) (z j : ℕ) (l : Line) → j < jobs h → LineOf h s j l → LineOf (enter z ∷ h) s j l
line_old h s z j l k p = record {
  arrives = p.arrives ∙ sym (get_or_append_left (arrivals h) (ticks h ∷ []) 0 j (omega (arith, length-arrivals h)));
  sizes = p.sizes ∙ sym (get_or_append_left (sizes h) (z ∷ []) 0 j k);
  remains = p.remains ∙ sym (remaining_old h s z j k);
  finishes = p.finishes;
}

-- It has the clock as its arrival, and all of its size left.
line_new : (h : History) (s : Schedule) (w : Name) (t z j : ℕ) → Legal h s → jobs h ≡ j → t ≡ ticks h → LineOf (enter z ∷ h) s j (new_line w t z)
line_new h s w t z j p e f = record {
  arrives = f ∙ sym (get_or_push (arrivals h) (ticks h) 0 j (length-arrivals h ∙ e));
  sizes = sym (get_or_push (sizes h) z 0 j e);
  remains = sym (remaining_new h s z j p e);
  finishes = sym (finish_not_yet h s j (omega arith));
}

pub booked_enter :
    (h : History) (s : Schedule) (ls : List Line) (w : Name) (t z n : ℕ) → Legal h s → n ≡ jobs h → n < length ls → t ≡ ticks h
    → Booked h s ls → Booked (enter z ∷ h) s (set ls n (new_line w t z))
booked_enter h s ls w t z n p e l f b j k =
    let more = length_push (sizes h) z in
    elim (cases_eq j n) [
      | inl i ↦ subst (λ m. LineOf (enter z ∷ h) s m (get_or (set ls n (new_line w t z)) m unused)) (sym i)
          (subst (λ (x : Line). LineOf (enter z ∷ h) s n x) (sym (get_or-set_same ls n (new_line w t z) unused l)) (line_new h s w t z n p (sym e) f))
      | inr i ↦ let old : j < jobs h = omega arith in
          subst (λ (x : Line). LineOf (enter z ∷ h) s j x) (sym (get_or-set_other ls n j (new_line w t z) unused i))
          (line_old h s z j (get_or ls j unused) old (b j old))
    ]

-- A line of a job with work left, after a unit.
worked_is : (l : Line) (t : ℕ) → 0 < l.left
    → worked_line l t ≡ record { name = l.name; arrival = l.arrival; size = l.size; left = l.left - 1; finish = cond (eqb (l.left - 1) 0) t 0 }
worked_is l t p =
    ap {B = Line}
    (λ (b : Bool). cond b l (record { name = l.name; arrival = l.arrival; size = l.size; left = l.left - 1; finish = cond (eqb (l.left - 1) 0) t 0 }))
    (ne_eqb l.left 0 (λ e. omega arith))

-- The finish that a unit leaves.
worked_finish :
    (h : History) (s : Schedule) (j t : ℕ) → Legal h s → 0 < remaining h s j → t ≡ ticks h
    → cond (eqb (remaining h s j - 1) 0) t 0 ≡ finish (tick ∷ h) (job j ∷ s) j
worked_finish h s j t p l e =
    let less = remaining_worked h s j in
    elim (cases_lt 0 (remaining h s j - 1)) [
      | inl m ↦ ap (λ b. cond b t 0) (ne_eqb (remaining h s j - 1) 0 (λ x. omega arith))
          ∙ sym (finish_still h (job j ∷ s) j (omega arith) ∙ finish_none h s p j l)
      | inr m ↦ ap (λ b. cond b t 0) (eq-eqb (remaining h s j - 1) 0 (omega arith))
          ∙ e ∙ sym (finish_now h (job j ∷ s) j l (omega arith))
    ]

line_worked : (h : History) (s : Schedule) (j t : ℕ) (l : Line) → Legal h s → 0 < l.left → t ≡ ticks h → LineOf h s j l → LineOf (tick ∷ h) (job j ∷ s) j (worked_line l t)
line_worked h s j t l p m e q =
    subst (λ (x : Line). LineOf (tick ∷ h) (job j ∷ s) j x) (sym (worked_is l t m)) (record {
      arrives = q.arrives;
      sizes = q.sizes;
      remains = ap (λ n. n - 1) q.remains ∙ sym (remaining_worked h s j);
      finishes = ap (λ n. cond (eqb (n - 1) 0) t 0) q.remains ∙ worked_finish h s j t p (omega (arith, q.remains)) e;
    })

line_other : (h : History) (s : Schedule) (i j : ℕ) (l : Line) → (i ≡ j → ⊥) → LineOf h s j l → LineOf (tick ∷ h) (job i ∷ s) j l
line_other h s i j l n q = record {
  arrives = q.arrives;
  sizes = q.sizes;
  remains = q.remains ∙ sym (remaining_other h s i j n);
  finishes = q.finishes ∙ sym (finish_same h (job i ∷ s) j (remaining_other h s i j n));
}

pub booked_worked :
    (h : History) (s : Schedule) (ls : List Line) (i t : ℕ) → Legal h s → i < length ls → 0 < (get_or ls i unused).left → t ≡ ticks h
    → Booked h s ls → Booked (tick ∷ h) (job i ∷ s) (set ls i (worked_line (get_or ls i unused) t))
booked_worked h s ls i t p l m e b j k =
    let w = worked_line (get_or ls i unused) t in
    elim (cases_eq j i) [
      | inl x ↦ subst (λ n. LineOf (tick ∷ h) (job i ∷ s) n (get_or (set ls i w) n unused)) (sym x)
          (subst (λ (y : Line). LineOf (tick ∷ h) (job i ∷ s) i y) (sym (get_or-set_same ls i w unused l))
          (line_worked h s i t (get_or ls i unused) p m e (b i (subst (λ n. n < jobs h) x k))))
      | inr x ↦ subst (λ (y : Line). LineOf (tick ∷ h) (job i ∷ s) j y) (sym (get_or-set_other ls i j w unused x))
          (line_other h s i j (get_or ls j unused) (λ y. x (sym y)) (b j k))
    ]

pub booked_empty : (h : History) (s : Schedule) (ls : List Line) → Booked h s ls → Booked (tick ∷ h) (idle ∷ s) ls
booked_empty h s ls b j k = let q = b j k in
    record { arrives = q.arrives; sizes = q.sizes; remains = q.remains; finishes = q.finishes ∙ sym (finish_same h (idle ∷ s) j refl) }

pub booked_lost : (h : History) (s : Schedule) (ls : List Line) → Booked h s ls → Booked (lost ∷ h) (idle ∷ s) ls
booked_lost h s ls b j k = let q = b j k in record { arrives = q.arrives; sizes = q.sizes; remains = q.remains; finishes = q.finishes }

-- By its line a job has stayed for the ticks that it spent present.
pub stay_counted : (h : History) (s : Schedule) (c j : ℕ) (l : Line) → Sized h → Legal h s → j < jobs h → c ≡ ticks h → LineOf h s j l → stay c l ≡ ticks_present h s j
stay_counted h s c j l z p k e q =
    let counted = sojourn_counted_lem h s z p j in
    let a = q.arrives in
    let r = q.remains in
    let f = q.finishes in
    elim (cases_lt 0 l.left) [
      | inl m ↦ ap (λ b. cond b (c - l.arrival) (sojourn_of l)) (lt-ltb 0 l.left m) ∙ omega (arith, counted.1 (omega arith))
      | inr m ↦ ap (λ b. cond b (c - l.arrival) (cond b 0 (l.finish + 1 - l.arrival))) (le-ltb 0 l.left m) ∙ omega (arith, counted.0 (k, omega arith))
    ]
