-- The balance of work, and that all work-conserving schedules have the same work unfinished.
use Rattle.std.proofs.Common.{◌≡◌, ℕ, ◌+◌, ◌-◌, ◌<◌, List, [], ◌∷◌, length, get_or, sum, sym, refl, ap, ◌∙◌, arith}
use Rattle.std.proofs.lemmas.List.Sums.{sum_by-cons, sum_by_push, sum_by-set}
use Rattle.schedule.specs.Histories.{History, enter, tick, lost, sizes, before}
use Rattle.schedule.specs.Schedules.{Schedule, job, idle, Nobody, NonIdling, WorkConserving}
use Rattle.schedule.specs.Work.{unfinished, units_done, WorkBalance, WorkConserved}
use Rattle.schedule.specs.Computed.{remaining_by_job}
use Rattle.schedule.proofs.Outside.{outside, none_outside}
use Rattle.schedule.proofs.Following.{conserving_legal, follows_before}
use Rattle.schedule.proofs.Remaining.{get_or-remaining, length-remaining, remaining_entered, remaining-served, entered}

pub work_balance_lem : WorkBalance
work_balance_lem [] [] p = refl
work_balance_lem [] (e ∷ s) p = absurd p
work_balance_lem (enter z ∷ h) s p =
    omega
    (arith, ap sum (remaining_entered h s z p), sum_by_push (λ x. x) (remaining_by_job h s) z, sum_by_push (λ x. x) (sizes h) z, work_balance_lem h s p)
work_balance_lem (tick ∷ h) [] p = absurd p
work_balance_lem (tick ∷ h) (idle ∷ s) p = work_balance_lem h s p.0
work_balance_lem (tick ∷ h) (job j ∷ s) p =
    let xs = remaining_by_job h s in
    let below : j < length xs = omega (arith, entered h s j p.1, length-remaining h s) in
    let taken = sum_by-set (λ x. x) xs j (get_or xs j 0 - 1) 0 below in
    omega (arith, ap sum (remaining-served h s (job j)), taken, get_or-remaining h s j, p.1, work_balance_lem h s p.0)
work_balance_lem (lost ∷ h) [] p = absurd p
work_balance_lem (lost ∷ h) (e ∷ s) p = ap (λ d. unfinished h (d ∷ s) + units_done (d ∷ s)) p.1 ∙ work_balance_lem h s p.0

-- The unfinished work of a work-conserving schedule, by the history alone: each tick that is not lost takes a unit, if there is one.
abbrev workload : History → ℕ
workload [] = 0
workload (enter z ∷ h) = workload h + z
workload (tick ∷ h) = workload h - 1
workload (lost ∷ h) = workload h

-- With nobody set aside, all work is outside.
all_outside : (xs : List ℕ) → outside 0 xs ≡ sum xs
all_outside [] = refl
all_outside (x ∷ xs) = omega (arith, all_outside xs, sum_by-cons (λ y. y) x xs)

-- Where nobody is present nothing is unfinished.
nobody_no_work : (h : History) (s : Schedule) → Nobody h s → unfinished h s ≡ 0
nobody_no_work h s none =
    omega
    (arith, all_outside (remaining_by_job h s), none_outside 0 (remaining_by_job h s) (λ i p. none i (omega (arith, get_or-remaining h s i))))

unfinished-workload : (h : History) (s : Schedule) → WorkConserving h s → unfinished h s ≡ workload h
unfinished-workload [] s p = refl
unfinished-workload (enter z ∷ h) s p =
    let l = conserving_legal h s p in
    omega
    (arith, work_balance_lem (enter z ∷ h) s l, work_balance_lem h s l, sum_by_push (λ x. x) (sizes h) z, unfinished-workload h s p)
unfinished-workload (tick ∷ h) [] p = absurd p
unfinished-workload (tick ∷ h) (idle ∷ s) p = omega (arith, unfinished-workload h s p.0, nobody_no_work h s p.1)
unfinished-workload (tick ∷ h) (job j ∷ s) p =
    let l = conserving_legal (tick ∷ h) (job j ∷ s) p in
    omega (arith, work_balance_lem (tick ∷ h) (job j ∷ s) l, work_balance_lem h s l.0, unfinished-workload h s p.0)
unfinished-workload (lost ∷ h) [] p = absurd p
unfinished-workload (lost ∷ h) (e ∷ s) p = ap (λ d. unfinished h (d ∷ s)) p.1 ∙ unfinished-workload h s p.0

pub work_conserved_lem : WorkConserved
work_conserved_lem h s t p q n =
    unfinished-workload (before n h) _ (follows_before NonIdling n h s p)
    ∙ sym (unfinished-workload (before n h) _ (follows_before NonIdling n h t q))
