-- SRPT keeps the fewest present: for every k it has the least work outside k jobs, after every event.
use Rattle.std.proofs.Common.{◌≡◌, ℕ, zero, suc, pred, ◌≤◌, [], ◌∷◌, ap, arith}
use Rattle.schedule.specs.Histories.{History, enter, tick, lost, before}
use Rattle.schedule.specs.Schedules.{Entry, Schedule, job, idle, Permitted, Legal}
use Rattle.schedule.specs.Occupancy.{occupancy}
use Rattle.schedule.specs.Computed.{remaining_by_job}
use Rattle.schedule.specs.Srpt.{Shortest, Srpt, SrptFewest, SrptLeastTotal}
use Rattle.schedule.proofs.Outside.{outside, outside_push, outside_push_zero, unit_lowers, least_lowers, none_remains, none_outside, count_positive, count_positive_le}
use Rattle.schedule.proofs.Remaining.{remaining_entered, remaining-served, get_or-remaining}
use Rattle.schedule.proofs.Following.{srpt_is_legal_lem, follows_before}
use Rattle.schedule.proofs.Counting.{occupancy_positive}

-- Any entry lowers the work outside k by one at most.
entry_lowers :
    (k : ℕ) (h : History) (s : Schedule) (e : Entry) → outside k (remaining_by_job h s) ≤ suc (outside k (remaining_by_job h (e ∷ s)))
entry_lowers k h s idle = omega arith
entry_lowers k h s (job j) = rw (remaining-served h s (job j)) (unit_lowers k j (remaining_by_job h s))

-- An entry by SRPT lowers it by one, unless it is 0.
shortest_lowers :
    (k : ℕ) (h : History) (s : Schedule) (e : Entry) → Shortest h s e
    → outside k (remaining_by_job h (e ∷ s)) ≤ pred (outside k (remaining_by_job h s))
shortest_lowers k h s idle none =
    omega (arith, none_outside k (remaining_by_job h s) (λ i p. none i (omega (arith, get_or-remaining h s i))))
shortest_lowers k h s (job j) p =
    rw (remaining-served h s (job j))
    (least_lowers k j (remaining_by_job h s) (omega (arith, get_or-remaining h s j))
    (λ i q. omega (arith, get_or-remaining h s i, get_or-remaining h s j, p.1 i (omega (arith, get_or-remaining h s i)))))

-- The invariant: for every k, SRPT has the least work outside k jobs.
least-outside :
    (h : History) (s t : Schedule) → Srpt h s → Legal h t → (k : ℕ) → outside k (remaining_by_job h s) ≤ outside k (remaining_by_job h t)
least-outside [] s t p q k = omega arith
least-outside (enter z ∷ h) s t p q zero =
    rw (remaining_entered h s z (srpt_is_legal_lem h s p), remaining_entered h t z q)
    (omega
    (arith, outside_push_zero (remaining_by_job h s) z, outside_push_zero (remaining_by_job h t) z, least-outside h s t p q 0))
least-outside (enter z ∷ h) s t p q (suc k) =
    rw (remaining_entered h s z (srpt_is_legal_lem h s p), remaining_entered h t z q)
    (omega
    (arith, outside_push k (remaining_by_job h s) z, outside_push k (remaining_by_job h t) z, least-outside h s t p q k, least-outside h s t p q (suc k)))
least-outside (tick ∷ h) [] t p q k = absurd p
least-outside (tick ∷ h) (e ∷ s) [] p q k = absurd q
least-outside (tick ∷ h) (e ∷ s) (f ∷ t) p q k =
    omega (arith, shortest_lowers k h s e p.1, entry_lowers k h t f, least-outside h s t p.0 q.0 k)
least-outside (lost ∷ h) [] t p q k = absurd p
least-outside (lost ∷ h) (e ∷ s) [] p q k = absurd q
least-outside (lost ∷ h) (e ∷ s) (f ∷ t) p q k =
    omega
    (arith, ap (λ d. outside k (remaining_by_job h (d ∷ s))) p.1, ap (λ d. outside k (remaining_by_job h (d ∷ t))) q.1, least-outside h s t p.0 q.0 k)

-- So the fewest are present at the end: set aside those who are present under the other schedule, and SRPT has no work outside them.
pub fewest_at_end : (h : History) (s t : Schedule) → Srpt h s → Legal h t → occupancy h s ≤ occupancy h t
fewest_at_end h s t p q =
    let c = count_positive (remaining_by_job h t) in
    let none : outside c (remaining_by_job h s) ≡ 0 = omega (arith, least-outside h s t p q c, none_remains (remaining_by_job h t)) in
    omega (arith, occupancy_positive h s, occupancy_positive h t, count_positive_le c (remaining_by_job h s) none)

pub srpt_fewest : SrptFewest
srpt_fewest h s t p q n = fewest_at_end (before n h) _ _ (follows_before Shortest n h s p) (follows_before Permitted n h t q)

pub srpt_least_total : SrptLeastTotal
srpt_least_total [] s t p q = omega arith
srpt_least_total (enter z ∷ h) s t p q = srpt_least_total h s t p q
srpt_least_total (tick ∷ h) [] t p q = absurd p
srpt_least_total (tick ∷ h) (e ∷ s) [] p q = absurd q
srpt_least_total (tick ∷ h) (e ∷ s) (f ∷ t) p q =
    omega (arith, fewest_at_end h s t p.0 q.0, srpt_least_total h s t p.0 q.0)
srpt_least_total (lost ∷ h) [] t p q = absurd p
srpt_least_total (lost ∷ h) (e ∷ s) [] p q = absurd q
srpt_least_total (lost ∷ h) (e ∷ s) (f ∷ t) p q =
    omega (arith, fewest_at_end h s t p.0 q.0, srpt_least_total h s t p.0 q.0)
