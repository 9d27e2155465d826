-- Schedules that follow a rule: they follow every weaker rule, and did so at every earlier point of the history.
use Rattle.std.proofs.Common.{ℕ, zero, suc, [], ◌∷◌}
use Rattle.schedule.specs.Histories.{History, enter, tick, lost, before}
use Rattle.schedule.specs.Schedules.{Entry, Schedule, job, idle, Rule, Follows, Permitted, Legal, NonIdling, WorkConserving, entries_before}
use Rattle.schedule.specs.Srpt.{Shortest, Srpt, SrptLegal}

-- A schedule that follows a rule follows every weaker one.
pub follows_weaker :
    (R Q : Rule) → ((h : History) (s : Schedule) (e : Entry) → R h s e → Q h s e)
    → (h : History) (s : Schedule) → Follows R h s → Follows Q h s
follows_weaker R Q w [] [] p = tt
follows_weaker R Q w [] (e ∷ s) p = p
follows_weaker R Q w (enter z ∷ h) s p = follows_weaker R Q w h s p
follows_weaker R Q w (tick ∷ h) [] p = p
follows_weaker R Q w (tick ∷ h) (e ∷ s) p = (follows_weaker R Q w h s p.0, w h s e p.1)
follows_weaker R Q w (lost ∷ h) [] p = p
follows_weaker R Q w (lost ∷ h) (e ∷ s) p = (follows_weaker R Q w h s p.0, p.1)

shortest_nonidling : (h : History) (s : Schedule) (e : Entry) → Shortest h s e → NonIdling h s e
shortest_nonidling h s idle p = p
shortest_nonidling h s (job j) p = p.0

pub nonidling_permitted : (h : History) (s : Schedule) (e : Entry) → NonIdling h s e → Permitted h s e
nonidling_permitted h s idle p = tt
nonidling_permitted h s (job j) p = p

pub shortest_permitted : (h : History) (s : Schedule) (e : Entry) → Shortest h s e → Permitted h s e
shortest_permitted h s e p = nonidling_permitted h s e (shortest_nonidling h s e p)

pub conserving_legal : (h : History) (s : Schedule) → WorkConserving h s → Legal h s
conserving_legal = follows_weaker NonIdling Permitted nonidling_permitted

pub srpt_conserving : (h : History) (s : Schedule) → Srpt h s → WorkConserving h s
srpt_conserving = follows_weaker Shortest NonIdling shortest_nonidling

pub srpt_is_legal_lem : (h : History) (s : Schedule) → Srpt h s → Legal h s
srpt_is_legal_lem h s p = conserving_legal h s (srpt_conserving h s p)

pub srpt_legal : SrptLegal
srpt_legal h s = (srpt_conserving h s, conserving_legal h s)

-- Before the last n events the schedule followed the rule too.
pub follows_before :
    (R : Rule) (n : ℕ) (h : History) (s : Schedule) → Follows R h s → Follows R (before n h) (entries_before n h s)
follows_before R zero h s p = p
follows_before R (suc n) [] s p = p
follows_before R (suc n) (enter z ∷ h) s p = follows_before R n h s p
follows_before R (suc n) (tick ∷ h) [] p = absurd p
follows_before R (suc n) (tick ∷ h) (e ∷ s) p = follows_before R n h s p.0
follows_before R (suc n) (lost ∷ h) [] p = absurd p
follows_before R (suc n) (lost ∷ h) (e ∷ s) p = follows_before R n h s p.0
