-- Work: what is unfinished, and what was done.
use Rattle.std.specs.Prelude.{◌≡◌, ℕ, suc, ◌+◌, [], ◌∷◌, sum}
use Rattle.schedule.specs.Histories.{History, sizes, sum_over_jobs, before}
use Rattle.schedule.specs.Schedules.{Schedule, job, idle, remaining, Legal, WorkConserving, entries_before}

-- The unfinished work: the remaining work, summed over the jobs that entered.
abbrev pub unfinished : History → Schedule → ℕ
unfinished h s = sum_over_jobs h (remaining h s)

-- The units of work done: the entries that are not idle.
abbrev pub units_done : Schedule → ℕ
units_done [] = 0
units_done (idle ∷ s) = units_done s
units_done (job j ∷ s) = suc (units_done s)

-- Under every legal schedule the unfinished work is the sizes that entered, summed, less the units done. (As a sum, so that no
-- difference is cut off at 0.)
abbrev pub WorkBalance : Type 0
WorkBalance = (h : History) (s : Schedule) → Legal h s → unfinished h s + units_done s ≡ sum (sizes h)

-- Conservation of work: all work-conserving schedules of a history have the same unfinished work, at its end and before each of its
-- events. So whether anybody is present does not depend on the discipline.
abbrev pub WorkConserved : Type 0
WorkConserved =
    (h : History) (s t : Schedule) → WorkConserving h s → WorkConserving h t
    → (n : ℕ) → unfinished (before n h) (entries_before n h s) ≡ unfinished (before n h) (entries_before n h t)
