-- Schedules that are computed from a history: FCFS, and SRPT with ties to the smaller number.
use Rattle.std.specs.Prelude.{ℕ, zero, suc, ◌≤◌, cond, List, [], ◌∷◌, map, nat_le, slice_index}
use Rattle.std.specs.List.{range_with_len}
use Rattle.schedule.specs.Histories.{History, enter, tick, lost, jobs}
use Rattle.schedule.specs.Schedules.{Schedule, Entry, job, idle, remaining, Present}
use Rattle.schedule.specs.Srpt.{Shortest, Srpt}

-- The remaining work of each job that entered, by number.
abbrev pub remaining_by_job : History → Schedule → List ℕ
remaining_by_job h s = map (remaining h s) (range_with_len 0 (jobs h))

-- The schedule of a history in which a choice, made from the remaining work of each job, fills every tick that is not lost.
abbrev pub scheduled : (List ℕ → Entry) → History → Schedule
scheduled choice [] = []
scheduled choice (enter z ∷ h) = scheduled choice h
scheduled choice (tick ∷ h) = choice (remaining_by_job h (scheduled choice h)) ∷ scheduled choice h
scheduled choice (lost ∷ h) = idle ∷ scheduled choice h

-- The same job, counted with one more before it.
abbrev pub one_later : Entry → Entry
one_later idle = idle
one_later (job j) = job (suc j)

-- The choice of FCFS: the present job with the smallest number, which entered first.
abbrev pub earliest : List ℕ → Entry
earliest [] = idle
earliest (zero ∷ xs) = one_later (earliest xs)
earliest (suc x ∷ xs) = job 0

-- Of a present job with x left and the choice among those after it, with xs left: the one with less, and the first where they are equal.
abbrev pub shorter : ℕ → List ℕ → Entry → Entry
shorter x xs idle = job 0
shorter x xs (job i) = cond (nat_le x (slice_index xs i)) (job 0) (job (suc i))

-- The choice of SRPT: the present job with the least remaining work; among equals, the one with the smallest number.
abbrev pub shortest : List ℕ → Entry
shortest [] = idle
shortest (zero ∷ xs) = one_later (shortest xs)
shortest (suc x ∷ xs) = shorter (suc x) xs (shortest xs)

-- The schedule of a history by first come, first served.
abbrev pub fcfs : History → Schedule
fcfs = scheduled earliest

-- The schedule of a history by shortest remaining processing time, ties to the smaller number.
abbrev pub srpt : History → Schedule
srpt = scheduled shortest

-- No other present job with as little remaining work, or less, has a smaller number.
abbrev pub FirstOfEquals : History → Schedule → Entry → Type 0
FirstOfEquals h s idle = Unit {0}
FirstOfEquals h s (job j) = (i : ℕ) → Present h s i → remaining h s i ≤ remaining h s j → j ≤ i

-- The computed choice keeps the rule of SRPT, and breaks ties by the smaller number.
abbrev pub ShortestChosen : Type 0
ShortestChosen =
    (h : History) (s : Schedule)
    → Shortest h s (shortest (remaining_by_job h s)) × FirstOfEquals h s (shortest (remaining_by_job h s))

-- Every history has an SRPT schedule, the computed one: what is said of SRPT schedules is never said of none.
abbrev pub SrptExists : Type 0
SrptExists = (h : History) → Srpt h (srpt h)
