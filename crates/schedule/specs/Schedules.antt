-- Schedules: what the server does in each tick that ended, who is present, and which schedules are legal for a history.
use Rattle.std.specs.Prelude.{◌≡◌, ℕ, ◌+◌, ◌-◌, ◌<◌, cond, List, [], ◌∷◌, length, take, drop, ◌==◌}
use Rattle.schedule.specs.Histories.{History, enter, tick, lost, jobs, size_of, ticks}

-- What a schedule does in one tick: a unit of work on the job with this number, or nothing.
pub data Entry : Type 0 where
  job : ℕ → Entry
  idle : Entry

-- A schedule has one entry for each tick that ended, the newest first.
abbrev pub Schedule : Type 0
Schedule = List Entry

-- How many units of work are done on job j: the entries that name it.
abbrev pub units : ℕ → Schedule → ℕ
units j [] = 0
units j (idle ∷ s) = units j s
units j (job i ∷ s) = cond (i == j) 1 0 + units j s

-- The remaining work of a job: its size less its units.
abbrev pub remaining : History → Schedule → ℕ → ℕ
remaining h s j = size_of h j - units j s

-- A job is present if it has entered and has fewer units than its size. (A job that has not entered has size 0, so it is not present.)
abbrev pub Present : History → Schedule → ℕ → Type 0
Present h s j = units j s < size_of h j

-- A job is finished if it has entered and has no remaining work.
abbrev pub Finished : History → Schedule → ℕ → Type 0
Finished h s j = (j < jobs h) × (remaining h s j ≡ 0)

-- Nobody is present.
abbrev pub Nobody : History → Schedule → Type 0
Nobody h s = (j : ℕ) → Present h s j → ⊥

-- A rule of service: which entry a tick may have, given the events before that tick ended and the earlier entries.
abbrev pub Rule : Type 1
Rule = History → Schedule → Entry → Type 0

-- A schedule follows a rule for a history: it has one entry for each tick that ended, every lost tick is idle, and the rule allows the
-- entry of every other tick.
abbrev pub Follows : Rule → History → Schedule → Type 0
Follows R [] [] = Unit {0}
Follows R [] (e ∷ s) = ⊥
Follows R (enter z ∷ h) s = Follows R h s
Follows R (tick ∷ h) [] = ⊥
Follows R (tick ∷ h) (e ∷ s) = Follows R h s × R h s e
Follows R (lost ∷ h) [] = ⊥
Follows R (lost ∷ h) (e ∷ s) = Follows R h s × (e ≡ idle)

-- What a legal schedule may do in a tick that is not lost: idle, or a unit of a job that has entered before the tick ended and has fewer
-- units in earlier entries than its size.
abbrev pub Permitted : Rule
Permitted h s idle = Unit {0}
Permitted h s (job j) = Present h s j

-- A schedule is legal if every job that it names was present, and every lost tick is idle. It may idle while somebody is present.
abbrev pub Legal : History → Schedule → Type 0
Legal h s = Follows Permitted h s

-- The rule of not idling without need: a present job, or idle where nobody is present.
abbrev pub NonIdling : Rule
NonIdling h s idle = Nobody h s
NonIdling h s (job j) = Present h s j

-- A legal schedule is work-conserving if it idles only where nobody is present or the tick is lost.
abbrev pub WorkConserving : History → Schedule → Type 0
WorkConserving h s = Follows NonIdling h s

-- The entries of a schedule as they were before the history's last n events.
abbrev pub entries_before : ℕ → History → Schedule → Schedule
entries_before n h s = drop (ticks (take n h)) s

-- A legal schedule has as many entries as ticks ended, and gives no job more units than its size: of every job, the units and the
-- remaining work make up the size.
abbrev pub LegalWithin : Type 0
LegalWithin =
    (h : History) (s : Schedule) → Legal h s
    → (length s ≡ ticks h) × ((j : ℕ) → units j s + remaining h s j ≡ size_of h j)
