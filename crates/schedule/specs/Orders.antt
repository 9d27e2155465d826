-- Service in the order of entry: the rules of first come first served and of last come first served, and what the first is good for.
use Rattle.std.specs.Prelude.{ℕ, ◌<◌, ◌≤◌}
use Rattle.schedule.specs.Histories.{History, Sized}
use Rattle.schedule.specs.Schedules.{Schedule, job, idle, Present, Finished, Nobody, Rule, Follows}
use Rattle.schedule.specs.Sojourn.{finish}

-- First come, first served: the present job that entered earliest; idle where nobody is present.
abbrev pub Earliest : Rule
Earliest h s idle = Nobody h s
Earliest h s (job j) = Present h s j × ((i : ℕ) → Present h s i → j ≤ i)

-- Last come, first served, preemptive: the present job that entered latest; idle where nobody is present.
abbrev pub Latest : Rule
Latest h s idle = Nobody h s
Latest h s (job j) = Present h s j × ((i : ℕ) → Present h s i → i ≤ j)

-- First come, first served, is first in, first out: once a job is finished, every job that entered before it is finished too, and finished
-- no later.
abbrev pub FirstInFirstOut : Type 0
FirstInFirstOut =
    (h : History) (s : Schedule) → Sized h → Follows Earliest h s
    → (i j : ℕ) → i < j → Finished h s j → Finished h s i × (finish h s i ≤ finish h s j)
