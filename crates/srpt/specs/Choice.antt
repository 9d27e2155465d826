-- The choice of SRPT, made from the left work of each job alone.
use Rattle.std.specs.Prelude.{ℕ, List, Some, None, Option}
use Rattle.schedule.specs.Schedules.{Entry, job, idle}
use Rattle.schedule.specs.Computed.{shortest}

-- The job that an entry of a schedule names, or none where it is idle.
abbrev pub named : Entry → Option ℕ
named (job j) = Some j
named idle = None

-- Of the left work of each job, 0 for one that is not present: the present job with the least, the smallest number of equals.
abbrev pub least : List ℕ → Option ℕ
least left = named (shortest left)
