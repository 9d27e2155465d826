-- What is read off a transcript: the calls made on a run, each with its answer, the newest first.
use Rattle.std.specs.Prelude.{ℕ, List, [], ◌∷◌, take, drop, Some, None, Ok, Err, Option, Result}
use Rattle.refusal.specs.declared.Refusal.{Refusal}
use Rattle.refusal.specs.Answers.{and_then, if_accepted}
use Rattle.run.specs.declared.lease.Lease.{Lease}
use Rattle.run.specs.Histories as Run
use Rattle.run.specs.Histories.{Event, ticks}
use Rattle.schedule.specs.Histories.{History, enter, tick, lost}
use Rattle.schedule.specs.Schedules.{Schedule, job, idle}

-- A call was accepted, or refused for a cause. (Each cause has a number of its own, so the same cause is the same number.)
abbrev pub Verdict : Type 0
Verdict = Result (Unit {0}) Refusal

-- A refused done or back hands the lease back with the cause.
abbrev pub without_lease : Result (Unit {0}) (Refusal × Lease) → Verdict
without_lease (Ok _) = Ok tt
without_lease (Err e) = Err e.0

-- The verdict on a call.
abbrev pub verdict : Event → Verdict
verdict (Run.enter n z r) = and_then r (Ok tt)
verdict (Run.take r) = and_then r (Ok tt)
verdict (Run.done l r) = without_lease r
verdict (Run.back l r) = without_lease r
verdict (Run.pass r) = and_then r (Ok tt)

-- The lease that is out after a call, where o was out before it: an accepted take gives one, an accepted done or back takes it in.
abbrev pub lease_after : Event → Option Lease → Option Lease
lease_after (Run.enter n z r) o = o
lease_after (Run.take (Ok l)) o = Some l
lease_after (Run.take (Err e)) o = o
lease_after (Run.done l r) o = if_accepted r None o
lease_after (Run.back l r) o = if_accepted r None o
lease_after (Run.pass r) o = o

-- The lease that is out.
abbrev pub lease_out : List Event → Option Lease
lease_out [] = None
lease_out (e ∷ es) = lease_after e (lease_out es)

-- The history: the jobs that entered, the ticks that ended in which the server could work, and the lost ticks.
abbrev pub history : List Event → History
history [] = []
history (Run.enter n z r ∷ es) = if_accepted r (enter z ∷ history es) (history es)
history (Run.take r ∷ es) = history es
history (Run.done l r ∷ es) = if_accepted r (tick ∷ history es) (history es)
history (Run.back l r ∷ es) = if_accepted r (lost ∷ history es) (history es)
history (Run.pass r ∷ es) = if_accepted r (tick ∷ history es) (history es)

-- The run's own schedule: the job of the lease for a worked tick, idle for a lost or an empty one.
abbrev pub own_schedule : List Event → Schedule
own_schedule [] = []
own_schedule (Run.enter n z r ∷ es) = own_schedule es
own_schedule (Run.take r ∷ es) = own_schedule es
own_schedule (Run.done l r ∷ es) = if_accepted r (job l.job ∷ own_schedule es) (own_schedule es)
own_schedule (Run.back l r ∷ es) = if_accepted r (idle ∷ own_schedule es) (own_schedule es)
own_schedule (Run.pass r ∷ es) = if_accepted r (idle ∷ own_schedule es) (own_schedule es)

-- The entries of a schedule as they were before the last n calls: those of the ticks that these calls ended are left out.
abbrev pub entries_before : ℕ → List Event → Schedule → Schedule
entries_before n es s = drop (ticks (take n es)) s
