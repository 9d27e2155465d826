-- In which order the disciplines that keep a row serve: laws over whole runs, whatever calls were made of them.
use Rattle.std.specs.Prelude.{◌≡◌, ℕ, ◌<◌, ◌≤◌, List, Some, slice_index, slice_index_or}
use Rattle.queues.specs.Disciplines.{Fcfs, Lcfs, fcfs-ghosts as fcfs, lcfs-ghosts as lcfs}
use Rattle.discipline.specs.declared.Discipline.{Ghosts}
use Rattle.run.specs.declared.run.Run.{Run}
use Rattle.run.specs.declared.line.Line.{Line}
use Rattle.run.specs.Lines.{unused}
use Rattle.run.specs.Runs.{meaning}
use Rattle.run.specs.Histories.{Event}
use Rattle.run.specs.Courses.{Course}
use Rattle.schedule.specs.Schedules.{Follows}
use Rattle.schedule.specs.Orders.{Earliest, Latest}
use Rattle.contest.specs.Transcripts.{history, own_schedule}

-- The line of job j.
abbrev pub line_of : {D : Type 0} {d : Ghosts D} → Run D d → ℕ → Line
line_of r j = slice_index_or r.book.lines j unused

-- Under FCFS the run's own schedule serves the job that entered earliest; so once a job is finished, every job that entered before it is
-- finished too, and finished no later.
abbrev pub FcfsInOrder : Type 0
FcfsInOrder =
    (m : ℕ) (es : List Event) (r : Run Fcfs fcfs) → Course fcfs m es r
    → Follows Earliest (history es) (own_schedule es)
    × ((i j : ℕ) → i < j → j < r.book.entered → (line_of r j).left ≡ 0 → ((line_of r i).left ≡ 0) × ((line_of r i).finish ≤ (line_of r j).finish))

-- Under LCFS the run's own schedule serves the job that entered latest; and at every point the choice has no later-admitted job present.
abbrev pub LcfsServesLatest : Type 0
LcfsServesLatest =
    (m : ℕ) (es : List Event) (r : Run Lcfs lcfs) → Course lcfs m es r
    → Follows Latest (history es) (own_schedule es)
    × ((j i : ℕ) → (meaning lcfs r).choice ≡ Some j → 0 < slice_index (meaning lcfs r).present i → i ≤ j)
