-- FCFS, LCFS and round robin: each is the row discipline at a service of its own.
use Rattle.std.specs.Prelude.{ℕ, List, [], ◌∷◌, ◌++◌}
use Rattle.discipline.specs.declared.Discipline.{Ghosts}
use Rattle.discipline.specs.Meaning.{Move, cleared, admitted, worked}
use Rattle.queues.specs.declared.row_discipline.RowDiscipline.{RowDiscipline}
use Rattle.queues.specs.declared.fcfs.FirstCome.{FirstCome}
use Rattle.queues.specs.declared.lcfs.LastCome.{LastCome}
use Rattle.queues.specs.declared.round_robin.Turns.{Turns}
use Rattle.queues.specs.contracts.row_discipline.RowDisciplineDiscipline.TheImpl.{ghosts, no_dict}
use Rattle.queues.specs.contracts.fcfs.FirstCome.{the_row as first_row}
use Rattle.queues.specs.contracts.fcfs.FirstComeService.TheImpl.{ghosts as first_come}
use Rattle.queues.specs.contracts.lcfs.LastCome.{the_row as last_row}
use Rattle.queues.specs.contracts.lcfs.LastComeService.TheImpl.{ghosts as last_come}
use Rattle.queues.specs.contracts.round_robin.Turns.{the_row as turns_row}
use Rattle.queues.specs.contracts.round_robin.TurnsService.TheImpl.{ghosts as turns}
use Rattle.queues.specs.Queues.{Queue}
use Rattle.queues.specs.Rows.{leaves}
use Rattle.queues.specs.Views.{queue_of}

abbrev pub Fcfs : Type 0
Fcfs = RowDiscipline FirstCome

abbrev pub Lcfs : Type 0
Lcfs = RowDiscipline LastCome

abbrev pub RoundRobin : Type 0
RoundRobin = RowDiscipline Turns

-- ---- what each shows as a discipline
abbrev pub fcfs-ghosts : Ghosts Fcfs
fcfs-ghosts = ghosts first_row first_come no_dict no_dict

abbrev pub lcfs-ghosts : Ghosts Lcfs
lcfs-ghosts = ghosts last_row last_come no_dict no_dict

abbrev pub round-ghosts : Ghosts RoundRobin
round-ghosts = ghosts turns_row turns no_dict no_dict

-- ---- the queue that each keeps
abbrev pub fcfs_queue : Fcfs → Queue
fcfs_queue = queue_of first_come

abbrev pub lcfs_queue : Lcfs → Queue
lcfs_queue = queue_of last_come

abbrev pub round_queue : RoundRobin → Queue
round_queue = queue_of turns

-- ---- the order of admission
-- Under FCFS, the present jobs in the order in which they were admitted, the earliest first.
abbrev pub order_of : Fcfs → List ℕ
order_of d = d.jobs.row

-- A job that is admitted comes last; a finished one leaves; nobody else moves.
abbrev pub reordered : Move → List ℕ → List ℕ
reordered cleared row = []
reordered (admitted n z) row = row ++ n ∷ []
reordered (worked n l) row = leaves n l row
