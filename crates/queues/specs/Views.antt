-- The queue that a row discipline keeps.
use Rattle.queues.specs.declared.row_discipline.RowDiscipline.{RowDiscipline}
use Rattle.queues.specs.declared.service.Service.{Ghosts}
use Rattle.queues.specs.Queues.{Queue, queue}

abbrev pub queue_of : {S : Type 0} → Ghosts S → RowDiscipline S → Queue
queue_of s d = queue (s.rule d.service) d.jobs.row (s.turn d.service)
