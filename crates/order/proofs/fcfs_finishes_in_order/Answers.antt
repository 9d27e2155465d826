use Rattle.std.proofs.Common.{refl}
use Rattle.queues.specs.Disciplines.{fcfs-ghosts as ghosts}
use Rattle.order.proofs.Chosen.{fcfs_sound, fcfs_row, fcfs_moves}
use Rattle.order.proofs.Entering.{by_earliest, finish_in_order}
use Rattle.order.proofs.fcfs_finishes_in_order.Goals as goal

pub returns : goal.returns
returns c m es r x = (
  (by_earliest ghosts fcfs_sound m fcfs_row fcfs_moves (λ y. refl) x).follows,
  finish_in_order ghosts fcfs_sound m fcfs_row fcfs_moves (λ y. refl) x,
)
