use Rattle.std.proofs.Common.{refl}
use Rattle.queues.specs.Disciplines.{lcfs-ghosts as ghosts}
use Rattle.order.proofs.Chosen.{lcfs_sound, lcfs_row, lcfs_moves}
use Rattle.order.proofs.Entering.{by_latest, largest}
use Rattle.order.proofs.lcfs_serves_latest.Goals as goal

pub returns : goal.returns
returns c m es r x = (
  (by_latest ghosts lcfs_sound m lcfs_row lcfs_moves (λ y. refl) x).follows,
  largest ghosts lcfs_sound m lcfs_row lcfs_moves (λ y. refl) es r x,
)
