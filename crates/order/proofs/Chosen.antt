-- The meanings of the row disciplines are sound, and the rows of first and of last come first served keep the order of entry.
use Rattle.std.proofs.Common.{◌≡◌, ℕ, List, ap}
use Rattle.queues.specs.Disciplines.{Fcfs, Lcfs, RoundRobin, fcfs-ghosts as fcfs, lcfs-ghosts as lcfs, round-ghosts as round, fcfs_queue, lcfs_queue, reordered}
use Rattle.discipline.specs.Meaning.{Move, cleared, admitted, worked, Sound}
use Rattle.queues.specs.Queues.{Queue, Rule, choice_by}
use Rattle.queues.specs.Queues as Q
use Rattle.queues.specs.Lasting.{rule_chosen}
use Rattle.queues.specs.declared.jobs.Jobs.{Jobs}

-- whichever rule picks
row_sound : (rule : Rule) (jobs : Jobs) → Sound jobs.left (choice_by rule jobs.row)
row_sound rule jobs = record { long = jobs.long; fits = jobs.fits; chosen = rule_chosen rule jobs.row jobs.left jobs.once }

pub fcfs_sound : (x : Fcfs) → Sound (fcfs.present x) (fcfs.choice x)
fcfs_sound x = row_sound Q.fcfs x.jobs

pub lcfs_sound : (x : Lcfs) → Sound (lcfs.present x) (lcfs.choice x)
lcfs_sound x = row_sound Q.lcfs x.jobs

pub round_sound : (x : RoundRobin) → Sound (round.present x) (round.choice x)
round_sound x = row_sound (Q.round_robin x.service.quantum.units) x.jobs

-- ---- the rows

abbrev pub fcfs_row : Fcfs → List ℕ
fcfs_row x = (fcfs_queue x).row

abbrev pub lcfs_row : Lcfs → List ℕ
lcfs_row x = (lcfs_queue x).row

abbrev row_in : Queue → List ℕ
row_in q = q.row

pub fcfs_moves : (v : Move) (x y : Fcfs) → fcfs.moves v x y → fcfs_row y ≡ reordered v (fcfs_row x)
fcfs_moves cleared x y h = ap row_in h
fcfs_moves (admitted n z) x y h = ap row_in h
fcfs_moves (worked n l) x y h = ap row_in h

pub lcfs_moves : (v : Move) (x y : Lcfs) → lcfs.moves v x y → lcfs_row y ≡ reordered v (lcfs_row x)
lcfs_moves cleared x y h = ap row_in h
lcfs_moves (admitted n z) x y h = ap row_in h
lcfs_moves (worked n l) x y h = ap row_in h
