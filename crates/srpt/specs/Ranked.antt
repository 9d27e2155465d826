-- The ranking of SRPT: jobs by left work.
use Rattle.std.specs.Prelude.{Bool, true, Some, None, Option}
use Rattle.job.specs.Rules.{good_size}
use Rattle.heap.specs.declared.ranking.Ranking.{Ranking}
use Rattle.keys.specs.declared.left.LeftKey.{LeftKey}
use Rattle.keys.specs.contracts.left.LeftKeyKey.TheImpl.{ghosts}

-- A ranking of jobs by left work: its keys have the job numbers as their handles, and stand in the order of left work.
abbrev pub JobRanking : Type 0
JobRanking = Ranking LeftKey ghosts

-- A key that is held has left work 1 to 10,000.
abbrev pub sized : Option LeftKey → Bool
sized None = true
sized (Some k) = good_size k.left
