use Rattle.srpt.specs.contracts.srpt.SrptDiscipline.TheImpl.{ghosts}
use Rattle.srpt.specs.Jobs.{least_sound}
use Rattle.srpt.specs.Choosing.{least_best}
use Rattle.contest.proofs.Comparing.{runs_compared}
use Rattle.contest.proofs.srpt_keeps_fewest.Goals as goal

pub returns : goal.returns
returns g c = runs_compared ghosts g.D.Discipline least_sound (λ x. least_best (ghosts.present x)) g.met.D.Discipline.sound
