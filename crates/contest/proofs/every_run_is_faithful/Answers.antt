use Rattle.contest.proofs.Comparing.{runs_faithful}
use Rattle.contest.proofs.every_run_is_faithful.Goals as goal

pub returns : goal.returns
returns g c = runs_faithful g.D.Discipline g.met.D.Discipline.sound
