use Rattle.run.proofs.Tying.{tied_run}
use Rattle.run.proofs.every_run_is_tied.Goals as goal

pub returns : goal.returns
returns g c = λ r. tied_run g.D.Discipline g.met.D.Discipline.sound r
