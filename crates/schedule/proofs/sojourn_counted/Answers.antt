use Rattle.schedule.proofs.Sojourn.{sojourn_counted_lem}
use Rattle.schedule.proofs.sojourn_counted.Goals as goal

pub returns : goal.returns
returns c = sojourn_counted_lem
