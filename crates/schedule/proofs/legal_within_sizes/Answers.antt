use Rattle.schedule.proofs.Remaining.{legal_within}
use Rattle.schedule.proofs.legal_within_sizes.Goals as goal

pub returns : goal.returns
returns c = legal_within
