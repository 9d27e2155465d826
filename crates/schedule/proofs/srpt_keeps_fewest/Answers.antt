use Rattle.schedule.proofs.Fewest.{srpt_fewest}
use Rattle.schedule.proofs.srpt_keeps_fewest.Goals as goal

pub returns : goal.returns
returns c = srpt_fewest
