use Rattle.schedule.proofs.Fewest.{srpt_least_total}
use Rattle.schedule.proofs.srpt_least_total.Goals as goal

pub returns : goal.returns
returns c = srpt_least_total
