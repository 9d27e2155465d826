use Rattle.schedule.proofs.Computed.{srpt_exists_lem}
use Rattle.schedule.proofs.srpt_exists.Goals as goal

pub returns : goal.returns
returns c = srpt_exists_lem
