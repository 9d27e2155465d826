use Rattle.schedule.proofs.Following.{srpt_legal}
use Rattle.schedule.proofs.srpt_is_legal.Goals as goal

pub returns : goal.returns
returns c = srpt_legal
