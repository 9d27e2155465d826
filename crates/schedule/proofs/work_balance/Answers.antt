use Rattle.schedule.proofs.Work.{work_balance_lem}
use Rattle.schedule.proofs.work_balance.Goals as goal

pub returns : goal.returns
returns c = work_balance_lem
