use Rattle.schedule.proofs.Work.{work_conserved_lem}
use Rattle.schedule.proofs.work_conserved.Goals as goal

pub returns : goal.returns
returns c = work_conserved_lem
