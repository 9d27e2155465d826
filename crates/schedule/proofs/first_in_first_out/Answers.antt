use Rattle.schedule.proofs.Orders.{first_in_first_out_lem}
use Rattle.schedule.proofs.first_in_first_out.Goals as goal

pub returns : goal.returns
returns c = first_in_first_out_lem
