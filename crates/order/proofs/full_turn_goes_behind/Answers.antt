use Rattle.order.proofs.Turning.{full_turn_goes_behind_lem}
use Rattle.order.proofs.full_turn_goes_behind.Goals as goal

pub returns : goal.returns
returns c = full_turn_goes_behind_lem
