use Rattle.std.proofs.Common.{arith}
use Rattle.queues.proofs.Turning.{full_turn}
use Rattle.queues.proofs.laws.full_turn_goes_behind.Goals as goal

pub returns : goal.returns
returns c = λ q n l behind ms h e some. full_turn q n l behind 0 ms h (omega arith) some
