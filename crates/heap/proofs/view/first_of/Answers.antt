use Rattle.std.proofs.Common.{ap, ◌∙◌, arith}
use Rattle.heap.proofs.Reading.{foremost}
use Rattle.heap.proofs.view.first_of.Goals as goal

pub returns : goal.returns
returns g c = foremost c.requires.1 g.met.K.Key.order c.handle.result c.index-keys-0.result (omega arith) (c.handle.ensures ∙ ap g.K.Key.handle_of c.index-keys-0.is)
