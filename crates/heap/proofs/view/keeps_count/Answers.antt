use Rattle.heap.proofs.Counts.{in_order_counted}
use Rattle.heap.proofs.view.keeps_count.Goals as goal

pub returns : goal.returns
returns g c = in_order_counted c.requires.1
