use Rattle.std.proofs.Common.{arith, rules}
use Rattle.heap.proofs.Reading.{outside, free, taken}
use Rattle.heap.proofs.view.View.seat.Goals as goal

pub returns-then-handle-capacity : goal.returns-then-handle-capacity
returns-then-handle-capacity g c = outside c.args.self.now.order (omega arith)

pub returns-then-handle_at-handle : goal.returns-then-handle_at-handle
returns-then-handle_at-handle g c = taken c.args.self.now.order c.from-place.result (omega arith) (omega arith) (search rules)

pub returns : goal.returns
returns g c = free c.args.self.now.order (omega arith) (search rules)
