use Rattle.std.proofs.Common.{◌≡◌, take, sum_by}
use Rattle.run.proofs.run.Run.unfinished.Given as goal

abbrev pub invariant-loop-line : goal.invariant-loop-line
invariant-loop-line g l = l.sum ≡ sum_by (λ x. x.left) (take l.line-index l.self.book.lines)
