use Rattle.trace.proofs.Sofar.{Walked}
use Rattle.trace.proofs.whole.read_lines.Given as goal

abbrev pub invariant-loop-line : goal.invariant-loop-line
invariant-loop-line l = Walked l.trace l.line-iterator l.seen
