use Rattle.trace.specs.Walk.{Ahead}
use Rattle.safunwe.proofs.report.Given as goal

abbrev pub invariant-loop-line : goal.invariant-loop-line
invariant-loop-line g l = Ahead l.line-iterator
