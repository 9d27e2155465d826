use Rattle.std.proofs.Common.{◌≡◌, take}
use Rattle.run.specs.Lines.{longest_of}
use Rattle.run.proofs.run.Run.longest.Given as goal

abbrev pub invariant-loop-line : goal.invariant-loop-line
invariant-loop-line g l = l.longest ≡ longest_of (take l.line-index l.self.book.lines)
