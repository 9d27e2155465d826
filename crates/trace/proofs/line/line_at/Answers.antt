use Rattle.trace.proofs.Numbers.{by_digits}
use Rattle.trace.proofs.Unique.{one_line}
use Rattle.trace.proofs.Settled.{line_settled, line_by_line}
use Rattle.trace.proofs.line.line_at.Goals as goal

pub returns : goal.returns
returns c = record { reads = c.read_line.ensures; digits = by_digits; unique = one_line; settled = line_settled; onward = line_by_line }
