use Rattle.std.proofs.Common.{rules}
use Rattle.std.proofs.lemmas.Result.{MatchResult-weaker}
use Rattle.trace.proofs.Unique.{one_list}
use Rattle.trace.proofs.Settled.{trace_settled}
use Rattle.trace.proofs.whole.whole_trace.Goals as goal

pub returns-then-is_too_long : goal.returns-then-is_too_long
returns-then-is_too_long c = search (rules, one_list, trace_settled)

pub returns : goal.returns
returns c = search (rules, one_list, trace_settled, MatchResult-weaker)
