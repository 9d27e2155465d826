use Rattle.std.proofs.Common.{◌≡◌, None, rules}
use Rattle.std.proofs.lemmas.Result.{err_from_is_err_and}
use Rattle.trace.specs.Rules.{misplaced}
use Rattle.trace.specs.Tokens.{line_of}
use Rattle.trace.specs.Inner.{SeenMore}
use Rattle.trace.proofs.Sofar.{refused_line, walks_on}
use Rattle.trace.proofs.whole.read_lines.Goals as goal

pub returns-in_err-line : goal.returns-in_err-line
returns-in_err-line c =
    let p = err_from_is_err_and c.from_residual.result c.from_residual.ensures.1 in
    rw (p.1, p.2) (refused_line c.args.trace.now _ _ _ _ c.loop-line.invariant (rw c.in_err-line.was at c.in-Some.ensures.steps))

pub loop-line-preserved : goal.loop-line-preserved
loop-line-preserved c =
    let given = rw c.in_ok-line.was at c.in-Some.ensures.steps in
    let kept : misplaced c.loop-line.seen.earliest c.loop-line.seen.counts.jobs (line_of c.in_ok-line.line) ≡ None = search rules in
    let more : SeenMore c.loop-line.seen (line_of c.in_ok-line.line) c.in_ok-seen.seen = search rules in
    walks_on c.args.trace.now _ _ _ _ _ _ c.loop-line.invariant given kept more
