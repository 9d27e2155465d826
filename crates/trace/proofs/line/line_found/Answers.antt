use Rattle.trace.proofs.Reading.{no_lf, up_to_lf}
use Rattle.trace.proofs.line.line_found.Goals as goal

pub returns-in_err-line : goal.returns-in_err-line
returns-in_err-line c = rw c.from_residual-in_err-line.ensures (no_lf c.args.trace.now c.args.place _ c.in_ok-bytes.ensures.lookup.0.2 c.in_err-line.ensures.cuts)

pub returns-in_err-tokens : goal.returns-in_err-tokens
returns-in_err-tokens c = rw c.from_residual-in_err-tokens.ensures (λ l h.
    c.in_err-tokens.ensures l h.0 (up_to_lf c.args.trace.now c.args.place _ _ _ c.in_ok-bytes.ensures.lookup.0.2 c.in_ok-line.ensures.cuts l h))
