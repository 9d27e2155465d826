use Rattle.std.proofs.Common.{◌≡◌, ℕ, ◌<◌, length, get_or, rules}
use Rattle.trace.proofs.Cuts.{first_cut}
use Rattle.trace.proofs.span.Span.cut.Goals as goal

pub returns-clause-cuts : goal.returns-clause-cuts
returns-clause-cuts c =
    let l : c.in_ok-at.at < length c.args.self.bytes.now = search rules in
    let e : get_or c.args.self.bytes.now c.in_ok-at.at 0 ≡ c.args.end = search rules in
    let h : (k : ℕ) → k < c.in_ok-at.at → get_or c.args.self.bytes.now k 0 ≡ c.args.end → ⊥ = search rules in
    rw c.front.ensures.bytes (first_cut _ _ _ l e h)
