use Rattle.std.proofs.Common.{ℕ, List, length, ap, ◌∙◌, arith}
use Rattle.queues.specs.Rows.{gapless}
use Rattle.queues.proofs.Ring.{long_row, closed}
use Rattle.queues.proofs.row.Row.close.Goals as goal

pub returns : goal.returns
returns c =
    let r = c.self.inside in
    let long = c.self.invariant.long in
    let used = ap (λ (xs : List ℕ). length xs) c.self.view_is in
    closed r.items r.front r.len c.args.at c.rotate_left.new.self (omega (arith, c.if-end-gt-MAX_JOBS.false, long)) (omega (arith, c.requires, used, long_row c.self.invariant)) c.rotate_left.ensures.after
    ∙ ap (λ (xs : List ℕ). gapless xs c.args.at) c.self.view_is
