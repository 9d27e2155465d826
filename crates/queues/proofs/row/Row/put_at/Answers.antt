use Rattle.std.proofs.Common.{ℕ, ◌<◌, List, length, set, ap, ◌∙◌, arith}
use Rattle.queues.specs.Rows.{in_ring}
use Rattle.queues.proofs.Ring.{long_row, row_set}
use Rattle.queues.proofs.row.Row.put_at.Goals as goal

pub returns : goal.returns
returns c =
    let r = c.self.inside in
    let used : c.args.k < r.len = omega (arith, c.requires, ap length c.self.view_is, long_row c.self.invariant) in
    ap (λ n. in_ring (set r.items n c.args.number) r.front r.len) c.place-at.ensures.is
    ∙ row_set c.self.invariant c.args.k c.args.number used
    ∙ ap (λ (xs : List ℕ). set xs c.args.k c.args.number) c.self.view_is
