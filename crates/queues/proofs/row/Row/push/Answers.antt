use Rattle.std.proofs.Common.{ℕ, ◌+◌, ◌<◌, List, [], ◌∷◌, ◌++◌, length, set, ap, ◌∙◌, arith}
use Rattle.queues.specs.Rows.{in_ring}
use Rattle.queues.proofs.Ring.{long_row, row_push}
use Rattle.queues.proofs.row.Row.push.Goals as goal

pub returns : goal.returns
returns c =
    let r = c.self.inside in
    let room : r.len < 1024 = omega (arith, c.requires, ap length c.self.view_is, long_row c.self.invariant) in
    ap (λ n. in_ring (set r.items n c.args.number) r.front (r.len + 1)) c.place-at.ensures.is
    ∙ row_push c.self.invariant c.args.number room
    ∙ ap (λ (xs : List ℕ). xs ++ c.args.number ∷ []) c.self.view_is
