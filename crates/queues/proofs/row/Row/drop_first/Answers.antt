use Rattle.std.proofs.Common.{drop, ap, ◌∙◌}
use Rattle.queues.specs.Rows.{in_ring}
use Rattle.queues.proofs.Ring.{row_next}
use Rattle.queues.proofs.row.Row.drop_first.Goals as goal

pub returns-clause-rest : goal.returns-clause-rest
returns-clause-rest c =
    let r = c.self.inside in
    (λ i. in_ring r.items (c.place-self-inside.ensures.is i) (c.saturating_sub-self-inside.ensures i))
    ∙ row_next c.self.invariant
    ∙ ap (drop 1) c.self.view_is
