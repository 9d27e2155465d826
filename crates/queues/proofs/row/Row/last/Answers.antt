use Rattle.std.proofs.Common.{get_or, Some, ap, ◌∙◌, arith}
use Rattle.queues.specs.Standing.{last_is}
use Rattle.queues.proofs.row.Row.last.Goals as goal

pub returns : goal.returns
returns c =
    let row = c.args.self.now in
    let s = c.in_ok-last.ensures in
    ap Some (c.number_at.ensures ∙ ap (λ n. get_or row n 0) (omega (arith, s, c.len.ensures.counts))) ∙ last_is row (omega (arith, s, c.len.ensures.counts))
