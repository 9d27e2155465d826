use Rattle.std.proofs.Common.{ap, ◌∙◌, arith}
use Rattle.heap.proofs.Handles.{some_key}
use Rattle.heap.proofs.sift.exchange.Goals as goal

pub tell-requires : goal.tell-requires
tell-requires g c =
    let inside = c.requires.inside in
    let d = some_key g.K.Key.handle_of c.args.keys.now (omega arith) in
    (omega (arith, c.requires.tellable d, c.handle_at-displaced.ensures d ∙ ap g.K.Key.handle_of (c.swap.ensures.by_index.0 d)), inside.0)
