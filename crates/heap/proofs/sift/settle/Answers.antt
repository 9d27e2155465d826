use Rattle.std.proofs.Common.{◌∙◌, arith}
use Rattle.heap.proofs.Steps as steps
use Rattle.heap.proofs.sift.settle.Goals as goal

pub loop-up-preserved : goal.loop-up-preserved
loop-up-preserved g c =
    let l = c.loop-up in
    let up = c.in-Some.ensures in
    let turn = c.exchange.ensures in
    let step = steps.rise_step g.met.K.Key.order l.invariant.sifts c.exchange.new.keys c.in-Some.up turn.len turn.swapped turn.told up.0 up.1 up.2 in
    record { sifts = step.0; holds = λ h. step.1 h ∙ l.invariant.holds h }

pub loop-child-preserved : goal.loop-child-preserved
loop-child-preserved g c =
    let l = c.loop-child in
    let down = c.in-Some-next_down.ensures in
    let below = down.0 in
    let turn = c.exchange-in-Some-next_down.ensures in
    let step = steps.sink_step g.met.K.Key.order l.invariant.sifts c.exchange-in-Some-next_down.new.keys c.in-Some-next_down.child turn.len turn.swapped turn.told (λ e. omega arith) down.2 in
    record { sifts = step.0.0; holds = λ h. step.0.1 h ∙ l.invariant.holds h; over = step.1 }

pub tell-requires : goal.tell-requires
tell-requires g c =
    let was = c.loop-child.invariant.sifts in
    steps.tellable g.met.K.Key.order was c.loop-child.at c.handle_at-rested.result was.inside c.handle_at-rested.ensures

pub returns-clause-order : goal.returns-clause-order
returns-clause-order g c =
    let l = c.loop-child in
    steps.rests g.met.K.Key.order l.invariant.sifts c.handle_at-rested.result c.in_default-next_down.ensures l.invariant.over c.handle_at-rested.ensures c.tell.ensures
