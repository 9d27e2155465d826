use Rattle.std.proofs.Common.{Ok, sym, ap, ◌∙◌}
use Rattle.refusal.specs.declared.Refusal.TheVariants.{NotHeld}
use Rattle.heap.proofs.Reading.{read_off, found}
use Rattle.heap.proofs.Edits as edits
use Rattle.heap.proofs.change.replace.Goals as goal

pub settle-requires : goal.settle-requires
settle-requires g c =
    let taken = read_off c.requires c.over.ensures c.handle.ensures (ap Ok (found c.in_ok-seat.seat NotHeld c.in_ok-at.at (sym c.ok_or.ensures.value ∙ c.in_ok-at.was))) c.in_ok-seat.ensures in
    edits.replaces g.met.K.Key.order c.requires c.args.key c.in_ok-at.at taken

pub returns-clause-holds : goal.returns-clause-holds
returns-clause-holds g c =
    let taken = read_off c.requires c.over.ensures c.handle.ensures (ap Ok (found c.in_ok-seat.seat NotHeld c.in_ok-at.at (sym c.ok_or.ensures.value ∙ c.in_ok-at.was))) c.in_ok-seat.ensures in
    λ h. c.settle.ensures.holds h ∙ edits.replace_held g.met.K.Key.order c.requires c.args.key c.in_ok-at.at taken h
