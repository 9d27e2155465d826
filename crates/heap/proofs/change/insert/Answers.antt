use Rattle.std.proofs.Common.{Ok, sym, ap, ◌∙◌}
use Rattle.heap.proofs.Reading.{read_off, vacant}
use Rattle.heap.proofs.Edits as edits
use Rattle.heap.proofs.change.insert.Goals as goal

pub bounds-keys-n : goal.bounds-keys-n
bounds-keys-n g c =
    let free = read_off c.requires c.over.ensures c.handle.ensures (ap Ok (vacant c.in_ok-seat.field-0 (sym c.is_some.ensures ∙ c.if-is_some.false))) c.in_ok-seat.ensures in
    (edits.room c.requires c.args.key free).1

pub settle-requires : goal.settle-requires
settle-requires g c =
    let free = read_off c.requires c.over.ensures c.handle.ensures (ap Ok (vacant c.in_ok-seat.field-0 (sym c.is_some.ensures ∙ c.if-is_some.false))) c.in_ok-seat.ensures in
    edits.inserts c.requires c.args.key free

pub returns-clause-holds : goal.returns-clause-holds
returns-clause-holds g c =
    let free = read_off c.requires c.over.ensures c.handle.ensures (ap Ok (vacant c.in_ok-seat.field-0 (sym c.is_some.ensures ∙ c.if-is_some.false))) c.in_ok-seat.ensures in
    λ h. c.settle.ensures.holds h ∙ edits.insert_held c.requires c.args.key free h
