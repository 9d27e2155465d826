use Rattle.std.proofs.Common.{◌≡◌, ◌<◌, get_or, sym, refl, ap, ◌∙◌, arith}
use Rattle.std.proofs.lemmas.List.{get_or_default}
use Rattle.heap.proofs.Edits as edits
use Rattle.heap.proofs.change.close_gap.Goals as goal

pub settle-requires : goal.settle-requires
settle-requires g c =
    let fits = c.requires.order.fits in
    let key = c.index-keys-last.result in
    let last : (d : g.row.K.Denot) → get_or c.args.keys.now c.args.last d ≡ key = λ d. get_or_default c.args.keys.now c.args.last d key (omega arith) ∙ sym c.index-keys-last.is in
    let below : c.args.at < c.args.last = (let within = c.requires.gap in let other = c.if-at-last.true in omega arith) in
    edits.fills g.met.K.Key.order c.requires.order c.args.last refl c.args.at key below last

pub returns-then-at-last-clause-holds : goal.returns-then-at-last-clause-holds
returns-then-at-last-clause-holds g c =
    let fits = c.requires.order.fits in
    let key = c.index-keys-last.result in
    let last : (d : g.row.K.Denot) → get_or c.args.keys.now c.args.last d ≡ key = λ d. get_or_default c.args.keys.now c.args.last d key (omega arith) ∙ sym c.index-keys-last.is in
    let below : c.args.at < c.args.last = (let within = c.requires.gap in let other = c.if-at-last.true in omega arith) in
    λ x is h. c.settle.ensures.holds h ∙ edits.fill_held g.met.K.Key.order c.requires.order c.args.last refl c.args.at key below last x is h

pub returns-else-at-last-clause-holds : goal.returns-else-at-last-clause-holds
returns-else-at-last-clause-holds g c = λ x is. edits.drop_held c.requires.order c.args.last refl x (λ d. ap (λ i. g.K.Key.handle_of (get_or c.args.keys.now i d)) (sym c.if-at-last.false) ∙ is d)
