use Rattle.std.proofs.Common.{◌-◌, ◌+◌, Some, take, sym, ap, ◌∙◌, arith}
use Rattle.std.specs.List.{position}
use Rattle.std.proofs.lemmas.List.{length-take-le}
use Rattle.queues.proofs.Found.{is, position_front, position_back, position_neither}
use Rattle.queues.proofs.Ring.{in_parts}
use Rattle.queues.proofs.row.Row.find.Goals as goal

pub returns-in-Some : goal.returns-in-Some
returns-in-Some c =
    let n = c.args.number in
    let r = c.self.inside in
    let s = c.min-straight.result in
    let behind = c.split_at.result.0.now in
    let ahead = c.split_at.result.1.now in
    sym (position_front n (take s ahead) (take (r.len - s) behind) c.in-Some.at (sym c.first_place.ensures ∙ c.in-Some.is))
    ∙ ap (position (is n)) (sym (in_parts r.items r.front r.len s behind ahead c.split_at.ensures.front c.split_at.ensures.back c.min-straight.ensures) ∙ c.self.view_is)

pub returns-in_err-at : goal.returns-in_err-at
returns-in_err-at c =
    let n = c.args.number in
    let r = c.self.inside in
    let s = c.min-straight.result in
    let behind = c.split_at.result.0.now in
    let ahead = c.split_at.result.1.now in
    c.from_residual.ensures
    ∙ sym (position_neither n (take s ahead) (take (r.len - s) behind) (sym c.first_place.ensures ∙ c.in_default.is) (sym c.first_place-2.ensures ∙ c.in_err-at.was))
    ∙ ap (position (is n)) (sym (in_parts r.items r.front r.len s behind ahead c.split_at.ensures.front c.split_at.ensures.back c.min-straight.ensures) ∙ c.self.view_is)

pub returns : goal.returns
returns c =
    let n = c.args.number in
    let r = c.self.inside in
    let s = c.min-straight.result in
    let behind = c.split_at.result.0.now in
    let ahead = c.split_at.result.1.now in
    let at = c.in_ok-at.at in
    ap (λ k. Some (k + at)) (sym (length-take-le s ahead (omega (arith, c.min-straight.ensures))))
    ∙ sym (position_back n (take s ahead) (take (r.len - s) behind) at (sym c.first_place.ensures ∙ c.in_default.is) (sym c.first_place-2.ensures ∙ c.in_ok-at.was))
    ∙ ap (position (is n)) (sym (in_parts r.items r.front r.len s behind ahead c.split_at.ensures.front c.split_at.ensures.back c.min-straight.ensures) ∙ c.self.view_is)
