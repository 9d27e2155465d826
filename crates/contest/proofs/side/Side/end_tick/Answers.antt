use Rattle.std.proofs.Common.{Some, sym, refl, ap, ◌∙◌}
use Rattle.contest.proofs.Playing.{handed_own, handed_none, handed_stray, plays_accepted, plays_refused, kept_refused, carried_again}
use Rattle.contest.proofs.side.Side.end_tick.Goals as goal

pub invariant_of-self-in-Err : goal.invariant_of-self-in-Err
invariant_of-self-in-Err g c =
    let x = c.args.self.now in
    let had = c.replace.ensures.after ∙ ap Some c.in-Err.ensures.unspent ∙ sym c.in-Some.is ∙ c.take.ensures.value in
    record { carried = carried_again g.D.Discipline x c.end.new.self c.replace.new.self (kept_refused c.args.end _ _ _ _ _ c.in-Err.ensures.does) had }

pub returns-in-Ok-clause-plays : goal.returns-in-Ok-clause-plays
returns-in-Ok-clause-plays g c =
    let a = c.args in
    let x = a.self.now in
    let own = c.in-Some.own in
    plays_accepted g.D.Discipline x _ own a.end a.hand tt (handed_own _ a.hand x.lease own c.in-Own.is (sym c.take.ensures.value ∙ c.in-Some.is)) c.in-Ok.ensures.does c.take.ensures.after

pub returns-in-None-clause-plays : goal.returns-in-None-clause-plays
returns-in-None-clause-plays g c =
    let a = c.args in
    let x = a.self.now in
    let r = c.hand_in_stray-cause in
    let free = sym c.take.ensures.value ∙ c.in-None.is in
    plays_refused g.D.Discipline x _ a.stray a.end a.hand r.result.0 r.result.1 (handed_none _ a.hand x.lease a.stray c.requires c.in-Own.is free) r.ensures.does
    (c.take.ensures.after ∙ sym free)

pub returns-in-Stray-clause-plays : goal.returns-in-Stray-clause-plays
returns-in-Stray-clause-plays g c =
    let a = c.args in
    let x = a.self.now in
    let r = c.hand_in_stray-cause-in-Stray in
    plays_refused g.D.Discipline x _ a.stray a.end a.hand r.result.0 r.result.1 (handed_stray _ a.hand x.lease a.stray c.requires c.in-Stray.is) r.ensures.does refl
