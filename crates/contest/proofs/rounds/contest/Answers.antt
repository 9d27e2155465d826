use Rattle.std.proofs.Common.{◌≡◌, ℕ, List, reverse, refl, ◌∙◌, subst, arith}
use Rattle.std.proofs.lemmas.List.{take_all}
use Rattle.contest.specs.declared.calls.Round.{Round}
use Rattle.contest.specs.Contested.{Led}
use Rattle.contest.proofs.Standing.{led_made, led_strange, contested, turned_again}
use Rattle.contest.proofs.rounds.contest.Goals as goal

pub loop-round-init : goal.loop-round-init
loop-round-init g c =
    let e : ◌≡◌ {A = ℕ} c.mark.result c.args.stray.mark = c.mark.ensures in
    let marks = c.other_marks-first in
    let x = c.new-srpt in
    let y = c.new-rival in (
      led_made g.D.Discipline g.met.D.Discipline.sound c.args.stray marks.result.0 marks.result.1 x.result y.result x.ensures.is y.ensures.is x.ensures.free y.ensures.free
          (λ i. marks.ensures.0 (e ∙ i)) (λ i. marks.ensures.1 (e ∙ i)),
      refl,
    )

pub turn-requires : goal.turn-requires
turn-requires g c =
    let l = c.loop-round in
    led_strange g.D.Discipline g.met.D.Discipline.sound c.args.stray l.srpt l.rival l.stray l.invariant.0

pub loop-round-preserved : goal.loop-round-preserved
loop-round-preserved g c =
    let l = c.loop-round in
    let t = c.turn in
    turned_again g.D.Discipline g.met.D.Discipline.sound c.args.stray l.rounds c.args.rounds.now l.round-index _ t.result.0
    l.srpt l.rival l.stray t.new.srpt t.new.rival t.result.1 (omega arith) l.invariant t.ensures

pub invariant_of-result : goal.invariant_of-result
invariant_of-result g c =
    let l = c.loop-round in
    let q = led_strange g.D.Discipline g.met.D.Discipline.sound c.args.stray l.srpt l.rival l.stray l.invariant.0 in
    record { strange_to_srpt = q.0; strange_to_rival = q.1 }

pub returns : goal.returns
returns g c =
    let l = c.loop-round in
    contested g.D.Discipline g.met.D.Discipline.sound c.args.stray c.args.rounds.now l.rounds _ l.invariant.1
    (subst (λ (rs : List Round). Led g.D.Discipline c.args.stray (reverse rs) l.srpt l.rival l.stray) (take_all l.round-index l.rounds (omega arith)) l.invariant.0)
