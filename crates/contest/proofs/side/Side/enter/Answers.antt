use Rattle.std.proofs.Common.{refl, rules}
use Rattle.run.specs.Histories.{enter}
use Rattle.contest.specs.declared.calls.Reply.TheVariants.{Entered}
use Rattle.contest.specs.Chains.{enters}
use Rattle.contest.proofs.Playing.{mapped}
use Rattle.contest.proofs.side.Side.enter.Goals as goal

pub returns : goal.returns
returns g c = record {
  event = enter c.args.name.now c.args.size c.enter.result;
  asks = enters _ _ _;
  does = c.enter.ensures.does;
  leaves = refl;
  answers = mapped c.enter.result c.map.result _ Entered (λ x y p. search rules) c.map.ensures.cases;
}
