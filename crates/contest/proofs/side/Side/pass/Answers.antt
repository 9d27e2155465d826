use Rattle.std.proofs.Common.{refl, rules}
use Rattle.run.specs.Histories.{pass}
use Rattle.contest.specs.declared.calls.Reply.TheVariants.{Accepted}
use Rattle.contest.specs.Chains.{passes}
use Rattle.contest.proofs.Playing.{mapped}
use Rattle.contest.proofs.side.Side.pass.Goals as goal

pub returns : goal.returns
returns g c = record {
  event = pass c.pass.result;
  asks = passes _;
  does = c.pass.ensures.does;
  leaves = refl;
  answers = mapped c.pass.result c.map.result _ (λ _. Accepted) (λ x y p. search rules) c.map.ensures.cases;
}
