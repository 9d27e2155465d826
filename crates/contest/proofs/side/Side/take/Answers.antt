use Rattle.std.proofs.Common.{Ok, Err, refl, rules}
use Rattle.run.specs.Histories.{take}
use Rattle.contest.specs.Chains.{takes}
use Rattle.contest.proofs.side.Side.take.Goals as goal

pub returns-in_err-lease : goal.returns-in_err-lease
returns-in_err-lease g c =
    record { event = take (Err c.in_err-lease.field-0.0); asks = takes _; does = c.in_err-lease.ensures.does; leaves = refl; answers = search rules }

pub returns : goal.returns
returns g c =
    record { event = take (Ok c.in_ok-lease.lease); asks = takes _; does = c.in_ok-lease.ensures.does; leaves = c.replace.ensures.after; answers = search rules }
