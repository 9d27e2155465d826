use Rattle.std.proofs.Common.{◌≡◌, ◌-◌, length}
use Rattle.queues.specs.Rows.{gapless}
use Rattle.queues.proofs.row.Row.close_round.Given as goal

abbrev pub invariant-loop-k : goal.invariant-loop-k
invariant-loop-k l = (gapless l.self (l.k - 1) ≡ gapless l.initial.self l.at) × (length l.self ≡ l.len)
