use Rattle.std.proofs.Common.{◌≡◌, reverse, take}
use Rattle.contest.specs.Contested.{calls, Led}
use Rattle.contest.proofs.rounds.contest.Given as goal

abbrev pub invariant-loop-round : goal.invariant-loop-round
invariant-loop-round g l =
    Led g.D.Discipline l.fn.stray (reverse (take l.round-index l.rounds)) l.srpt l.rival l.stray
    × (calls l.rounds ≡ calls l.initial.rounds)
