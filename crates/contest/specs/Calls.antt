-- Calls on a run, as a list of them may have them in any order.
use Rattle.std.specs.Prelude.{ℕ, List}

-- Whose lease is handed in: the run's own, given by its last accepted take and still out; or a stray one, with a mark that the run does
-- not have.
pub data Hand : Type 0 where
  own : Hand
  stray : Hand

-- Enter has the bytes of a name, and a size.
pub data Call : Type 0 where
  Enter : List ℕ → ℕ → Call
  Take : Call
  Done : Hand → Call
  Back : Hand → Call
  Pass : Call
