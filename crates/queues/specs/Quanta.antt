-- Which quantums there are.
use Rattle.std.specs.Prelude.{ℕ, Bool, ◌&&◌, Ok, Err, Result, nat_le}
use Rattle.refusal.specs.declared.Refusal.{Refusal}
use Rattle.queues.specs.declared.quantum.Quantum.{Quantum}

-- A quantum is 1 to 10,000 units.
abbrev pub good_quantum : ℕ → Bool
good_quantum u = nat_le 1 u && nat_le u 10000

-- How many units a quantum has.
abbrev pub units_of : Quantum → ℕ
units_of q = q.units

-- An answer told by the units of its quantum.
abbrev pub units_in : Result Quantum Refusal → Result ℕ Refusal
units_in (Ok q) = Ok (units_of q)
units_in (Err e) = Err e
