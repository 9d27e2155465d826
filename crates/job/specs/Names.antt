-- A name as it is kept, and the bytes that spell it.
use Rattle.std.specs.Prelude.{ℕ, ◌-◌, min, List, ◌++◌, length, take, replicate}
use Rattle.job.specs.declared.name.Name.{Name}

-- The bytes from the front, filled up with 0, and how many there are.
abbrev pub name_of : List ℕ → Name
name_of bs = record { bytes = bs ++ replicate (8 - length bs) 0; len = length bs }

-- The bytes that spell a name, at most 8.
abbrev pub spelled : Name → List ℕ
spelled n = take (min n.len 8) n.bytes
