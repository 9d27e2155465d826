-- The left work of each job by its number, read off the keys that SRPT holds.
use Rattle.std.specs.Prelude.{ℕ, List, map, Some, None, Option}
use Rattle.std.specs.List.{range_with_len}
use Rattle.keys.specs.declared.left.LeftKey.{LeftKey}
use Rattle.heap.specs.Rankings.{keys_of}
use Rattle.srpt.specs.declared.srpt.Srpt.{Srpt}

-- The left work in a job's key, 0 where it has none.
abbrev pub left_in : Option LeftKey → ℕ
left_in None = 0
left_in (Some k) = k.left

-- The left work of each of the 1,024 jobs by its number, 0 for one without a key.
unfoldable pub table : (ℕ → Option LeftKey) → List ℕ
table m = map (λ j. left_in (m j)) (range_with_len 0 1024)

-- The left work of each job by its number, 0 for one that is not present.
abbrev pub lefts_of : Srpt → List ℕ
lefts_of d = table (keys_of d.ranking)
