-- What the contracts say of a ranking as a value.
use Rattle.std.specs.Prelude.{◌≡◌, ℕ, Option}
use Rattle.heap.specs.Held.{held}
use Rattle.heap.specs.declared.key.Key.{Ghosts}
use Rattle.heap.specs.declared.ranking.Ranking.{Ranking}

module _ {K : Type 0} {key : Ghosts K} where
  -- The meaning of a ranking: the key that it holds for each handle, if any.
  abbrev pub keys_of : Ranking K key → ℕ → Option K
  keys_of r = held key.handle_of r.keys r.len

  -- Keys, places and count are as they were.
  abbrev pub Unchanged : Ranking K key → Ranking K key → Type 0
  Unchanged old new = (new.keys ≡ old.keys) × (new.places ≡ old.places) × (new.len ≡ old.len)
