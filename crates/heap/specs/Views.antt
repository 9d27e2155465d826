-- What the contracts say of a view of a heap as a value.
use Rattle.std.specs.Prelude.{ℕ, Option}
use Rattle.heap.specs.Held.{held}
use Rattle.heap.specs.declared.key.Key.{Ghosts}
use Rattle.heap.specs.declared.view.View.{View}

module _ {K : Type 0} {key : Ghosts K} where
  -- The meaning of a view: the key that the heap holds for each handle, if any.
  abbrev pub seen : View K key → ℕ → Option K
  seen view = held key.handle_of view.keys.now view.len
