-- What the contracts say of a heap over lent memory as a value.
use Rattle.std.specs.Prelude.{◌≡◌, ℕ, Option, Result}
use Rattle.refusal.specs.declared.Refusal.{Refusal}
use Rattle.heap.specs.Held.{held, capacity}
use Rattle.heap.specs.Answers.{insert_answer, change_answer}
use Rattle.heap.specs.declared.key.Key.{Ghosts}
use Rattle.heap.specs.declared.indexed.IndexedHeap.{IndexedHeap}

module _ {K : Type 0} {key : Ghosts K} where
  -- The meaning of a heap: the key that it holds for each handle, if any.
  abbrev pub held_in : IndexedHeap K key → ℕ → Option K
  held_in heap = held key.handle_of heap.keys.now heap.len

  -- What insert answers for a handle.
  abbrev pub insert_in : IndexedHeap K key → ℕ → Result (Unit {0}) Refusal
  insert_in heap h = insert_answer (capacity heap.keys.now heap.places.now) (held_in heap) h

  -- What replace and remove answer for a handle.
  abbrev pub change_in : IndexedHeap K key → ℕ → Result (Unit {0}) Refusal
  change_in heap h = change_answer (capacity heap.keys.now heap.places.now) (held_in heap) h

  -- Keys, places and count are as they were.
  abbrev pub Unchanged : IndexedHeap K key → IndexedHeap K key → Type 0
  Unchanged old new = (new.keys.now ≡ old.keys.now) × (new.places.now ≡ old.places.now) × (new.len ≡ old.len)

  -- The heap is over the same memory as it was, so that its maker has back what the calls left there.
  abbrev pub SameMemory : IndexedHeap K key → IndexedHeap K key → Type 0
  SameMemory old new = (new.keys.ghost_name ≡ old.keys.ghost_name) × (new.places.ghost_name ≡ old.places.ghost_name)
