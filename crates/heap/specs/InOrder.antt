-- When the memory of a heap is in order: what every heap keeps between two calls.
use Rattle.std.specs.Prelude.{◌≡◌, ℕ, ◌+◌, ◌/◌, ◌<◌, ◌≤◌, Bool, true, List, length, slice_index, slice_index_or}

-- A handle is below the capacity: below 1,024 and both lengths.
abbrev pub Low : {K : Type 0} → List K → List ℕ → ℕ → Type 0
Low keys places h = (h < 1024) × (h < length keys) × (h < length places)

module _ {K : Type 0} (keys : List K) where
  -- Each of the first n keys has a handle below the capacity.
  abbrev pub AllLow : (K → ℕ) → List ℕ → ℕ → Type 0
  AllLow handle places n = (d : K) (i : ℕ) → i < n → Low keys places (handle (slice_index_or keys i d))

  -- Each of the first n keys is at the place that is told for its handle, so that no two have one handle.
  abbrev pub AllTold : (K → ℕ) → List ℕ → ℕ → Type 0
  AllTold handle places n = (d : K) (i : ℕ) → i < n → slice_index places (handle (slice_index_or keys i d)) ≡ i

  -- Each of the first n keys but the first comes after its parent: the parent of k + 1 is at k / 2.
  abbrev pub Heaped : (K → K → Bool) → ℕ → Type 0
  Heaped before n = (d : K) (k : ℕ) → k + 1 < n → before (slice_index_or keys (k / 2) d) (slice_index_or keys (k + 1) d) ≡ true

-- A heap of n keys is in order: this stands in the type of each heap, ranking and view.
pub record InOrder {K : Type 0} (handle : K → ℕ) (before : K → K → Bool) (keys : List K) (places : List ℕ) (n : ℕ) : Type 0 where
  pub few : n ≤ 1024
  pub fits : n ≤ length keys
  pub low : AllLow keys handle places n
  pub told : AllTold keys handle places n
  pub heaped : Heaped keys before n
