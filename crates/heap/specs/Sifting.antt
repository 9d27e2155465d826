-- A heap while one of its keys is on its way to where it belongs: what the inner calls say to one another.
use Rattle.std.specs.Prelude.{◌≡◌, ℕ, ◌+◌, ◌*◌, ◌<◌, ◌≤◌, Bool, true, cond, List, length, get_or, ◌≢◌, nat_lt, slice_index, slice_index_or}
use Rattle.heap.specs.InOrder.{Low}

module _ {K : Type 0} (before : K → K → Bool) (f : ℕ → K) where
  -- Each of the first n keys but the first comes after its parent.
  abbrev pub Heap : ℕ → Type 0
  Heap n = (p k : ℕ) → p * 2 + 1 ≤ k → k ≤ p * 2 + 2 → k < n → before (f p) (f k) ≡ true

  -- The first n would be a heap, were the key at j taken out.
  abbrev pub Gap : ℕ → ℕ → Type 0
  Gap j n =
      ((p k : ℕ) → p * 2 + 1 ≤ k → k ≤ p * 2 + 2 → k < n → (p ≢ j) → (k ≢ j) → before (f p) (f k) ≡ true)
      × ((p k : ℕ) → p * 2 + 1 ≤ j → j ≤ p * 2 + 2 → j * 2 + 1 ≤ k → k ≤ j * 2 + 2 → k < n → before (f p) (f k) ≡ true)

  -- The key at j comes after its parent.
  abbrev pub Over : ℕ → Type 0
  Over j = (p : ℕ) → p * 2 + 1 ≤ j → j ≤ p * 2 + 2 → before (f p) (f j) ≡ true

  -- The key at j comes before its children.
  abbrev pub Under : ℕ → ℕ → Type 0
  Under j n = (k : ℕ) → j * 2 + 1 ≤ k → k ≤ j * 2 + 2 → k < n → before (f j) (f k) ≡ true

  -- The child of j that comes before the other, where j has one among the first n.
  abbrev pub first_child : ℕ → ℕ → ℕ
  first_child n j = cond (nat_lt (j * 2 + 2) n) (cond (before (f (j * 2 + 2)) (f (j * 2 + 1))) (j * 2 + 2) (j * 2 + 1)) (j * 2 + 1)

  -- The child c of j comes before the other.
  abbrev pub Least : ℕ → ℕ → ℕ → Type 0
  Least j c n = (k : ℕ) → j * 2 + 1 ≤ k → k ≤ j * 2 + 2 → k < n → (k ≢ c) → before (f c) (f k) ≡ true

  -- Where the key at j goes next on its way down: to its first child where that comes before it, and else it stays.
  abbrev pub next_down : ℕ → ℕ → ℕ
  next_down n j = cond (nat_lt (j * 2 + 1) n) (cond (before (f (first_child n j)) (f j)) (first_child n j) j) j

module _ {K : Type 0} (handle : K → ℕ) (f : ℕ → K) where
  -- No two of the first n keys have one handle.
  abbrev pub Apart : ℕ → Type 0
  Apart n = (i k : ℕ) → i < n → k < n → handle (f i) ≡ handle (f k) → i ≡ k

  -- The places of all keys but the one at j are told.
  abbrev pub Told : List ℕ → ℕ → ℕ → Type 0
  Told places n j = (i : ℕ) → i < n → (i ≢ j) → slice_index places (handle (f i)) ≡ i

  -- No other key has the handle of the one at j.
  abbrev pub Fresh : ℕ → ℕ → Type 0
  Fresh n j = (i : ℕ) → i < n → (i ≢ j) → handle (f i) ≢ handle (f j)

-- In order, but that the key at j may stand wrong and its place is not told.
pub record Sifting {K : Type 0} (handle : K → ℕ) (before : K → K → Bool) (keys : List K) (places : List ℕ) (n j : ℕ) : Type 0 where
  pub few : n ≤ 1024
  pub fits : n ≤ length keys
  pub inside : j < n
  pub low : (d : K) (i : ℕ) → i < n → Low keys places (handle (slice_index_or keys i d))
  pub told : (d : K) → Told handle (λ i. get_or keys i d) places n j
  pub fresh : (d : K) → Fresh handle (λ i. get_or keys i d) n j
  pub gap : (d : K) → Gap before (λ i. get_or keys i d) j n
