-- The meaning of a heap: which keys it holds, at most one for a handle, and how the calls change that.
use Rattle.std.specs.Prelude.{◌≡◌, ℕ, zero, suc, ◌+◌, min, Bool, true, cond, List, [], ◌∷◌, length, is_some, Some, None, Option, ◌==◌, ◌≢◌}

-- The key with the handle h among the first n keys, if there is one.
abbrev pub held : {K : Type 0} → (K → ℕ) → List K → ℕ → ℕ → Option K
held handle keys zero h = None
held handle [] (suc n) h = None
held handle (k ∷ ks) (suc n) h = cond (handle k == h) (Some k) (held handle ks n h)

-- Two collections give the same key for every handle, or both none.
abbrev pub SameKeys : {K : Type 0} → (ℕ → Option K) → (ℕ → Option K) → Type 0
SameKeys m p = (h : ℕ) → m h ≡ p h

-- No key for any handle.
abbrev pub nothing : {K : Type 0} → ℕ → Option K
nothing h = None

-- The keys of m, but at the handle of k just k.
abbrev pub put : {K : Type 0} → (K → ℕ) → K → (ℕ → Option K) → ℕ → Option K
put handle k m h = cond (h == handle k) (Some k) (m h)

-- The keys of m, but none at the handle x.
abbrev pub without : {K : Type 0} → ℕ → (ℕ → Option K) → ℕ → Option K
without x m h = cond (h == x) None (m h)

-- The capacity: the smallest of 1,024 and the two lengths.
abbrev pub capacity : {K : Type 0} → List K → List ℕ → ℕ
capacity keys places = min 1024 (min (length keys) (length places))

-- A key with the handle h is among those of m, and comes before all others of them.
abbrev pub Foremost : {K : Type 0} → (K → ℕ) → (K → K → Bool) → (ℕ → Option K) → ℕ → Type 0
Foremost {K} handle before m h = (k : K) × (handle k ≡ h) × (m h ≡ Some k) × ((x : ℕ) (q : K) → m x ≡ Some q → (x ≢ h) → before k q ≡ true)

-- How many handles below c have a key in m.
unfoldable pub counted : {K : Type 0} → (ℕ → Option K) → ℕ → ℕ
counted m zero = 0
counted m (suc c) = counted m c + cond (is_some (m c)) 1 0
