-- A row of job numbers: the ring that it is kept in, its ends, and who stands in it.
use Rattle.std.specs.Prelude.{◌≡◌, ℕ, suc, ◌+◌, ◌-◌, ◌<◌, ◌≤◌, cond, List, [], ◌∷◌, ◌++◌, length, take, drop, Some, None, Option, ◌==◌, nat_lt, slice_index}

-- A list from its place f on, once round.
abbrev pub around : ℕ → List ℕ → List ℕ
around f xs = drop f xs ++ take f xs

-- The first n numbers of a ring from its place f on.
abbrev pub in_ring : List ℕ → ℕ → ℕ → List ℕ
in_ring xs f n = take n (around f xs)

-- A ring of 1,024 places, of which n are used from the place f on.
pub record IsRing (xs : List ℕ) (f n : ℕ) : Type 0 where
  pub long : length xs ≡ 1024
  pub within : f < 1024
  pub few : n ≤ 1024

-- The place in the ring of the k-th number from the place f.
abbrev pub place_of : ℕ → ℕ → ℕ
place_of f k = cond (nat_lt (f + k) 1024) (f + k) (f + k - 1024)

-- The front of a row.
abbrev pub first_of : List ℕ → Option ℕ
first_of [] = None
first_of (x ∷ xs) = Some x

-- The end of a row.
abbrev pub last_of : List ℕ → Option ℕ
last_of [] = None
last_of (x ∷ []) = Some x
last_of (x ∷ (y ∷ ys)) = last_of (y ∷ ys)

-- A row whose front goes to the end.
abbrev pub front_to_end : List ℕ → List ℕ
front_to_end row = drop 1 row ++ take 1 row

-- A row without its k-th number, counted from 0.
abbrev pub gapless : List ℕ → ℕ → List ℕ
gapless row k = take k row ++ drop (suc k) row

-- A row without the first n in it.
abbrev pub without : ℕ → List ℕ → List ℕ
without n [] = []
without n (x ∷ xs) = cond (n == x) xs (x ∷ without n xs)

-- A row after a unit of work on job n that leaves l: a finished job leaves the row.
abbrev pub leaves : ℕ → ℕ → List ℕ → List ℕ
leaves n l row = cond (l == 0) (without n row) row

-- How often n stands in a row.
abbrev pub times : ℕ → List ℕ → ℕ
times n [] = 0
times n (x ∷ xs) = cond (n == x) 1 0 + times n xs

-- A row has each number with left work once, and no other.
abbrev pub Once : List ℕ → List ℕ → Type 0
Once row left = (k : ℕ) → times k row ≡ cond (nat_lt 0 (slice_index left k)) 1 0
