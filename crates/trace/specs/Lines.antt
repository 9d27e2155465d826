-- A line of a trace as a value, the bytes that spell it, and the place where it stands.
use Rattle.std.specs.Prelude.{◌≡◌, ℕ, ◌<◌, ◌≤◌, List, [], ◌∷◌, ◌++◌, length, drop, codes, decimal, ◌≢◌, slice_index}
use Rattle.std.specs.Str.Parse.{AllDigits, digits_value}
use Rattle.std.specs.List.{flat_map, AllByRecursion}

-- A line: a job with its tick, its size and the bytes of its name, or a tick that is lost.
pub data Line : Type 0 where
  job : ℕ → ℕ → List ℕ → Line
  lost : ℕ → Line

-- The bytes spell the number: in decimal, 1 to 6 digits, with no leading zero.
abbrev pub Spells : List ℕ → ℕ → Type 0
Spells bs n = (n < 1000000) × (bs ≡ decimal n)

-- The digits that a number of a line has: 1 to 6, the first a 0 (48) only if it is the only one.
abbrev pub ShortNumeral : List ℕ → Type 0
ShortNumeral bs = (0 < length bs) × (length bs ≤ 6) × AllDigits 10 bs × (slice_index bs 0 ≡ 48 → length bs ≡ 1)

-- The bytes that spell a number are such digits, all such digits do, and the number is their value.
abbrev pub ByDigits : Type 0
ByDigits = (bs : List ℕ) → ((n : ℕ) → Spells bs n → ShortNumeral bs × (n ≡ digits_value 10 bs)) × (ShortNumeral bs → Spells bs (digits_value 10 bs))

-- No byte is b.
abbrev pub Lacks : ℕ → List ℕ → Type 0
Lacks b bs = AllByRecursion (λ x. x ≢ b) bs

-- A word is one or more bytes, none of them a space (32) or an LF (10).
abbrev pub Word : List ℕ → Type 0
Word bs = (0 < length bs) × Lacks 32 bs × Lacks 10 bs

-- The numbers of a line have at most six digits, and its name is a word.
abbrev pub Formed : Line → Type 0
Formed (job t s n) = (t < 1000000) × (s < 1000000) × Word n
Formed (lost t) = t < 1000000

-- What follows the keyword of a job line: tick, size and name, parted by one space.
abbrev pub fields : ℕ → ℕ → List ℕ → List ℕ
fields t s n = decimal t ++ 32 ∷ (decimal s ++ 32 ∷ n)

-- The bytes that spell a line, without its LF.
abbrev pub spelled : Line → List ℕ
spelled (job t s n) = codes "job " ++ fields t s n
spelled (lost t) = codes "lost " ++ decimal t

-- The bytes that spell lines, each ended by an LF.
abbrev pub text : List Line → List ℕ
text ls = flat_map (λ l. spelled l ++ 10 ∷ []) ls

-- A line stands at a place of a trace: its bytes and an LF begin there.
abbrev pub Stands : List ℕ → ℕ → Line → Type 0
Stands trace p l = Formed l × ((rest : List ℕ) × (drop p trace ≡ spelled l ++ 10 ∷ rest))

-- At most one line stands at a place.
abbrev pub OneLine : Type 0
OneLine = (trace : List ℕ) (p : ℕ) (k l : Line) → Stands trace p k → Stands trace p l → k ≡ l

-- At most one list of lines spells a trace.
abbrev pub OneList : Type 0
OneList = (ks ls : List Line) → AllByRecursion Formed ks → AllByRecursion Formed ls → text ks ≡ text ls → ks ≡ ls
