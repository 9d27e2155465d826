-- What the tokens of a line say: their bytes, their values, and the places where they stand.
use Rattle.std.specs.Prelude.{◌≡◌, ℕ, ◌+◌, Bool, true, false, List, length, codes, decimal}
use Rattle.trace.specs.Lines.{Line, job, lost}
use Rattle.trace.specs.declared.token.Token.{Token}
use Rattle.trace.specs.declared.token.Token.TheVariants.{Word, Number}
use Rattle.trace.specs.declared.token.PlacedToken.{PlacedToken}
use Rattle.trace.specs.declared.line.LineTokens.{LineTokens}
use Rattle.trace.specs.declared.line.LineTokens.TheVariants.{Job, Lost}

-- The bytes that spell a token.
abbrev pub bytes_of : Token → List ℕ
bytes_of (Word bs) = bs.now
bytes_of (Number bs n) = bs.now

-- The number that a token stands for, 0 for a word.
abbrev pub value_of : Token → ℕ
value_of (Word bs) = 0
value_of (Number bs n) = n

-- Whether a token is a number.
abbrev pub is_number : Token → Bool
is_number (Word bs) = false
is_number (Number bs n) = true

-- The place behind a token and the one byte that ends it.
abbrev pub behind : PlacedToken → ℕ
behind t = t.place + length (bytes_of t.token) + 1

-- A word with the place p.
abbrev pub WordAt : ℕ → PlacedToken → Type 0
WordAt p t = (is_number t.token ≡ false) × (t.place ≡ p)

-- A number with the place p, its value spelled by its bytes.
abbrev pub NumberAt : ℕ → PlacedToken → Type 0
NumberAt p t = (is_number t.token ≡ true) × (bytes_of t.token ≡ decimal (value_of t.token)) × (t.place ≡ p)

-- The tokens of a line that stands at p: the keyword there, each other behind the one before it.
abbrev pub TokensAt : ℕ → LineTokens → Type 0
TokensAt p (Job k t s n) = WordAt p k × (bytes_of k.token ≡ codes "job") × NumberAt (behind k) t × NumberAt (behind t) s × WordAt (behind s) n
TokensAt p (Lost k t) = WordAt p k × (bytes_of k.token ≡ codes "lost") × NumberAt (behind k) t

-- The line that the tokens stand for.
abbrev pub line_of : LineTokens → Line
line_of (Job k t s n) = job (value_of t.token) (value_of s.token) (bytes_of n.token)
line_of (Lost k t) = lost (value_of t.token)
