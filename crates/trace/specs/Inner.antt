-- What the private functions of the reader answer; no public contract cites it.
use Rattle.std.specs.Prelude.{◌≡◌, ℕ, ◌+◌, ◌<◌, ◌≤◌, cond, List, length, slice_index}
use Rattle.trace.specs.Lines.{Spells, Word, Line, job, Formed, fields, spelled}
use Rattle.trace.specs.Rules.{is_job, opens}
use Rattle.trace.specs.Tokens.{bytes_of, value_of, behind, WordAt, NumberAt, TokensAt, line_of}
use Rattle.trace.specs.declared.token.PlacedToken.{PlacedToken}
use Rattle.trace.specs.declared.line.LineTokens.{LineTokens}
use Rattle.trace.specs.declared.whole.Seen.{Seen}

-- There are 1 to 6 bytes, and a 0 (48) comes first only if it is alone.
abbrev pub IsShort : List ℕ → Type 0
IsShort bs = (0 < length bs) × (length bs ≤ 6) × (slice_index bs 0 ≡ 48 → length bs ≡ 1)

-- The token is the number that the bytes spell, with the place p.
abbrev pub ReadsNumber : List ℕ → ℕ → PlacedToken → Type 0
ReadsNumber bs p t = NumberAt p t × (bytes_of t.token ≡ bs) × Spells bs (value_of t.token)

-- The token is the word that the bytes are, with the place p.
abbrev pub ReadsWord : List ℕ → ℕ → PlacedToken → Type 0
ReadsWord bs p t = WordAt p t × (bytes_of t.token ≡ bs) × Word bs

-- The three tokens are those of the fields of a job line, which the bytes spell and which stand at p.
abbrev pub ReadsFields : List ℕ → ℕ → PlacedToken → PlacedToken → PlacedToken → Type 0
ReadsFields bs p t s n =
    Formed (job (value_of t.token) (value_of s.token) (bytes_of n.token))
    × (bs ≡ fields (value_of t.token) (value_of s.token) (bytes_of n.token))
    × NumberAt p t × NumberAt (behind t) s × WordAt (behind s) n

-- The tokens are those of the line that the bytes spell and that stands at p.
abbrev pub ReadsTokens : List ℕ → ℕ → LineTokens → Type 0
ReadsTokens bs p ts = Formed (line_of ts) × (bs ≡ spelled (line_of ts)) × TokensAt p ts

-- What is seen with one line more.
pub record SeenMore (seen : Seen) (l : Line) (more : Seen) : Type 0 where
  pub jobs_are : more.counts.jobs ≡ seen.counts.jobs + cond (is_job l) 1 0
  pub lines_are : more.counts.lines ≡ seen.counts.lines + 1
  pub earliest_is : more.earliest ≡ opens l
  pub few : more.counts.jobs ≤ 1024
