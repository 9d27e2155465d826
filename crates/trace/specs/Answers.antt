-- Which lines and which traces are accepted, and with which number and place the others are refused.
use Rattle.std.specs.Prelude.{◌≡◌, ℕ, ◌+◌, ◌<◌, ◌≤◌, ◌⊎◌, List, [], ◌∷◌, ◌++◌, length, drop, Some, None, codes, decimal, Option}
use Rattle.refusal.specs.declared.Refusal.{Refusal}
use Rattle.refusal.specs.declared.Refusal.TheVariants.{LineForm}
use Rattle.refusal.specs.Causes.{number_of}
use Rattle.trace.specs.Lines.{Line, Formed, spelled, text, Stands}
use Rattle.trace.specs.Rules.{jobs, fault, fault_after, Keep}
use Rattle.trace.specs.Tokens.{TokensAt, line_of}
use Rattle.trace.specs.declared.line.LineTokens.{LineTokens}
use Rattle.trace.specs.declared.refused.TraceRefusal.{TraceRefusal}
use Rattle.trace.specs.declared.whole.Counts.{Counts}

-- A refusal as it is reported: the number of its cause, and its place.
abbrev pub reported : TraceRefusal → ℕ × ℕ
reported r = (number_of r.cause, r.place)

-- The bytes in which it is reported.
abbrev pub message : TraceRefusal → List ℕ
message r = codes "refused " ++ (decimal (reported r).0 ++ (codes " at " ++ decimal (reported r).1))

-- The tokens are those of the line that stands at p, and the next line begins behind its LF.
pub record LineFound (trace : List ℕ) (p : ℕ) (tokens : LineTokens) (next : ℕ) : Type 0 where
  pub stands : Stands trace p (line_of tokens)
  pub placed : TokensAt p tokens
  pub after : next ≡ p + length (spelled (line_of tokens)) + 1

-- The line at p is accepted: it stands there, and nothing that it says is refused.
abbrev pub LineRead : List ℕ → ℕ → LineTokens → ℕ → Type 0
LineRead trace p tokens next = LineFound trace p tokens next × (fault (line_of tokens) ≡ None)

-- Why nothing is accepted at p: no line stands there, which comes first, or the one that does is judged to be refused.
abbrev pub Stopped : (Line → Option Refusal) → List ℕ → ℕ → Refusal → Type 0
Stopped judged trace p c = ((c ≡ LineForm) × ((l : Line) → Stands trace p l → ⊥)) ⊎ ((l : Line) × Stands trace p l × (judged l ≡ Some c))

-- The line at p is refused, with the place p.
abbrev pub LineRefused : List ℕ → ℕ → ℕ × ℕ → Type 0
LineRefused trace p r = (c : Refusal) × (r ≡ (number_of c, p)) × Stopped fault trace p c

-- From `start` on the bytes are spelled by lines that keep every rule, and the counts are theirs.
pub record LinesRead (trace : List ℕ) (start : ℕ) (counts : Counts) : Type 0 where
  pub lines : List Line
  pub spells : drop start trace ≡ text lines
  pub keeps : Keep [] lines
  pub jobs_counted : counts.jobs ≡ jobs lines
  pub lines_counted : counts.lines ≡ length lines

-- From `start` on there are lines that keep every rule, and then, at the reported place, something that is refused.
pub record LinesRefused (trace : List ℕ) (start : ℕ) (r : ℕ × ℕ) : Type 0 where
  pub before : List Line
  pub keeps : Keep [] before
  pub cause : Refusal
  pub place : ℕ
  pub spells : drop start trace ≡ text before ++ drop place trace
  pub follows : place ≡ start + length (text before)
  pub more : place < length trace
  pub stops : Stopped (fault_after before) trace place cause
  pub reports : r ≡ (number_of cause, place)

-- The whole trace is accepted.
abbrev pub TraceRead : List ℕ → Counts → Type 0
TraceRead trace counts = (length trace ≤ 65536) × LinesRead trace 0 counts

-- The whole trace is refused: for its length, with the place 0, or at a line.
abbrev pub TraceRefused : List ℕ → ℕ × ℕ → Type 0
TraceRefused trace r = ((65536 < length trace) × (r ≡ (13, 0))) ⊎ ((length trace ≤ 65536) × LinesRefused trace 0 r)

-- What stands at a place is accepted or refused, never both, and refused in one way only.
pub record LineSettled : Type 0 where
  pub never_both : (trace : List ℕ) (p : ℕ) (tokens : LineTokens) (next : ℕ) (r : ℕ × ℕ) → LineRead trace p tokens next → LineRefused trace p r → ⊥
  pub one_refusal : (trace : List ℕ) (p : ℕ) (r s : ℕ × ℕ) → LineRefused trace p r → LineRefused trace p s → r ≡ s

-- Where the bytes from p on are lines, of which the first has no fault: it is not refused, it is the line that is read, and from the next place on the bytes are the other lines.
pub record LineByLine : Type 0 where
  pub not_refused : (trace : List ℕ) (p : ℕ) (l : Line) (ls : List Line) (r : ℕ × ℕ) → Formed l → fault l ≡ None → drop p trace ≡ text (l ∷ ls) → LineRefused trace p r → ⊥
  pub read : (trace : List ℕ) (p : ℕ) (l : Line) (ls : List Line) (tokens : LineTokens) (next : ℕ) → Formed l → drop p trace ≡ text (l ∷ ls) → LineRead trace p tokens next → (line_of tokens ≡ l) × (drop next trace ≡ text ls)

-- A trace is accepted or refused, never both; its counts are the only ones, and it is refused in one way only.
pub record TraceSettled : Type 0 where
  pub never_both : (trace : List ℕ) (counts : Counts) (r : ℕ × ℕ) → TraceRead trace counts → TraceRefused trace r → ⊥
  pub one_count : (trace : List ℕ) (a b : Counts) → TraceRead trace a → TraceRead trace b → a ≡ b
  pub one_refusal : (trace : List ℕ) (r s : ℕ × ℕ) → TraceRefused trace r → TraceRefused trace s → r ≡ s
