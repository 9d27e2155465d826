-- What going through the lines of a trace gives.
use Rattle.std.specs.Prelude.{◌≡◌, ℕ, ◌<◌, ◌≤◌, List, length, drop, Some, Option, Result, IsOk, MatchOption, MatchResult}
use Rattle.trace.specs.Lines.{Line, text}
use Rattle.trace.specs.Rules.{Keep}
use Rattle.trace.specs.Answers.{reported, LineRead, LineRefused}
use Rattle.trace.specs.declared.line.LineTokens.{LineTokens}
use Rattle.trace.specs.declared.refused.TraceRefusal.{TraceRefusal}
use Rattle.trace.specs.declared.lines.Lines.{Lines}

-- A step from s to t gives nothing at the end of the trace; else the line at the place with that place, and goes to the next; or the refusal of what stands there, and goes to the end.
pub record GivesLine (s : Lines) (given : Option (Result (LineTokens × ℕ) TraceRefusal)) (t : Lines) : Type 0 where
  pub same : t.trace.now ≡ s.trace.now
  pub gives : MatchOption given (length s.trace.now ≤ s.place) (λ r. (s.place < length s.trace.now) × MatchResult r (λ x. (x.1 ≡ s.place) × LineRead s.trace.now s.place x.0 t.place) (λ e. LineRefused s.trace.now s.place (reported e) × (t.place ≡ length s.trace.now)))

-- What is left to go through is lines that keep every rule behind those before them.
pub record Ahead (w : Lines) : Type 0 where
  pub before : List Line
  pub lines : List Line
  pub keeps : Keep before lines
  pub left : drop w.place w.trace.now ≡ text lines

-- Where such lines are left, a step that gives something gives a line, and such lines are left behind it.
abbrev pub NoneRefused : Type 0
NoneRefused = (w t : Lines) (given : Result (LineTokens × ℕ) TraceRefusal) → Ahead w → GivesLine w (Some given) t → IsOk given × Ahead t
