-- What a run answers of its lines.
use Rattle.std.specs.Prelude.{◌≡◌, ℕ, Ok, sum_by, Result, nat_lt, slice_index_or}
use Rattle.refusal.specs.declared.Refusal.{Refusal}
use Rattle.refusal.specs.declared.Refusal.TheVariants.{NotHeld}
use Rattle.refusal.specs.Answers.{provided, if_accepted}
use Rattle.run.specs.declared.book.Book.{Book}
use Rattle.run.specs.declared.line.Line.{Line}
use Rattle.run.specs.Lines.{unused, sojourn_of}

-- The work that is left, over every line of the book.
abbrev pub unfinished_work : Book → ℕ
unfinished_work b = sum_by (λ l. l.left) b.lines

-- Line n is copied into a line handed over, which was l and becomes l'; refused, l stays.
pub record Copies (b : Book) (n : ℕ) (l : Line) (r : Result (Unit {0}) Refusal) (l' : Line) : Type 0 where
  pub answers : r ≡ provided (nat_lt n b.entered) NotHeld (Ok tt)
  pub leaves : l' ≡ if_accepted r (slice_index_or b.lines n unused) l

-- The sojourn of job n.
abbrev pub sojourn_answer : Book → ℕ → Result ℕ Refusal
sojourn_answer b n = provided (nat_lt n b.entered) NotHeld (Ok (sojourn_of (slice_index_or b.lines n unused)))
