-- The line of a job that entered, as a question reads it off the book.
use Rattle.std.proofs.Common.{◌≡◌, ℕ, ◌-◌, ◌<◌, ◌≤◌, [], length, get_or, take, sym, subst, arith}
use Rattle.std.proofs.lemmas.List.{get_or_default, get_or-take, length-take-le}
use Rattle.run.specs.declared.book.Book.{Book}
use Rattle.run.specs.declared.line.Line.{Line}
use Rattle.run.specs.Lines.{unused}
use Rattle.run.specs.Kept.{LinesKept}
use Rattle.run.proofs.Keeping.{finished}

-- what a read past the end of a table of lines stands for
abbrev pub no_line : Line
no_line = record { name = record { bytes = []; len = 0 }; arrival = 0; size = 0; left = 0; finish = 0 }

module _ (b : Book) (long : length b.lines ≡ 1024) (many : b.entered ≤ 1024) (k : ℕ) where
  -- a read within the table does not depend on what stands for one past its end
  pub line_at : k < b.entered → get_or b.lines k no_line ≡ get_or b.lines k unused
  line_at lt = get_or_default b.lines k no_line unused (omega arith)

  -- the lines that entered are the first of the table
  pub in_front : k < length (take (b.entered - 0) b.lines) → k < b.entered
  in_front lt = omega (arith, length-take-le (b.entered - 0) b.lines (omega arith))

  pub line_in_front : k < b.entered → get_or (take (b.entered - 0) b.lines) k no_line ≡ get_or b.lines k no_line
  line_in_front lt = get_or-take (b.entered - 0) b.lines k no_line (omega arith)

  -- the sojourn of a finished job is a difference that does not fall below 0, and fits
  pub sojourn_fits : (c : ℕ) → LinesKept b c → c ≤ 16777215 → k < b.entered → (l : Line) → l ≡ get_or b.lines k unused → l.left ≡ 0 → (l.arrival ≤ l.finish) × (l.finish < 16777215)
  sojourn_fits c kept few lt l e =
      subst (λ (x : Line). x.left ≡ 0 → (x.arrival ≤ x.finish) × (x.finish < 16777215)) (sym e)
      (λ z. let f = finished b.entered c k (get_or b.lines k unused) lt (kept k) z in let t = f.1 in (f.0, omega arith))
