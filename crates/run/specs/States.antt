-- The meaning of a run, and how its parts hang together.
use Rattle.std.specs.Prelude.{◌≡◌, ℕ, ◌<◌, ◌≤◌, List, Some, None, Option, slice_index, slice_index_or}
use Rattle.discipline.specs.Meaning.{Sound}
use Rattle.run.specs.declared.book.Book.{Book}
use Rattle.run.specs.declared.accounts.Accounts.{Accounts}
use Rattle.run.specs.Lines.{lefts, unused}

-- What its discipline means, its book, and its accounts: mark, clock, total, most and the lease that is out.
pub record State : Type 0 where
  pub present : List ℕ
  pub choice : Option ℕ
  pub book : Book
  pub accounts : Accounts

-- The job of the lease that is out is present.
abbrev pub Leased : Option ℕ → List ℕ → Type 0
Leased None p = Unit {0}
Leased (Some j) p = 0 < slice_index p j

-- The discipline and the book agree: the jobs present are the lines with left above 0, with that left; lines of jobs that have not entered are unused; the leased job is present.
pub record Tied (s : State) : Type 0 where
  pub agrees : s.present ≡ lefts s.book.lines
  pub rest : (k : ℕ) → s.book.entered ≤ k → slice_index_or s.book.lines k unused ≡ unused
  pub leased : Leased s.accounts.lease s.present
  pub sound : Sound s.present s.choice
