-- What every run keeps of its lines, of its figures and of its lease.
use Rattle.std.specs.Prelude.{◌≡◌, ℕ, ◌*◌, ◌≤◌, Bool, true, cond, ◌&&◌, List, ◌∷◌, replicate, Some, None, Option, ◌==◌, nat_le, nat_lt, slice_index, slice_index_or}
use Rattle.std.specs.Cmp.Lexicographic.{pointwise}
use Rattle.job.specs.Rules.{good_size, good_name}
use Rattle.job.specs.Names.{spelled}
use Rattle.run.specs.declared.line.Line.{Line}
use Rattle.run.specs.declared.book.Book.{Book}
use Rattle.run.specs.declared.accounts.Accounts.{Accounts}
use Rattle.run.specs.Lines.{unused}

-- A line is the unused one.
abbrev pub is_unused : Line → Bool
is_unused l =
    pointwise ◌==◌ l.name.bytes (45 ∷ replicate 7 0) && (l.name.len == 1 &&
    (l.arrival == 0 && (l.size == 1 && (l.left == 0 && l.finish == 0))))

-- The line of a job that entered, when the clock is c: its name and size keep their rules, its left is at most its size, it arrived by now, it has no finish while work is left, and otherwise finished after its arrival in a tick that has ended.
abbrev pub is_used : ℕ → Line → Bool
is_used c l =
    good_name (spelled l.name) && (good_size l.size && (nat_le l.left l.size && (nat_le l.arrival c &&
    cond (nat_lt 0 l.left) (l.finish == 0) (nat_le l.arrival l.finish && nat_lt l.finish c))))

-- Line k, when n jobs have entered and the clock is c: that of a job, or unused.
abbrev pub line_kept : ℕ → ℕ → ℕ → Line → Bool
line_kept n c k l = cond (nat_lt k n) (is_used c l) (is_unused l)

-- Every line of the book is that of a job or unused.
abbrev pub LinesKept : Book → ℕ → Type 0
LinesKept b c = (k : ℕ) → line_kept b.entered c k (slice_index_or b.lines k unused) ≡ true

-- The clock does not pass its last tick; the total is at most 1,024 for each tick that ended; and so is the most.
abbrev pub FiguresKept : Accounts → Type 0
FiguresKept a = (a.clock ≤ 16777215) × (a.total ≤ 1024 * a.clock) × (a.most ≤ 1024)

-- While a lease is out, its job has a number and is present, and its tick can end.
abbrev pub lease_kept : Option ℕ → List ℕ → ℕ → Bool
lease_kept None p c = true
lease_kept (Some j) p c = nat_lt j 1024 && (nat_lt 0 (slice_index p j) && nat_lt c 16777215)
