-- Which lines are refused: for what they say, and after the lines before them.
use Rattle.std.specs.Prelude.{◌≡◌, ℕ, ◌+◌, Bool, true, false, cond, ◌&&◌, List, [], ◌∷◌, ◌++◌, Some, None, fold, Option, nat_le, nat_lt}
use Rattle.refusal.specs.declared.Refusal.{Refusal}
use Rattle.refusal.specs.declared.Refusal.TheVariants.{Size, Name, BookFull, TickOrder}
use Rattle.job.specs.Rules.{good_size, good_name}
use Rattle.trace.specs.Lines.{Line, job, lost, Formed}

-- The tick of a line.
abbrev pub tick : Line → ℕ
tick (job t s n) = t
tick (lost t) = t

-- Whether a line is a job.
abbrev pub is_job : Line → Bool
is_job (job t s n) = true
is_job (lost t) = false

-- How many of the lines are jobs.
abbrev pub jobs : List Line → ℕ
jobs ls = fold (λ n l. n + cond (is_job l) 1 0) 0 ls

-- The first tick that the line after this one may have: the same, or after a lost one the next.
abbrev pub opens : Line → ℕ
opens (job t s n) = t
opens (lost t) = t + 1

-- The first tick that a line after these may have.
abbrev pub earliest : List Line → ℕ
earliest ls = fold (λ t l. opens l) 0 ls

-- Why a line is refused for what it says: its size first, then its name.
abbrev pub fault : Line → Option Refusal
fault (job t s n) = cond (good_size s) (cond (good_name n) None (Some Name)) (Some Size)
fault (lost t) = None

-- Why a line is refused where ticks begin at `from` and there are n jobs: its tick first, then its being one job too many.
abbrev pub misplaced : ℕ → ℕ → Line → Option Refusal
misplaced from n l = cond (nat_lt (tick l) from) (Some TickOrder) (cond (is_job l && nat_le 1024 n) (Some BookFull) None)

-- The first of two causes.
abbrev pub first : Option Refusal → Option Refusal → Option Refusal
first (Some c) d = Some c
first None d = d

-- Why a line is refused after the lines before it.
abbrev pub fault_after : List Line → Line → Option Refusal
fault_after before l = first (fault l) (misplaced (earliest before) (jobs before) l)

-- Lines that keep every rule where the lines `before` come before them: each is formed, and not refused after all those before it.
abbrev pub Keep : List Line → List Line → Type 0
Keep before [] = Unit {0}
Keep before (l ∷ ls) = Formed l × (fault_after before l ≡ None) × Keep (before ++ l ∷ []) ls
