-- What a run's book says of a job, beside its history and its own schedule.
use Rattle.std.specs.Prelude.{◌≡◌, ℕ, ◌-◌, cond, nat_lt}
use Rattle.run.specs.declared.line.Line.{Line}
use Rattle.run.specs.Lines.{sojourn_of}
use Rattle.schedule.specs.Histories.{History, arrival, size_of}
use Rattle.schedule.specs.Schedules.{Schedule, remaining}
use Rattle.schedule.specs.Sojourn.{finish}

-- A line of the book is that of job j: it has the tick in which the job entered, its size, the work that remains, and the tick in which
-- the last unit was done, 0 until then.
pub record LineOf (h : History) (s : Schedule) (j : ℕ) (l : Line) : Type 0 where
  pub arrives : l.arrival ≡ arrival h j
  pub sizes : l.size ≡ size_of h j
  pub remains : l.left ≡ remaining h s j
  pub finishes : l.finish ≡ finish h s j

-- How long a job has stayed, by its line, when the clock is c: its sojourn once it is finished, and until then the clock less its arrival.
abbrev pub stay : ℕ → Line → ℕ
stay c l = cond (nat_lt 0 l.left) (c - l.arrival) (sojourn_of l)
