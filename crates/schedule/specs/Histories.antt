-- Histories: what a server accepted, the jobs that entered and the ticks that ended.
use Rattle.std.specs.Prelude.{ℕ, suc, ◌<◌, List, [], ◌∷◌, ◌++◌, map, length, drop, sum, slice_index}
use Rattle.std.specs.List.{range_with_len}

-- An accepted event: a job of some size entered; a tick ended in which the server could work, whether it did or was idle; or a tick ended
-- that was lost, in which it could not.
pub data Event : Type 0 where
  enter : ℕ → Event
  tick : Event
  lost : Event

-- A history is the list of accepted events, the newest first.
abbrev pub History : Type 0
History = List Event

-- The sizes of the jobs that entered, in the order of entry. A job's number is its place in this order, counted from 0.
abbrev pub sizes : History → List ℕ
sizes [] = []
sizes (enter z ∷ h) = sizes h ++ z ∷ []
sizes (tick ∷ h) = sizes h
sizes (lost ∷ h) = sizes h

-- How many jobs entered.
abbrev pub jobs : History → ℕ
jobs h = length (sizes h)

-- The size of a job, in units of work; 0 for a job that has not entered.
abbrev pub size_of : History → ℕ → ℕ
size_of h j = slice_index (sizes h) j

-- Every job that entered has at least one unit of work.
abbrev pub Sized : History → Type 0
Sized h = (j : ℕ) → j < jobs h → 0 < size_of h j

-- How many ticks ended, lost ones included. This is the clock: the number of the tick that is going on, counted from 0.
abbrev pub ticks : History → ℕ
ticks [] = 0
ticks (enter z ∷ h) = ticks h
ticks (tick ∷ h) = suc (ticks h)
ticks (lost ∷ h) = suc (ticks h)

-- The ticks in which the jobs entered, in the order of entry.
abbrev pub arrivals : History → List ℕ
arrivals [] = []
arrivals (enter z ∷ h) = arrivals h ++ ticks h ∷ []
arrivals (tick ∷ h) = arrivals h
arrivals (lost ∷ h) = arrivals h

-- The arrival of a job: the tick in which it entered.
abbrev pub arrival : History → ℕ → ℕ
arrival h j = slice_index (arrivals h) j

-- A figure that each job has, summed over the jobs that entered.
abbrev pub sum_over_jobs : History → (ℕ → ℕ) → ℕ
sum_over_jobs h figure = sum (map figure (range_with_len 0 (jobs h)))

-- The history as it was before its last n events.
abbrev pub before : ℕ → History → History
before n h = drop n h
