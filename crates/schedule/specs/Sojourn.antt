-- Sojourns: when a job finished, and how long it stayed.
use Rattle.std.specs.Prelude.{◌≡◌, ℕ, ◌+◌, ◌-◌, ◌≤◌, cond, ◌&&◌, [], ◌∷◌, drop, ◌==◌, nat_lt}
use Rattle.schedule.specs.Histories.{History, enter, tick, lost, ticks, arrival, Sized}
use Rattle.schedule.specs.Schedules.{Schedule, remaining, Present, Finished, Legal}
use Rattle.schedule.specs.Occupancy.{ticks_present}

-- The finish of a job: the tick in which its remaining work became 0; 0 where there is none.
abbrev pub finish : History → Schedule → ℕ → ℕ
finish [] s j = 0
finish (enter z ∷ h) s j = finish h s j
finish (tick ∷ h) s j = cond (nat_lt 0 (remaining h (drop 1 s) j) && remaining h s j == 0) (ticks h) (finish h (drop 1 s) j)
finish (lost ∷ h) s j = finish h (drop 1 s) j

-- The sojourn of a finished job: from its arrival to the end of the tick in which it finished.
abbrev pub sojourn : History → Schedule → ℕ → ℕ
sojourn h s j = finish h s j + 1 - arrival h j

-- Under every legal schedule of jobs that have at least one unit of work: a finished job did not finish before it arrived, and the ticks
-- that it spent present are its sojourn; a job that is still present has been so in every tick since its arrival, and the ticks that it
-- spent present are the clock less its arrival.
abbrev pub SojournCounted : Type 0
SojournCounted =
    (h : History) (s : Schedule) → Sized h → Legal h s
    → (j : ℕ)
    → (Finished h s j → (arrival h j ≤ finish h s j) × (ticks_present h s j ≡ sojourn h s j))
    × (Present h s j → (arrival h j ≤ ticks h) × (ticks_present h s j ≡ ticks h - arrival h j))
