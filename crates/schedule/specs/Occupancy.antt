-- Occupancy: how many jobs are present, and for how many ticks each was.
use Rattle.std.specs.Prelude.{◌≡◌, ℕ, ◌+◌, max, cond, [], ◌∷◌, drop, nat_lt}
use Rattle.schedule.specs.Histories.{History, enter, tick, lost, size_of, sum_over_jobs}
use Rattle.schedule.specs.Schedules.{Schedule, units}

-- 1 for a job that is present, 0 for one that is not.
abbrev pub presence : History → Schedule → ℕ → ℕ
presence h s j = cond (nat_lt (units j s) (size_of h j)) 1 0

-- The occupancy: how many jobs are present.
abbrev pub occupancy : History → Schedule → ℕ
occupancy h s = sum_over_jobs h (presence h s)

-- The occupancy total: at the end of each tick, the jobs present before that tick's unit is done are counted; the counts, summed.
abbrev pub occupancy_total : History → Schedule → ℕ
occupancy_total [] s = 0
occupancy_total (enter z ∷ h) s = occupancy_total h s
occupancy_total (tick ∷ h) s = occupancy h (drop 1 s) + occupancy_total h (drop 1 s)
occupancy_total (lost ∷ h) s = occupancy h (drop 1 s) + occupancy_total h (drop 1 s)

-- The peak: the largest of these counts, 0 where no tick has ended.
abbrev pub peak : History → Schedule → ℕ
peak [] s = 0
peak (enter z ∷ h) s = peak h s
peak (tick ∷ h) s = max (peak h (drop 1 s)) (occupancy h (drop 1 s))
peak (lost ∷ h) s = max (peak h (drop 1 s)) (occupancy h (drop 1 s))

-- In how many of the ticks that ended a job was present: it had entered before the tick's end, with fewer units than its size in the
-- earlier entries.
abbrev pub ticks_present : History → Schedule → ℕ → ℕ
ticks_present [] s j = 0
ticks_present (enter z ∷ h) s j = ticks_present h s j
ticks_present (tick ∷ h) s j = presence h (drop 1 s) j + ticks_present h (drop 1 s) j
ticks_present (lost ∷ h) s j = presence h (drop 1 s) j + ticks_present h (drop 1 s) j

-- The occupancy identity, Little's law in finite form: under any schedule, legal or not, the occupancy total is the ticks that the jobs
-- spent present, summed over the jobs.
abbrev pub OccupancyIdentity : Type 0
OccupancyIdentity = (h : History) (s : Schedule) → occupancy_total h s ≡ sum_over_jobs h (ticks_present h s)
