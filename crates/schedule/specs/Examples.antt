-- Worked examples: small histories, and the figures that follow from the definitions by computing.
use Rattle.std.specs.Prelude.{◌≡◌, ℕ, List, [], ◌∷◌, map, reverse}
use Rattle.std.specs.List.{range_with_len}
use Rattle.schedule.specs.Histories.{History, enter, tick, lost, ticks}
use Rattle.schedule.specs.Schedules.{Schedule, job, idle}
use Rattle.schedule.specs.Occupancy.{occupancy, occupancy_total}
use Rattle.schedule.specs.Sojourn.{sojourn}
use Rattle.schedule.specs.Work.{unfinished}
use Rattle.schedule.specs.Computed.{fcfs, srpt}

-- Two jobs of size 2 in tick 0.
abbrev pub two_twos : History
two_twos = reverse (enter 2 ∷ enter 2 ∷ tick ∷ tick ∷ tick ∷ tick ∷ [])

-- A job of size 5 in tick 0, and one of the given size in tick 2.
abbrev pub five_then : ℕ → History
five_then z = reverse (enter 5 ∷ tick ∷ tick ∷ enter z ∷ tick ∷ tick ∷ tick ∷ tick ∷ tick ∷ [])

-- A job of size 1 in tick 0, which is lost.
abbrev pub one_lost : History
one_lost = reverse (enter 1 ∷ lost ∷ tick ∷ [])

-- A job of size 1 in tick 0, and that tick, lost, is the last that ended.
abbrev pub just_lost : History
just_lost = reverse (enter 1 ∷ lost ∷ [])

-- A tick without jobs, then a job of size 1.
abbrev pub just_entered : History
just_entered = reverse (tick ∷ enter 1 ∷ [])

-- Jobs of sizes 4, 1 and 3 in ticks 0, 1 and 2.
abbrev pub three_jobs : History
three_jobs = reverse (enter 4 ∷ tick ∷ enter 1 ∷ tick ∷ enter 3 ∷ tick ∷ tick ∷ tick ∷ tick ∷ tick ∷ tick ∷ [])

-- The sojourns of the first three jobs under a schedule.
abbrev pub three_sojourns : History → Schedule → List ℕ
three_sojourns h s = map (sojourn h s) (range_with_len 0 3)

-- What the definitions give for them.
pub record Examples : Type 0 where
  -- Of two equal jobs SRPT finishes one before it turns to the other.
  pub two_twos_order : reverse (srpt two_twos) ≡ job 0 ∷ job 0 ∷ job 1 ∷ job 1 ∷ []
  pub two_twos_total : occupancy_total two_twos (srpt two_twos) ≡ 6
  -- In tick 2 the first job has 3 left: SRPT turns to a new job of 2, and is better off than FCFS; of 3, and it stays with the first.
  pub five_two : reverse (srpt (five_then 2)) ≡ job 0 ∷ job 0 ∷ job 1 ∷ job 1 ∷ job 0 ∷ job 0 ∷ job 0 ∷ []
  pub five_two_total : occupancy_total (five_then 2) (srpt (five_then 2)) ≡ 9
  pub five_two_fcfs : occupancy_total (five_then 2) (fcfs (five_then 2)) ≡ 10
  pub five_three : reverse (srpt (five_then 3)) ≡ job 0 ∷ job 0 ∷ job 0 ∷ job 0 ∷ job 0 ∷ job 1 ∷ job 1 ∷ []
  -- In a lost tick a job is present and gets no unit.
  pub one_lost_order : reverse (srpt one_lost) ≡ idle ∷ job 0 ∷ []
  pub one_lost_total : occupancy_total one_lost (srpt one_lost) ≡ 2
  -- Three jobs are finished after 8 ticks. The total is the sojourns, summed.
  pub three_end : ticks three_jobs ≡ 8
  pub three_done : unfinished three_jobs (srpt three_jobs) ≡ 0
  pub three_srpt : occupancy_total three_jobs (srpt three_jobs) ≡ 12
  pub three_fcfs : occupancy_total three_jobs (fcfs three_jobs) ≡ 14
  pub three_srpt_sojourns : three_sojourns three_jobs (srpt three_jobs) ≡ 5 ∷ 1 ∷ 6 ∷ []
  pub three_fcfs_sojourns : three_sojourns three_jobs (fcfs three_jobs) ≡ 4 ∷ 4 ∷ 6 ∷ []
  -- Why a lost tick must be idle, and why a job must have entered to be named: schedules that break either rule can have fewer present
  -- than SRPT.
  pub lost_worked : occupancy just_lost (job 0 ∷ []) ≡ 0
  pub lost_srpt : occupancy just_lost (srpt just_lost) ≡ 1
  pub ahead_worked : occupancy just_entered (job 0 ∷ []) ≡ 0
  pub ahead_srpt : occupancy just_entered (srpt just_entered) ≡ 1
