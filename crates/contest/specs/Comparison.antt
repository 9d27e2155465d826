-- The theorem: what every run answers, and how a run over SRPT compares with a run over any discipline under the same calls.
use Rattle.std.specs.Prelude.{◌≡◌, ℕ, ◌<◌, ◌≤◌, List, map, drop, slice_index_or}
use Rattle.discipline.specs.declared.Discipline.{Ghosts}
use Rattle.discipline.specs.Meaning.{count_present}
use Rattle.run.specs.declared.run.Run.{Run}
use Rattle.run.specs.Lines.{unused}
use Rattle.run.specs.States.{State}
use Rattle.run.specs.Questions.{unfinished_work}
use Rattle.run.specs.Runs.{meaning}
use Rattle.run.specs.Histories.{Event}
use Rattle.run.specs.Laws.{Lawful}
use Rattle.schedule.specs.Histories.{jobs, sum_over_jobs}
use Rattle.schedule.specs.Schedules.{Schedule, Legal}
use Rattle.schedule.specs.Occupancy.{occupancy, ticks_present, peak}
use Rattle.contest.specs.Calls.{Call}
use Rattle.contest.specs.Transcripts.{verdict, history, own_schedule, entries_before}
use Rattle.contest.specs.Rules.{Ruled}
use Rattle.contest.specs.Chains.{Chain}
use Rattle.contest.specs.Books.{LineOf, stay}

-- How many jobs a run answers are present.
abbrev pub present_in : State → ℕ
present_in s = count_present s.present

-- What holds of a run over any discipline, in the state s, that came by the calls cs with the transcript es.
pub record Faithful (cs : List Call) (es : List Event) (s : State) : Type 0 where
  -- Every call was accepted, or refused for the cause that the rule gives.
  pub ruled : Ruled cs es
  -- The clock is the number of accepted done, back and pass; the unfinished work is the sizes of the accepted enters less the accepted
  -- done; the discipline and the book agree.
  pub lawful : Lawful es s
  -- The run's own schedule is legal, and as many jobs are present under it as the run answers.
  pub legal : Legal (history es) (own_schedule es)
  pub present_is : present_in s ≡ occupancy (history es) (own_schedule es)
  -- The occupancy total is the ticks spent present, summed over the jobs; most is the largest number present at a tick's end.
  pub total_is : s.accounts.total ≡ sum_over_jobs (history es) (ticks_present (history es) (own_schedule es))
  pub most_is : s.accounts.most ≡ peak (history es) (own_schedule es)
  -- The book has a line for every job that entered, and by that line the job has stayed for the ticks that it spent present.
  pub lines_are : (j : ℕ) → j < jobs (history es) → LineOf (history es) (own_schedule es) j (slice_index_or s.book.lines j unused)
  pub stay_is : (j : ℕ) → j < jobs (history es) → stay s.accounts.clock (slice_index_or s.book.lines j unused) ≡ ticks_present (history es) (own_schedule es) j

-- Every legal schedule of the calls, one that idles too, has at least as many jobs present as the run answers: after the last call, and
-- before each of the last n. (The run before the last n calls is any that those before them can have led to.)
abbrev pub Fewest : {D : Type 0} → Ghosts D → ℕ → List Call → List Event → Type 0
Fewest {D} d m cs es =
    (t : Schedule) → Legal (history es) t
    → (n : ℕ) (r : Run D d) → Chain d m (drop n cs) (drop n es) r
    → present_in (meaning d r) ≤ occupancy (history (drop n es)) (entries_before n es t)

-- What holds of a run r over SRPT, of the meaning g and made with mark m, and of a run r' over any discipline, of the meaning d, that came
-- by the same calls.
pub record Compared {Q D : Type 0} (g : Ghosts Q) (d : Ghosts D) (m : ℕ) (cs : List Call) (es es' : List Event) (r : Run Q g) (r' : Run D d) : Type 0 where
  -- Each is faithful by itself.
  pub srpt : Faithful cs es (meaning g r)
  pub rival : Faithful cs es' (meaning d r')
  -- They accepted the same calls, and refused the others for the same causes, so with the same numbers.
  pub same_verdicts : map verdict es ≡ map verdict es'
  pub same_history : history es ≡ history es'
  -- They answer the same clock and the same unfinished work.
  pub same_clock : (meaning g r).accounts.clock ≡ (meaning d r').accounts.clock
  pub same_work : unfinished_work (meaning g r).book ≡ unfinished_work (meaning d r').book
  -- No legal schedule has fewer jobs present than the run over SRPT answers, and so no other run has.
  pub fewest : Fewest g m cs es
  pub fewer : present_in (meaning g r) ≤ present_in (meaning d r')

-- Every run over a discipline of the meaning d is faithful, whatever the list of calls.
abbrev pub RunsFaithful : {D : Type 0} → Ghosts D → Type 0
RunsFaithful {D} d = (m : ℕ) (cs : List Call) (es : List Event) (r : Run D d) → Chain d m cs es r → Faithful cs es (meaning d r)

-- Every two runs of one list of calls compare so. As it holds of every list, it holds of every beginning of a list: before the first call
-- and after each.
abbrev pub RunsCompared : {Q D : Type 0} → Ghosts Q → Ghosts D → Type 0
RunsCompared {Q} {D} g d =
    (m m' : ℕ) (cs : List Call) (es es' : List Event) (r : Run Q g) (r' : Run D d)
    → Chain g m cs es r → Chain d m' cs es' r' → Compared g d m cs es es' r r'
