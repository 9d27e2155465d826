-- A turn under round robin: one job is served, unit by unit, while others may enter.
use Rattle.std.specs.Prelude.{◌≡◌, ℕ, ◌+◌, ◌<◌, List, [], ◌∷◌, ◌++◌, Ok, slice_index}
use Rattle.queues.specs.Disciplines.{RoundRobin, round-ghosts as round_robins, round_queue}
use Rattle.queues.specs.Rows.{times}
use Rattle.queues.specs.Queues.{Queue, queue, round_robin}
use Rattle.run.specs.declared.run.Run.{Run}
use Rattle.run.specs.declared.lease.Lease.{Lease}
use Rattle.run.specs.Runs.{meaning, discipline_of, Untouched}
use Rattle.run.specs.Histories.{Event, enter, done, Step}
use Rattle.run.specs.Courses.{Conducts}

-- The row and the turn of a run over round robin.
abbrev pub queue_of : Run RoundRobin round_robins → Queue
queue_of r = round_queue (discipline_of r)

-- One call, as its contract has it.
pub record Calls (e : Event) (x y : Run RoundRobin round_robins) : Type 0 where
  pub does : Step e (meaning round_robins x) (meaning round_robins y)
  pub conducts : Conducts round_robins e x y

-- A unit of job n that does not finish it.
pub record UnitOf (n : ℕ) (x y : Run RoundRobin round_robins) : Type 0 where
  pub lease : Lease
  pub on : lease.job ≡ n
  pub calls : Calls (done lease (Ok tt)) x y
  pub unfinished : 0 < slice_index (meaning round_robins y).present n

-- From the run r to another, job n had u units, none of which finished it, and the jobs ks entered, in this order; no other job was worked
-- on. Calls that leave the discipline untouched (a take, a lost tick, a refused call) may stand anywhere.
pub data Served (n : ℕ) (r : Run RoundRobin round_robins) : ℕ → List ℕ → Run RoundRobin round_robins → Type 0 where
  none : Served n r 0 [] r
  entered : {u : ℕ} {ks : List ℕ} {x : Run RoundRobin round_robins} (y : Run RoundRobin round_robins) (w : List ℕ) (z k : ℕ)
      → Served n r u ks x → Calls (enter w z (Ok k)) x y → Served n r u (ks ++ k ∷ []) y
  waited : {u : ℕ} {ks : List ℕ} {x : Run RoundRobin round_robins} (y : Run RoundRobin round_robins) (e : Event)
      → Served n r u ks x → Calls e x y → Untouched x y → Served n r u ks y
  worked : {u : ℕ} {ks : List ℕ} {x : Run RoundRobin round_robins} (y : Run RoundRobin round_robins)
      → Served n r u ks x → UnitOf n x y → Served n r (u + 1) ks y

-- Under round robin with quantum q, a job at the front whose turn begins, that is then served q units in a row and is not finished, goes
-- behind everyone who is then present: those who stood behind it, and those who entered meanwhile. The row has everyone who is present.
abbrev pub FullTurnGoesBehind : Type 0
FullTurnGoesBehind =
    (q n u : ℕ) (xs ks : List ℕ) (r x y : Run RoundRobin round_robins)
    → queue_of r ≡ queue (round_robin q) (n ∷ xs) 0
    → Served n r u ks x → u + 1 ≡ q → UnitOf n x y
    → (queue_of y ≡ queue (round_robin q) ((xs ++ ks) ++ n ∷ []) 0)
    × ((k : ℕ) → 0 < slice_index (meaning round_robins y).present k → 0 < times k (queue_of y).row)
