-- What the laws of the row disciplines say.
use Rattle.std.specs.Prelude.{◌≡◌, ℕ, ◌+◌, ◌<◌, List, [], ◌∷◌, ◌++◌}
use Rattle.std.specs.List.{AllByRecursion}
use Rattle.discipline.specs.Meaning.{Move, cleared, admitted, worked}
use Rattle.discipline.specs.declared.Discipline.{Ghosts}
use Rattle.queues.specs.declared.row_discipline.RowDiscipline.{RowDiscipline}
use Rattle.queues.specs.declared.service.Service.{Ghosts as Serving}
use Rattle.queues.specs.Disciplines.{Fcfs, fcfs-ghosts, lcfs-ghosts, round-ghosts, order_of, reordered}
use Rattle.queues.specs.Queues.{Queue, queue, fcfs, lcfs, round_robin, moved}
use Rattle.queues.specs.Rows.{first_of}
use Rattle.queues.specs.Views.{queue_of}
use Rattle.queues.specs.Follows.{Follows}

-- A row discipline under the service s follows the queue that is read off it.
abbrev pub RowDisciplinesFollow : {S : Type 0} → Serving S → Ghosts (RowDiscipline S) → Type 0
RowDisciplinesFollow s d = Follows d (queue_of s)

-- In full for the three: FCFS has its own rule over its row, LCFS its own, and round robin its quantum and its turn.
abbrev pub ThreeFollow : Type 0
ThreeFollow =
    Follows fcfs-ghosts (λ d. queue fcfs d.jobs.row 0)
    × Follows lcfs-ghosts (λ d. queue lcfs d.jobs.row 0)
    × Follows round-ghosts (λ d. queue (round_robin d.service.quantum.units) d.jobs.row d.service.turn)

-- Under FCFS each call moves the order of admission as it should, and the choice is the front of it.
abbrev pub FcfsKeepsOrder : Type 0
FcfsKeepsOrder =
    ((m : Move) (x y : Fcfs) → fcfs-ghosts.moves m x y → order_of y ≡ reordered m (order_of x))
    × ((x : Fcfs) → fcfs-ghosts.choice x ≡ first_of (order_of x))

-- The queue after a list of moves, the first move first.
abbrev pub after_moves : List Move → Queue → Queue
after_moves [] q = q
after_moves (m ∷ ms) q = after_moves ms (moved m q)

-- A move within the turn of job n: another job is admitted, or n is served a unit and has some left.
abbrev pub WithinTurn : ℕ → Move → Type 0
WithinTurn n cleared = ⊥
WithinTurn n (admitted j z) = j ≡ n → ⊥
WithinTurn n (worked j l) = (j ≡ n) × (0 < l)

-- How many of some moves are units of work.
abbrev pub units_among : List Move → ℕ
units_among [] = 0
units_among (cleared ∷ ms) = units_among ms
units_among (admitted j z ∷ ms) = units_among ms
units_among (worked j l ∷ ms) = 1 + units_among ms

-- The jobs that some moves admit, in order.
abbrev pub admitted_by : List Move → List ℕ
admitted_by [] = []
admitted_by (cleared ∷ ms) = admitted_by ms
admitted_by (admitted j z ∷ ms) = j ∷ admitted_by ms
admitted_by (worked j l ∷ ms) = admitted_by ms

-- Round robin: a job n at the front that is served q units, the quantum, and is not finished, goes behind everyone who is then present:
-- those who were behind it, and those admitted meanwhile. The q-th unit is the last of the moves.
abbrev pub FullTurnGoesBehind : Type 0
FullTurnGoesBehind =
    (q n l : ℕ) (behind : List ℕ) (ms : List Move) → AllByRecursion (WithinTurn n) ms → units_among ms + 1 ≡ q → 0 < l
    → after_moves (ms ++ worked n l ∷ []) (queue (round_robin q) (n ∷ behind) 0)
    ≡ queue (round_robin q) ((behind ++ admitted_by ms) ++ n ∷ []) 0
