-- How the disciplines that keep a row choose, and how row and turn move.
use Rattle.std.specs.Prelude.{ℕ, ◌+◌, Bool, false, cond, List, [], ◌∷◌, ◌++◌, Option, ◌==◌}
use Rattle.discipline.specs.Meaning.{Move, cleared, admitted, worked}
use Rattle.queues.specs.Rows.{first_of, last_of, front_to_end, leaves}

-- First come first served; last come first served, preemptive; round robin with a quantum.
pub data Rule : Type 0 where
  fcfs : Rule
  lcfs : Rule
  round_robin : ℕ → Rule

-- The present jobs in the order of the row, and how many units the front has had in its turn (0 where there are no turns).
pub record Queue : Type 0 where
  pub rule : Rule
  pub row : List ℕ
  pub turn : ℕ

abbrev pub queue : Rule → List ℕ → ℕ → Queue
queue rule row turn = record { rule = rule; row = row; turn = turn }

abbrev pub choice_by : Rule → List ℕ → Option ℕ
choice_by fcfs row = first_of row
choice_by lcfs row = last_of row
choice_by (round_robin q) row = first_of row

-- The job to serve next: the front, or for last come first served the end of the row.
abbrev pub choice_of : Queue → Option ℕ
choice_of q = choice_by q.rule q.row

-- Round robin with quantum q, when the front x has had one more unit and l are left: a finished front leaves; a full turn sends it to the end.
abbrev pub turned : ℕ → ℕ → ℕ → List ℕ → ℕ → Queue
turned q l x xs turn =
    cond (l == 0) (queue (round_robin q) xs 0)
    (cond (turn + 1 == q) (queue (round_robin q) (xs ++ x ∷ []) 0)
    (queue (round_robin q) (x ∷ xs) (turn + 1)))

-- Whether the front goes to the end when it has had one more unit, l are left, and it had turn units before.
abbrev pub ends_turn : Rule → ℕ → ℕ → Bool
ends_turn fcfs l turn = false
ends_turn lcfs l turn = false
ends_turn (round_robin q) l turn = cond (l == 0) false (turn + 1 == q)

-- How many units the front then has had in its turn.
abbrev pub turn_after : Rule → ℕ → ℕ → ℕ
turn_after fcfs l turn = turn
turn_after lcfs l turn = turn
turn_after (round_robin q) l turn = cond (l == 0) 0 (cond (turn + 1 == q) 0 (turn + 1))

-- The queue then, told of the row that a finished front has left already.
abbrev pub fronted : Rule → ℕ → List ℕ → ℕ → Queue
fronted rule l row turn = queue rule (cond (ends_turn rule l turn) (front_to_end row) row) (turn_after rule l turn)

-- Round robin with quantum q after a unit on job n that leaves l: a job that is not the front leaves the turn alone.
abbrev pub rounds : ℕ → ℕ → ℕ → List ℕ → ℕ → Queue
rounds q n l [] turn = queue (round_robin q) [] turn
rounds q n l (x ∷ xs) turn = cond (n == x) (turned q l x xs turn) (queue (round_robin q) (leaves n l (x ∷ xs)) turn)

-- After a unit on job n that leaves l.
abbrev pub serves : Rule → ℕ → ℕ → List ℕ → ℕ → Queue
serves fcfs n l row turn = queue fcfs (leaves n l row) turn
serves lcfs n l row turn = queue lcfs (leaves n l row) turn
serves (round_robin q) n l row turn = rounds q n l row turn

-- How an accepted call moves the queue; an admitted job comes last.
abbrev pub moved : Move → Queue → Queue
moved cleared q = queue q.rule [] 0
moved (admitted n z) q = queue q.rule (q.row ++ n ∷ []) q.turn
moved (worked n l) q = serves q.rule n l q.row q.turn
