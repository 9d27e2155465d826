-- A full turn under round robin.
use Rattle.std.proofs.Common.{◌≡◌, ℕ, ◌+◌, ◌-◌, ◌<◌, Bool, cond, eqb, List, [], ◌∷◌, ◌++◌, length, get_or, sym, refl, ap, ◌∙◌, subst, append_assoc, arith}
use Rattle.std.proofs.lemmas.List.{append-nil, get_or-set_same}
use Rattle.std.proofs.lemmas.Bool.{eq-eqb, ne_eqb}
use Rattle.queues.specs.Disciplines.{RoundRobin, round-ghosts as ghosts, round_queue}
use Rattle.discipline.specs.Meaning.{admitted, worked}
use Rattle.queues.specs.Rows.{leaves}
use Rattle.queues.specs.Queues.{Queue, queue, round_robin, turned, rounds, moved}
use Rattle.run.specs.declared.run.Run.{Run}
use Rattle.run.specs.States.{State}
use Rattle.run.specs.Runs.{meaning}
use Rattle.run.proofs.Ended.{present_below}
use Rattle.run.proofs.Accepting.{done_ok}
use Rattle.run.proofs.Tying.{tied_run}
use Rattle.order.proofs.Chosen.{round_sound}
use Rattle.order.specs.Turns as T
use Rattle.order.specs.Turns.{queue_of, UnitOf, Served, FullTurnGoesBehind}
use Rattle.order.proofs.Rising.{in_row}

-- The front has one more unit, and work left: it stays, or goes to the end.
abbrev after_unit : ℕ → ℕ → List ℕ → ℕ → Queue
after_unit q n xs u = cond (eqb (u + 1) q) (queue (round_robin q) (xs ++ n ∷ []) 0) (queue (round_robin q) (n ∷ xs) (u + 1))

rounds_front : (q n l u : ℕ) (xs : List ℕ) → 0 < l → rounds q n l (n ∷ xs) u ≡ after_unit q n xs u
rounds_front q n l u xs p =
    ap (λ (b : Bool). cond b (turned q l n xs u) (queue (round_robin q) (leaves n l (n ∷ xs)) u)) (eq-eqb n n refl)
    ∙ ap (λ (b : Bool). cond b (queue (round_robin q) xs 0) (after_unit q n xs u)) (ne_eqb l 0 (λ e. omega arith))

-- What a unit leaves of the leased job's work.
unit_left : (x y : Run RoundRobin ghosts) (n : ℕ) (c : UnitOf n x y) → get_or (meaning ghosts y).present n 0 ≡ get_or (meaning ghosts x).present n 0 - 1
unit_left x y n c =
    let s = meaning ghosts x in
    let j = c.lease.job in
    let here = (done_ok s c.lease tt (tied_run ghosts round_sound x) c.calls.does.answers).here in
    let long : length s.present ≡ 1024 = x.discipline.jobs.long in
    let low : j < length s.present = omega (arith, present_below s.present j long here) in
    subst (λ i. get_or (meaning ghosts y).present i 0 ≡ get_or s.present i 0 - 1) c.on
    (ap (λ (t : State). get_or t.present j 0) c.calls.does.leaves ∙ get_or-set_same s.present j (get_or s.present j 0 - 1) 0 low)

unit-queue : (x y : Run RoundRobin ghosts) (n q u : ℕ) (xs : List ℕ) → UnitOf n x y → queue_of x ≡ queue (round_robin q) (n ∷ xs) u → queue_of y ≡ after_unit q n xs u
unit-queue x y n q u xs c e =
    let l = get_or (meaning ghosts x).present n 0 - 1 in
    let moves : queue_of y ≡ moved (worked n l) (queue_of x)
    = subst (λ j. queue_of y ≡ moved (worked j (get_or (meaning ghosts x).present j 0 - 1)) (queue_of x)) c.on c.calls.conducts.0 in
    moves ∙ ap (moved (worked n l)) e ∙ rounds_front q n l u xs (omega (arith, unit_left x y n c, c.unfinished))

-- Within its turn the job stays at the front.
served-queue : (q n : ℕ) (xs : List ℕ) (r : Run RoundRobin ghosts) → queue_of r ≡ queue (round_robin q) (n ∷ xs) 0
    → {u : ℕ} {ks : List ℕ} {x : Run RoundRobin ghosts} → Served n r u ks x → u < q → queue_of x ≡ queue (round_robin q) (n ∷ (xs ++ ks)) u
served-queue q n xs r e T.none l = e ∙ ap (λ (ys : List ℕ). queue (round_robin q) (n ∷ ys) 0) (sym (append-nil xs))
served-queue q n xs r e (T.entered {u = u} {ks = ks} y w z k s c) l =
    c.conducts.0 ∙ ap (moved (admitted k z)) (served-queue q n xs r e s l) ∙ ap (λ (ys : List ℕ). queue (round_robin q) (n ∷ ys) u) (append_assoc xs ks (k ∷ []))
served-queue q n xs r e (T.waited y v s c f) l = ap round_queue f ∙ served-queue q n xs r e s l
served-queue q n xs r e (T.worked {u = u} {ks = ks} {x = x} y s c) l =
    unit-queue x y n q u (xs ++ ks) c (served-queue q n xs r e s (omega arith))
    ∙ ap (λ (b : Bool). cond b (queue (round_robin q) ((xs ++ ks) ++ n ∷ []) 0) (queue (round_robin q) (n ∷ (xs ++ ks)) (u + 1))) (ne_eqb (u + 1) q (λ z. omega arith))

pub full_turn_goes_behind_lem : FullTurnGoesBehind
full_turn_goes_behind_lem q n u xs ks r x y e s f c = (
  unit-queue x y n q u (xs ++ ks) c (served-queue q n xs r e s (omega arith))
      ∙ ap (λ (b : Bool). cond b (queue (round_robin q) ((xs ++ ks) ++ n ∷ []) 0) (queue (round_robin q) (n ∷ (xs ++ ks)) (u + 1))) (eq-eqb (u + 1) q f),
  λ k p. in_row (queue_of y).row (meaning ghosts y).present k y.discipline.jobs.once p,
)
