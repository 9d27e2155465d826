-- Lists of calls of a run with their answers, and what can be counted in them.
use Rattle.std.specs.Prelude.{ℕ, ◌+◌, List, [], ◌∷◌, Ok, Err, Result}
use Rattle.refusal.specs.declared.Refusal.{Refusal}
use Rattle.refusal.specs.Answers.{if_accepted}
use Rattle.discipline.specs.Meaning.{Sound}
use Rattle.run.specs.declared.lease.Lease.{Lease}
use Rattle.run.specs.declared.ending.End.{End}
use Rattle.run.specs.declared.ending.End.TheVariants.{Done, Back}
use Rattle.run.specs.States.{State}
use Rattle.run.specs.Steps.{Takes, Dones, Backs, Passes, Enters, made_with}

-- A call and its answer.
pub data Event : Type 0 where
  enter : List ℕ → ℕ → Result ℕ Refusal → Event
  take : Result Lease Refusal → Event
  done : Lease → Result (Unit {0}) (Refusal × Lease) → Event
  back : Lease → Result (Unit {0}) (Refusal × Lease) → Event
  pass : Result (Unit {0}) Refusal → Event

-- The call that ends a tick under a lease, with its answer.
abbrev pub handed_in : End → Lease → Result (Unit {0}) (Refusal × Lease) → Event
handed_in Done l r = done l r
handed_in Back l r = back l r

-- What a call does to a run, by the contract of that call.
abbrev pub Step : Event → State → State → Type 0
Step (enter n z r) s s' = Enters s n z r s'
Step (take r) s s' = Takes s r s'
Step (done l r) s s' = Dones s l r s'
Step (back l r) s s' = Backs s l r s'
Step (pass r) s s' = Passes s r s'

-- A run made with mark m has come to s by the calls es, the newest first, under some discipline.
pub data Reaches (m : ℕ) : List Event → State → Type 0 where
  made : Sound (made_with m).present (made_with m).choice → Reaches m [] (made_with m)
  more : {es : List Event} {s s' : State} {e : Event} → Reaches m es s → Step e s s' → Sound s'.present s'.choice → Reaches m (e ∷ es) s'

-- 1 for an accepted call, 0 for a refused one.
abbrev pub one : {T E : Type 0} → Result T E → ℕ
one (Ok _) = 1
one (Err _) = 0

-- A tick ends at an accepted done, back or pass.
abbrev pub tick : Event → ℕ
tick (enter n z r) = 0
tick (take r) = 0
tick (done l r) = one r
tick (back l r) = one r
tick (pass r) = one r

-- How many ticks have ended.
abbrev pub ticks : List Event → ℕ
ticks [] = 0
ticks (e ∷ es) = tick e + ticks es

-- A unit is done at an accepted done.
abbrev pub unit : Event → ℕ
unit (enter n z r) = 0
unit (take r) = 0
unit (done l r) = one r
unit (back l r) = 0
unit (pass r) = 0

-- How many units have been done.
abbrev pub units : List Event → ℕ
units [] = 0
units (e ∷ es) = unit e + units es

-- The work that an accepted enter brings.
abbrev pub brought : Event → ℕ
brought (enter n z r) = if_accepted r z 0
brought (take r) = 0
brought (done l r) = 0
brought (back l r) = 0
brought (pass r) = 0

-- The sizes of the jobs that entered, summed.
abbrev pub sizes : List Event → ℕ
sizes [] = 0
sizes (e ∷ es) = brought e + sizes es
