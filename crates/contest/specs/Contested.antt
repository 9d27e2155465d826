-- What a contest did, and that the theorem holds of it.
use Rattle.std.specs.Prelude.{◌≡◌, ℕ, ◌≤◌, List, [], ◌∷◌, map, reverse, drop, Some, None, Ok, Option, slice_index}
use Rattle.discipline.specs.declared.Discipline.{Ghosts}
use Rattle.run.specs.declared.run.Run.{Run}
use Rattle.run.specs.declared.lease.Lease.{Lease}
use Rattle.run.specs.Runs.{meaning}
use Rattle.run.specs.Steps.{made_with, done_rule}
use Rattle.run.specs.Histories.{Event}
use Rattle.schedule.specs.Schedules.{Schedule, Legal}
use Rattle.schedule.specs.Occupancy.{occupancy}
use Rattle.srpt.specs.declared.srpt.Srpt.{Srpt}
use Rattle.srpt.specs.contracts.srpt.SrptDiscipline.TheImpl.{ghosts}
use Rattle.contest.specs.declared.calls.Call.{Call}
use Rattle.contest.specs.declared.calls.Round.{Round}
use Rattle.contest.specs.declared.pair.Pair.{Pair}
use Rattle.contest.specs.declared.side.Side.{Side}
use Rattle.contest.specs.Calls as C
use Rattle.contest.specs.Transcripts.{history, own_schedule, lease_out, entries_before}
use Rattle.contest.specs.Chains.{Chain}
use Rattle.contest.specs.Comparison.{present_in, Compared}
use Rattle.contest.specs.Played.{call_of, answer_of, mark_of, Plays}

-- ---- what was done

-- The calls of some rounds.
abbrev pub calls : List Round → List C.Call
calls rounds = map (λ r. call_of r.call) rounds

-- How many jobs were present after each call of a transcript, under the run's own schedule.
abbrev pub occupancies : List Event → List ℕ
occupancies [] = []
occupancies (e ∷ es) = occupancy (history (e ∷ es)) (own_schedule (e ∷ es)) ∷ occupancies es

-- One call on both sides, x over SRPT and y over the rival, with the stray lease o at hand: x', y' and o' after it, and r what is written down of it.
pub record Turns {D : Type 0} (d : Ghosts D) (x : Side Srpt ghosts) (y : Side D d) (o : Lease) (c : Call) (r : Round) (x' : Side Srpt ghosts) (y' : Side D d) (o' : Lease) : Type 0 where
  pub same : r.call ≡ c
  pub first : Plays ghosts x (call_of c) r.srpt.answer x'
  pub second : Plays d y (call_of c) r.rival.answer y'
  pub counted : r.srpt.present ≡ present_in (meaning ghosts x'.run)
  pub counted' : r.rival.present ≡ present_in (meaning d y'.run)
  pub unspent : o' ≡ o

-- The rounds, the newest first, led to the sides x and y and the stray lease o. The runs were newly made with marks that the stray lease k
-- does not have. The transcripts es and es' have what each run answered; the rounds have that down, and how many jobs were present; the
-- leases are those that are out, and o is k.
pub record Led {D : Type 0} (d : Ghosts D) (k : Lease) (rounds : List Round) (x : Side Srpt ghosts) (y : Side D d) (o : Lease) : Type 0 where
  pub mark : ℕ
  pub mark' : ℕ
  pub es : List Event
  pub es' : List Event
  pub chain : Chain ghosts mark (calls rounds) es x.run
  pub chain' : Chain d mark' (calls rounds) es' y.run
  pub answers : map (λ r. r.srpt.answer) rounds ≡ map answer_of es
  pub answers' : map (λ r. r.rival.answer) rounds ≡ map answer_of es'
  pub counts : map (λ r. r.srpt.present) rounds ≡ occupancies es
  pub counts' : map (λ r. r.rival.present) rounds ≡ occupancies es'
  pub lease : x.lease ≡ lease_out es
  pub lease' : y.lease ≡ lease_out es'
  pub unspent : o ≡ k
  pub strange : k.mark ≡ mark → ⊥
  pub strange' : k.mark ≡ mark' → ⊥

-- ---- what holds of it

-- Before each of the last n calls there stood two runs, which the calls before it had led to, and the theorem holds of them.
abbrev pub Throughout : {D : Type 0} → Ghosts D → ℕ → ℕ → List C.Call → List Event → List Event → Type 0
Throughout {D} d m m' cs es es' =
    (n : ℕ)
    → (x : Run Srpt ghosts) × (y : Run D d) × Chain ghosts m (drop n cs) (drop n es) x × Chain d m' (drop n cs) (drop n es') y
    × Compared ghosts d m (drop n cs) (drop n es) (drop n es') x y

-- After each call, every legal schedule of the whole list has at least as many jobs present as the rounds have down for the run over SRPT.
abbrev pub Least : List Round → List Event → Type 0
Least rounds es =
    (t : Schedule) → Legal (history es) t
    → (n : ℕ) → slice_index (map (λ r. r.srpt.present) rounds) n ≤ occupancy (history (drop n es)) (entries_before n es t)

-- The lease that is out, if there is one, is taken by done and by back.
abbrev pub Takes : {D : Type 0} → (d : Ghosts D) → Run D d → Option Lease → Type 0
Takes d x None = Unit {0}
Takes d x (Some l) = done_rule (meaning d x) l ≡ Ok tt

-- A whole contest: the rounds that were handed over, with their calls unaltered, became the rounds after; these calls were made in their
-- order on both runs, which are now those of the pair; the theorem holds of them now and at every earlier point.
pub record Contested {D : Type 0} (d : Ghosts D) (k : Lease) (before after : List Round) (p : Pair D d) : Type 0 where
  pub same : calls after ≡ calls before
  pub led : Led d k (reverse after) p.srpt p.rival p.stray
  pub compared : Compared ghosts d led.mark (calls (reverse after)) led.es led.es' p.srpt.run p.rival.run
  pub throughout : Throughout d led.mark led.mark' (calls (reverse after)) led.es led.es'
  pub least : Least (reverse after) led.es
  pub taken : Takes ghosts p.srpt.run p.srpt.lease
  pub taken' : Takes d p.rival.run p.rival.lease
