-- Chains of runs under a list of calls: a run newly made, and after each call a run that the call's own contract allows.
use Rattle.std.specs.Prelude.{◌≡◌, ℕ, List, [], ◌∷◌, Some, None, Option, Result}
use Rattle.refusal.specs.declared.Refusal.{Refusal}
use Rattle.discipline.specs.declared.Discipline.{Ghosts}
use Rattle.run.specs.declared.run.Run.{Run}
use Rattle.run.specs.declared.lease.Lease.{Lease}
use Rattle.run.specs.Runs.{meaning}
use Rattle.run.specs.Steps.{made_with}
use Rattle.run.specs.Histories.{Event, enter, take, done, back, pass, Step}
use Rattle.contest.specs.Calls.{Hand, own, stray, Call, Enter, Take, Done, Back, Pass}
use Rattle.contest.specs.Transcripts.{lease_out}

-- The lease l is handed in to a run with mark m that has the lease o out. A lease that was spent is gone, so where none is out a run is
-- handed a stray one in place of its own, and every list of calls can be made.
abbrev pub Handed : ℕ → Hand → Option Lease → Lease → Type 0
Handed m own (Some k) l = l ≡ k
Handed m own None l = l.mark ≡ m → ⊥
Handed m stray o l = l.mark ≡ m → ⊥

-- The event is the call, with some answer, on a run with mark m that has the lease o out.
pub data Asks (m : ℕ) (o : Option Lease) : Call → Event → Type 0 where
  enters : (n : List ℕ) (z : ℕ) (r : Result ℕ Refusal) → Asks m o (Enter n z) (enter n z r)
  takes : (r : Result Lease Refusal) → Asks m o Take (take r)
  dones : (h : Hand) (l : Lease) (r : Result (Unit {0}) (Refusal × Lease)) → Handed m h o l → Asks m o (Done h) (done l r)
  backs : (h : Hand) (l : Lease) (r : Result (Unit {0}) (Refusal × Lease)) → Handed m h o l → Asks m o (Back h) (back l r)
  passes : (r : Result (Unit {0}) Refusal) → Asks m o Pass (pass r)

-- The run r, made with mark m over a discipline of the meaning d, came by the calls cs, with the transcript es; the newest first. Each
-- step is what that call's contract says (`Step`), and nothing else alters a run.
pub data Chain {D : Type 0} (d : Ghosts D) (m : ℕ) : List Call → List Event → Run D d → Type 0 where
  made : (r : Run D d) → meaning d r ≡ made_with m → Chain d m [] [] r
  called : {cs : List Call} {es : List Event} {c : Call} {e : Event} {r : Run D d} (r' : Run D d)
      → Chain d m cs es r → Asks m (lease_out es) c e → Step e (meaning d r) (meaning d r') → Chain d m (c ∷ cs) (e ∷ es) r'
