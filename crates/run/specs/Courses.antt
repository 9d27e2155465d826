-- Courses: a run over a discipline that has a rule of its own, with the discipline itself, from its making through any calls.
use Rattle.std.specs.Prelude.{◌≡◌, ℕ, ◌-◌, List, [], ◌∷◌, IfOk, OnOk, slice_index}
use Rattle.discipline.specs.declared.Discipline.{Ghosts}
use Rattle.discipline.specs.Meaning.{cleared, admitted, worked}
use Rattle.run.specs.declared.run.Run.{Run}
use Rattle.run.specs.Steps.{made_with}
use Rattle.run.specs.Histories.{Event, enter, take, done, back, pass, Step}
use Rattle.run.specs.Runs.{meaning, discipline_of, Moves, Untouched, UntouchedIfRefused}

-- What a call does to the discipline of the run, by the clauses `moves` and `stays` of that call's contract.
abbrev pub Conducts : {D : Type 0} → (d : Ghosts D) → Event → Run D d → Run D d → Type 0
Conducts d (enter n z r) x y = IfOk r (λ k. Moves d (admitted k z) x y) × UntouchedIfRefused x r y
Conducts d (take r) x y = Untouched x y
Conducts d (done l r) x y = OnOk r (Moves d (worked l.job (slice_index (meaning d x).present l.job - 1)) x y) × UntouchedIfRefused x r y
Conducts d (back l r) x y = Untouched x y
Conducts d (pass r) x y = Untouched x y

-- The run r, made with mark m, came by the calls es, the newest first; each step, of the run and of its discipline, is what the call's
-- contract says.
pub data Course {D : Type 0} (d : Ghosts D) (m : ℕ) : List Event → Run D d → Type 0 where
  made : (x : D) (r : Run D d) → meaning d r ≡ made_with m → d.moves cleared x (discipline_of r) → Course d m [] r
  called : {es : List Event} {e : Event} {r : Run D d} (r' : Run D d)
      → Course d m es r → Step e (meaning d r) (meaning d r') → Conducts d e r r' → Course d m (e ∷ es) r'
