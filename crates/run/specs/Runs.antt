-- The meaning of a run of any discipline, and how its discipline moves.
use Rattle.std.specs.Prelude.{◌≡◌, Result}
use Rattle.refusal.specs.Answers.{KeptIfRefused}
use Rattle.discipline.specs.declared.Discipline.{Ghosts}
use Rattle.discipline.specs.Meaning.{Move}
use Rattle.run.specs.declared.run.Run.{Run}
use Rattle.run.specs.States.{State}

-- What a run holds, its discipline read by the discipline's own meaning.
abbrev pub meaning : {D : Type 0} → (d : Ghosts D) → Run D d → State
meaning d r = record { present = d.present r.discipline; choice = d.choice r.discipline; book = r.book; accounts = r.accounts }

-- The discipline of a run.
abbrev pub discipline_of : {D : Type 0} {d : Ghosts D} → Run D d → D
discipline_of r = r.discipline

-- From x to y the discipline is untouched.
abbrev pub Untouched : {D : Type 0} {d : Ghosts D} → Run D d → Run D d → Type 0
Untouched x y = discipline_of y ≡ discipline_of x

-- The same where the call is refused.
abbrev pub UntouchedIfRefused : {D T E : Type 0} {d : Ghosts D} → Run D d → Result T E → Run D d → Type 0
UntouchedIfRefused x r y = KeptIfRefused r (discipline_of x) (discipline_of y)

-- From x to y the discipline moves by its own rule.
abbrev pub Moves : {D : Type 0} → (d : Ghosts D) → Move → Run D d → Run D d → Type 0
Moves d m x y = d.moves m (discipline_of x) (discipline_of y)
