-- What holds of every run, under every discipline, whatever calls were made of it.
use Rattle.std.specs.Prelude.{◌≡◌, ℕ, ◌+◌, List}
use Rattle.discipline.specs.declared.Discipline.{Ghosts}
use Rattle.run.specs.declared.run.Run.{Run}
use Rattle.run.specs.States.{State, Tied}
use Rattle.run.specs.Runs.{meaning}
use Rattle.run.specs.Questions.{unfinished_work}
use Rattle.run.specs.Histories.{Event, Reaches, ticks, units, sizes}

-- After the calls es a run is in s: the discipline and the book agree; the clock is the number of accepted done, back and pass; the unfinished work is the sizes of the accepted enters less the accepted done.
pub record Lawful (es : List Event) (s : State) : Type 0 where
  pub tied : Tied s
  pub time : s.accounts.clock ≡ ticks es
  pub work : unfinished_work s.book + units es ≡ sizes es

-- Every run that there is, over a discipline of the meaning d, is tied.
abbrev pub EveryRunTied : {D : Type 0} → Ghosts D → Type 0
EveryRunTied {D} d = (r : Run D d) → Tied (meaning d r)

-- Every run made with mark m is lawful after every list of calls.
abbrev pub AlwaysLawful : ℕ → Type 0
AlwaysLawful m = (es : List Event) (s : State) → Reaches m es s → Lawful es s
