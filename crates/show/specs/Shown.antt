-- What is shown of a run.
use Rattle.std.specs.Prelude.{take}
use Rattle.discipline.specs.Meaning.{count_present}
use Rattle.run.specs.Lines.{longest_of}
use Rattle.run.specs.Questions.{unfinished_work}
use Rattle.run.specs.States.{State}
use Rattle.show.specs.declared.figures.Figures.{Figures}
use Rattle.show.specs.declared.figures.Summary.{Summary}

abbrev pub figures_of : State → Figures
figures_of s = record { clock = s.accounts.clock; present = count_present s.present; unfinished = unfinished_work s.book; total = s.accounts.total }

abbrev pub summary_of : State → Summary
summary_of s = record { end = s.accounts.clock; total = s.accounts.total; most = s.accounts.most; longest = longest_of (take s.book.entered s.book.lines) }
