use Rattle.std.proofs.Common.{sym, subst}
use Rattle.trace.specs.Lines.{Word}
use Rattle.trace.proofs.Cuts.{no_cut}
use Rattle.trace.proofs.Reading.{tick_cut, size_cut}
use Rattle.trace.proofs.line.job_fields.Goals as goal

pub returns-in_default : goal.returns-in_default
returns-in_default c = λ t s n f e. no_cut 32 _ _ _ c.in_default.ensures.cuts e

pub returns-in_default-cut : goal.returns-in_default-cut
returns-in_default-cut c = λ t s n f e. no_cut 32 _ _ _ c.in_default-cut.ensures.cuts (tick_cut t s n f _ _ _ c.in-Some.ensures.cuts e).1

pub returns-in_default-number : goal.returns-in_default-number
returns-in_default-number c = λ t s n f e. c.in_default-number.ensures t (f.0, (tick_cut t s n f _ _ _ c.in-Some.ensures.cuts e).0)

pub returns-in_default-number-2 : goal.returns-in_default-number-2
returns-in_default-number-2 c = λ t s n f e. c.in_default-number-2.ensures s (f.1, (size_cut t s n f _ _ _ _ _ c.in-Some.ensures.cuts c.in-Some-cut.ensures.cuts e).0)

pub returns-in_default-word : goal.returns-in_default-word
returns-in_default-word c = λ t s n f e. c.in_default-word.ensures (subst Word (sym (size_cut t s n f _ _ _ _ _ c.in-Some.ensures.cuts c.in-Some-cut.ensures.cuts e).1) f.2)
