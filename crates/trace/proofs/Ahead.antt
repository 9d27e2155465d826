-- Going through an accepted trace meets no refusal.
use Rattle.std.proofs.Common.{◌≡◌, ℕ, List, [], ◌∷◌, ◌++◌, length, drop, Some, None, Option, Ok, Err, Result, IsOk, sym, refl, ap, ◌∙◌, arith}
use Rattle.std.proofs.lemmas.List.{length-drop}
use Rattle.std.proofs.lemmas.Option.{none-some}
use Rattle.refusal.specs.declared.Refusal.{Refusal}
use Rattle.trace.specs.Lines.{Line, text}
use Rattle.trace.specs.Rules.{first, Keep}
use Rattle.trace.specs.Answers.{reported, TraceRead}
use Rattle.trace.specs.Walk.{GivesLine, Ahead, NoneRefused}
use Rattle.trace.specs.declared.line.LineTokens.{LineTokens}
use Rattle.trace.specs.declared.lines.Lines.{Lines}
use Rattle.trace.specs.declared.refused.TraceRefusal.{TraceRefusal}
use Rattle.trace.specs.declared.whole.Counts.{Counts}
use Rattle.trace.proofs.Settled.{line_by_line}

-- Of two causes neither is there, so the first is not.
first_none : (o d : Option Refusal) → first o d ≡ None → o ≡ None
first_none (Some c) d e = absurd (none-some c (sym e))
first_none None d e = refl

next_given : (w t : Lines) (given : Result (LineTokens × ℕ) TraceRefusal) (before lines : List Line) → Keep before lines → drop w.place w.trace.now ≡ text lines → GivesLine w (Some given) t → IsOk given × Ahead t
next_given w t given before [] k d g = absurd (omega (arith, g.gives.0, length-drop w.place w.trace.now, ap length d))
next_given w t (Err e) before (l ∷ ls) k d g = absurd (line_by_line.not_refused w.trace.now w.place l ls (reported e) k.0 (first_none _ _ k.1) d g.gives.1.0)
next_given w t (Ok x) before (l ∷ ls) k d g =
    let r = line_by_line.read w.trace.now w.place l ls x.0 t.place k.0 d g.gives.1.1 in
    (refl, record { before = before ++ l ∷ []; lines = ls; keeps = k.2; left = ap (drop t.place) g.same ∙ r.1 })

pub none_refused : NoneRefused
none_refused w t given a = next_given w t given a.before a.lines a.keeps a.left

-- Before the first step over an accepted trace all of it is left.
pub whole_ahead : (w : Lines) (trace : List ℕ) (counts : Counts) → w.trace.now ≡ trace → w.place ≡ 0 → TraceRead trace counts → Ahead w
whole_ahead w trace counts s p a = record { before = []; lines = a.1.lines; keeps = a.1.keeps; left = (λ i. drop (p i) (s i)) ∙ a.1.spells }
