-- A line or a trace has one verdict.
use Rattle.std.proofs.Common.{◌≡◌, ℕ, ◌+◌, ◌<◌, List, [], ◌∷◌, ◌++◌, length, drop, Some, None, Option, sym, ap, ◌∙◌, subst, ⊎_elim, append_assoc, append-nil, arith}
use Rattle.std.specs.List.{AllByRecursion}
use Rattle.std.proofs.lemmas.List.{length-append, length-drop}
use Rattle.refusal.specs.declared.Refusal.{Refusal}
use Rattle.refusal.specs.Causes.{number_of}
use Rattle.trace.specs.Lines.{Line, Formed, text, Stands}
use Rattle.trace.specs.Rules.{jobs, fault, fault_after, Keep}
use Rattle.trace.specs.Tokens.{line_of}
use Rattle.trace.specs.Answers.{Stopped, LinesRead, LinesRefused, LineSettled, LineByLine, TraceSettled}
use Rattle.trace.specs.declared.whole.Counts.{Counts}
use Rattle.trace.proofs.Unique.{same_line, one_line, one_list, text_more, fronts}
use Rattle.trace.proofs.Reading.{left_behind}

module _ (judged : Line → Option Refusal) (trace : List ℕ) (p : ℕ) where
  -- Where a line stands that is judged to be fine, nothing stops.
  passes : (l : Line) (c : Refusal) → Stands trace p l → judged l ≡ None → Stopped judged trace p c → ⊥
  passes l c h e =
      ⊎_elim (λ x. x.1 l h) (λ x. let same = one_line trace p l x.0 h x.1 in let o : Some c ≡ None = sym x.2 ∙ ap judged (sym same) ∙ e in let z : ◌≡◌ {A = ℕ} 0 1 = cc in omega arith)

  -- What stops at a place does so for one cause.
  one_stop : (c d : Refusal) → Stopped judged trace p c → Stopped judged trace p d → c ≡ d
  one_stop c d =
      ⊎_elim
      (λ x. ⊎_elim (λ y. x.0 ∙ sym y.0) (λ y. absurd (x.1 y.0 y.1)))
      (λ x. ⊎_elim (λ y. absurd (y.1 x.0 x.1)) (λ y. let same = one_line trace p x.0 y.0 x.1 y.1 in let o : Some c ≡ Some d = sym x.2 ∙ ap judged same ∙ y.2 in cc))

pub line_settled : LineSettled
line_settled = record {
  never_both = λ trace p ts next r a b. passes fault trace p (line_of ts) b.0 a.0.stands a.1 b.2;
  one_refusal = λ trace p r s a b. a.1 ∙ ap (λ c. (number_of c, p)) (one_stop fault trace p a.0 b.0 a.2 b.2) ∙ sym b.1;
}

-- Where lines begin, the first of them stands.
abbrev stands_first : (trace : List ℕ) (p : ℕ) (l : Line) (ls : List Line) → Formed l → drop p trace ≡ text (l ∷ ls) → Stands trace p l
stands_first trace p l ls f e = (f, (text ls ++ [], e ∙ sym (append-nil _) ∙ text_more l ls []))

pub line_by_line : LineByLine
line_by_line = record {
  not_refused = λ trace p l ls r f e d b. passes fault trace p l b.0 (stands_first trace p l ls f d) e b.2;
  read = λ trace p l ls ts next f d a.
      let same = same_line (line_of ts) l _ _ a.0.stands.0 f (sym a.0.stands.1.1 ∙ (stands_first trace p l ls f d).1.1) in
      (same.0, left_behind trace p ts next a.0 ∙ same.1 ∙ append-nil (text ls));
}

-- Lines that keep every rule are formed ..
formed : (ps ls : List Line) → Keep ps ls → AllByRecursion Formed ls
formed ps [] k = tt
formed ps (l ∷ ls) k = (k.0, formed (ps ++ l ∷ []) ls k.2)

-- .. and each is not refused after those before it.
keeps_next : (ps ls : List Line) (l : Line) (more : List Line) → Keep ps (ls ++ l ∷ more) → Formed l × (fault_after (ps ++ ls) l ≡ None)
keeps_next ps [] l more k = (k.0, subst (λ ks. fault_after ks l ≡ None) (sym (append-nil ps)) k.1)
keeps_next ps (m ∷ ls) l more k =
    let h = keeps_next (ps ++ m ∷ []) ls l more k.2 in
    (h.0, subst (λ ks. fault_after ks l ≡ None) (append_assoc ps (m ∷ []) ls) h.1)

-- Lines that keep every rule do not go on where a refusal has its place.
no_further : (trace : List ℕ) (start : ℕ) (r : ℕ × ℕ) (q : LinesRefused trace start r) (ls : List Line) (l : Line) (more : List Line) (rest : List ℕ) → Keep [] ls → ls ≡ q.before ++ l ∷ more → drop q.place trace ≡ text (l ∷ more) ++ rest → ⊥
no_further trace start r q ls l more rest k e d =
    let h = keeps_next [] q.before l more (subst (Keep []) e k) in
    passes (fault_after q.before) trace q.place l q.cause (h.0, (text more ++ rest, d ∙ text_more l more rest)) h.1 q.stops

-- At the place of a refusal there are bytes left.
some_left : (trace : List ℕ) (start : ℕ) (r : ℕ × ℕ) (q : LinesRefused trace start r) → 0 < length (drop q.place trace)
some_left trace start r q = omega (arith, q.more, length-drop q.place trace)

-- Bytes are not both read and refused.
read_or_refused : (trace : List ℕ) (start : ℕ) (counts : Counts) (r : ℕ × ℕ) → LinesRead trace start counts → LinesRefused trace start r → ⊥
read_or_refused trace start counts r a q =
    let some = some_left trace start r q in
    let all = formed [] a.lines a.keeps in
    ⊎_elim
    (λ h. omega (arith, some, ap length h.2, length-append (text h.0) (drop q.place trace)))
    (λ h. elim h.0 as (λ m. a.lines ≡ q.before ++ m → drop q.place trace ≡ text m ++ [] → ⊥) [
      | [] ↦ λ e d. omega (arith, some, ap length d)
      | l ∷ more ↦ λ e d. no_further trace start r q a.lines l more [] a.keeps e d
    ] h.1 h.2)
    (fronts a.lines q.before [] (drop q.place trace) all (formed [] q.before q.keeps) (append-nil _ ∙ sym a.spells ∙ q.spells))

-- Two refusals behind the same lines are the same.
same_refusal : (trace : List ℕ) (start : ℕ) (r s : ℕ × ℕ) (q : LinesRefused trace start r) (o : LinesRefused trace start s) → o.before ≡ q.before → r ≡ s
same_refusal trace start r s q o e =
    let place : o.place ≡ q.place = o.follows ∙ ap (λ ls. start + length (text ls)) e ∙ sym q.follows in
    let stops : Stopped (fault_after q.before) trace q.place o.cause = subst (λ n. Stopped (fault_after q.before) trace n o.cause) place (subst (λ ls. Stopped (fault_after ls) trace o.place o.cause) e o.stops) in
    let cause = one_stop (fault_after q.before) trace q.place o.cause q.cause stops q.stops in
    q.reports ∙ sym (λ i. (number_of (cause i), place i)) ∙ sym o.reports

-- Bytes are refused in one way only.
refused_once : (trace : List ℕ) (start : ℕ) (r s : ℕ × ℕ) → LinesRefused trace start r → LinesRefused trace start s → r ≡ s
refused_once trace start r s q o =
    ⊎_elim
    (λ h. elim h.0 as (λ m. o.before ≡ q.before ++ m → drop q.place trace ≡ text m ++ drop o.place trace → r ≡ s) [
      | [] ↦ λ e d. same_refusal trace start r s q o (e ∙ append-nil _)
      | l ∷ more ↦ λ e d. absurd (no_further trace start r q o.before l more _ o.keeps e d)
    ] h.1 h.2)
    (λ h. elim h.0 as (λ m. q.before ≡ o.before ++ m → drop o.place trace ≡ text m ++ drop q.place trace → r ≡ s) [
      | [] ↦ λ e d. sym (same_refusal trace start s r o q (e ∙ append-nil _))
      | l ∷ more ↦ λ e d. absurd (no_further trace start s o q.before l more _ q.keeps e d)
    ] h.1 h.2)
    (fronts q.before o.before (drop q.place trace) (drop o.place trace) (formed [] q.before q.keeps) (formed [] o.before o.keeps) (sym q.spells ∙ o.spells))

-- All counts of a trace are the same.
same_counts : (trace : List ℕ) (a b : Counts) → LinesRead trace 0 a → LinesRead trace 0 b → a ≡ b
same_counts trace a b x y =
    let same = one_list x.lines y.lines (formed [] x.lines x.keeps) (formed [] y.lines y.keeps) (sym x.spells ∙ y.spells) in
    let js : a.jobs ≡ b.jobs = x.jobs_counted ∙ ap jobs same ∙ sym y.jobs_counted in
    let ls : a.lines ≡ b.lines = x.lines_counted ∙ ap length same ∙ sym y.lines_counted in
    λ i. record { jobs = js i; lines = ls i }

pub trace_settled : TraceSettled
trace_settled = record {
  never_both = λ trace counts r a. ⊎_elim (λ x. omega (arith, a.0, x.0)) (λ x. read_or_refused trace 0 counts r a.1 x.1);
  one_count = λ trace a b x y. same_counts trace a b x.1 y.1;
  one_refusal = λ trace r s.
      ⊎_elim
      (λ x. ⊎_elim (λ y. x.1 ∙ sym y.1) (λ y. absurd (omega (arith, x.0, y.0))))
      (λ x. ⊎_elim (λ y. absurd (omega (arith, x.0, y.0))) (λ y. refused_once trace 0 r s x.1 y.1));
}
