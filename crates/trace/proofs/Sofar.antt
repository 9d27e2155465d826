-- What the loop over the lines keeps, and what it comes to.
use Rattle.std.proofs.Common.{◌≡◌, ℕ, ◌+◌, ◌<◌, ◌≤◌, cond, List, [], ◌∷◌, ◌++◌, length, drop, Some, None, Ok, Err, sym, refl, ap, ◌∙◌, subst, inl, inr, ⊎_elim, append_assoc, append-nil, arith}
use Rattle.std.proofs.lemmas.List.{length-append, length_push, flat_map_more}
use Rattle.std.proofs.lemmas.List.Sums.{fold_push}
use Rattle.refusal.specs.declared.Refusal.{Refusal}
use Rattle.refusal.specs.Causes.{number_of}
use Rattle.trace.specs.Lines.{Line, Formed, spelled, text}
use Rattle.trace.specs.Rules.{is_job, jobs, opens, earliest, fault, misplaced, first, fault_after, Keep}
use Rattle.trace.specs.Tokens.{line_of}
use Rattle.trace.specs.Inner.{SeenMore}
use Rattle.trace.specs.Answers.{reported, LineRead, Stopped, LineRefused, LinesRefused}
use Rattle.trace.specs.Walk.{GivesLine}
use Rattle.trace.specs.declared.line.LineTokens.{LineTokens}
use Rattle.trace.specs.declared.lines.Lines.{Lines}
use Rattle.trace.specs.declared.refused.TraceRefusal.{TraceRefusal}
use Rattle.trace.specs.declared.whole.Seen.{Seen}
use Rattle.trace.proofs.Reading.{left_behind}

-- The bytes from `start` to p are lines that keep every rule, and s is what they come to.
pub record Sofar (trace : List ℕ) (start p : ℕ) (s : Seen) : Type 0 where
  pub before : List Line
  pub keeps : Keep [] before
  pub spells : drop start trace ≡ text before ++ drop p trace
  pub follows : p ≡ start + length (text before)
  pub jobs_are : s.counts.jobs ≡ jobs before
  pub lines_are : s.counts.lines ≡ length before
  pub earliest_is : s.earliest ≡ earliest before
  pub few : s.counts.jobs ≤ 1024
  pub short : s.counts.lines ≤ p

-- One line more that is not refused.
keep_push : (ps ls : List Line) (l : Line) → Keep ps ls → Formed l → fault_after (ps ++ ls) l ≡ None → Keep ps (ls ++ l ∷ [])
keep_push ps [] l g f e = (f, subst (λ ks. fault_after ks l ≡ None) (append-nil ps) e, tt)
keep_push ps (k ∷ ls) l g f e = (g.0, g.1, keep_push (ps ++ k ∷ []) ls l g.2 f (subst (λ ks. fault_after ks l ≡ None) (sym (append_assoc ps (k ∷ []) ls)) e))

-- Judged by what is seen as by the lines themselves.
same_judged : (trace : List ℕ) (start p : ℕ) (s : Seen) (h : Sofar trace start p s) (l : Line) → fault l ≡ None → misplaced s.earliest s.counts.jobs l ≡ fault_after h.before l
same_judged trace start p s h l f = (λ i. misplaced (h.earliest_is i) (h.jobs_are i) l) ∙ ap (λ o. first o (misplaced (earliest h.before) (jobs h.before) l)) (sym f)

-- The loop goes on behind a line that is neither refused for itself nor for those before it.
pub goes_on : (trace : List ℕ) (start p : ℕ) (s m : Seen) (ts : LineTokens) (next : ℕ) → Sofar trace start p s → LineRead trace p ts next
    → misplaced s.earliest s.counts.jobs (line_of ts) ≡ None → SeenMore s (line_of ts) m → Sofar trace start next m
goes_on trace start p s m ts next h r o c =
    let l = line_of ts in
    let ls = h.before in
    let rest = r.0.stands.1.0 in
    let e : drop p trace ≡ (spelled l ++ 10 ∷ []) ++ rest = r.0.stands.1.1 ∙ sym (append_assoc (spelled l) (10 ∷ []) rest) in
    let grown : text ls ++ (spelled l ++ 10 ∷ []) ≡ text (ls ++ l ∷ []) = flat_map_more (λ k. spelled k ++ 10 ∷ []) [] ls l in
    let long : length (spelled l ++ 10 ∷ []) ≡ length (spelled l) + 1 = length_push (spelled l) 10 in
    let left : drop next trace ≡ rest = left_behind trace p ts next r.0 in
    record {
      before = ls ++ l ∷ [];
      keeps = keep_push [] ls l h.keeps r.0.stands.0 (sym (same_judged trace start p s h l r.1) ∙ o);
      spells = h.spells ∙ ap (λ x. text ls ++ x) e ∙ sym (append_assoc (text ls) _ rest) ∙ (λ i. grown i ++ sym left i);
      follows = omega (arith, h.follows, r.0.after, long, length-append (text ls) (spelled l ++ 10 ∷ []), ap length grown);
      jobs_are = c.jobs_are ∙ ap (λ j. j + cond (is_job l) 1 0) h.jobs_are ∙ sym (fold_push (λ n k. n + cond (is_job k) 1 0) 0 ls l);
      lines_are = c.lines_are ∙ ap (λ j. j + 1) h.lines_are ∙ sym (length_push ls l);
      earliest_is = c.earliest_is ∙ sym (fold_push (λ t k. opens k) 0 ls l);
      few = c.few;
      short = omega (arith, r.0.after, h.short, c.lines_are);
    }

module _ (trace : List ℕ) (start p : ℕ) (s : Seen) (h : Sofar trace start p s) (more : p < length trace) where
  stopped : (c : Refusal) → Stopped (fault_after h.before) trace p c → LinesRefused trace start (number_of c, p)
  stopped c x = record { before = h.before; keeps = h.keeps; cause = c; place = p; spells = h.spells; follows = h.follows; more = more; stops = x; reports = refl }

  -- The line at p is refused for what it says, or is none.
  pub by_itself : (r : ℕ × ℕ) → LineRefused trace p r → LinesRefused trace start r
  by_itself r (c, e, x) = subst (LinesRefused trace start) (sym e) (stopped c (⊎_elim (λ y. inl y) (λ y. inr (y.0, y.1, ap (λ o. first o (misplaced (earliest h.before) (jobs h.before) y.0)) y.2)) x))

-- The lines of a trace are gone through up to a place, and s is what those before it come to.
pub record Walked (trace : List ℕ) (w : Lines) (s : Seen) : Type 0 where
  pub same : w.trace.now ≡ trace
  pub sofar : Sofar trace 0 w.place s

-- A line that is refused by itself ends the walk.
pub refused_line : (trace : List ℕ) (w t : Lines) (s : Seen) (e : TraceRefusal) → Walked trace w s → GivesLine w (Some (Err e)) t → LinesRefused trace 0 (reported e)
refused_line trace w t s e h g = by_itself trace 0 w.place s h.sofar (subst (λ l. w.place < length l) h.same g.gives.0) (reported e) (subst (λ l. LineRefused l w.place (reported e)) h.same g.gives.1.0)

-- A line that is not refused takes it on.
pub walks_on : (trace : List ℕ) (w t : Lines) (s m : Seen) (ts : LineTokens) (p : ℕ) → Walked trace w s → GivesLine w (Some (Ok (ts, p))) t
    → misplaced s.earliest s.counts.jobs (line_of ts) ≡ None → SeenMore s (line_of ts) m → Walked trace t m
walks_on trace w t s m ts p h g o c = record {
  same = g.same ∙ h.same;
  sofar = goes_on trace 0 w.place s m ts t.place h.sofar (subst (λ l. LineRead l w.place ts t.place) h.same g.gives.1.1) o c;
}
