-- From the tokens that are read to the line that stands at a place.
use Rattle.std.proofs.Common.{◌≡◌, ℕ, ◌+◌, ◌-◌, ◌≤◌, List, [], ◌∷◌, ◌++◌, length, get_or, take, drop, codes, decimal, sym, ap, ◌∙◌, append_assoc, arith}
use Rattle.std.specs.List.{slice_range}
use Rattle.std.proofs.lemmas.List.{drop_all, drop_at, drop_more, drop-drop, length_push, take_rest}
use Rattle.trace.specs.Lines.{Lacks, Line, job, Formed, fields, spelled, Stands}
use Rattle.trace.specs.Tokens.{line_of}
use Rattle.trace.specs.Answers.{LineFound}
use Rattle.trace.specs.declared.line.LineTokens.{LineTokens}
use Rattle.trace.proofs.Cuts.{no_cut, same_cut, four, five}
use Rattle.trace.proofs.Numbers.{decimal_lacks}
use Rattle.trace.proofs.Unique.{lacks_lf}

-- Past the end no line stands ..
pub past_end : (trace : List ℕ) (p : ℕ) → length trace ≤ p → (l : Line) → Stands trace p l → ⊥
past_end trace p end l h = no_cut 10 [] (spelled l) h.1.0 tt (sym (drop_all p trace end) ∙ h.1.1)

-- .. nor where no LF follows.
pub no_lf : (trace : List ℕ) (p : ℕ) (bs : List ℕ) → bs ≡ slice_range trace p (length trace) → Lacks 10 bs → (l : Line) → Stands trace p l → ⊥
no_lf trace p bs e lacks l h = no_cut 10 bs (spelled l) h.1.0 lacks (e ∙ take_rest trace p ∙ h.1.1)

-- The bytes up to the first LF are those of the line that stands there.
pub up_to_lf : (trace : List ℕ) (p : ℕ) (bs line rest : List ℕ) → bs ≡ slice_range trace p (length trace) → Lacks 10 line × (bs ≡ line ++ 10 ∷ rest) → (l : Line) → Stands trace p l → line ≡ spelled l
up_to_lf trace p bs line rest e c l h = (same_cut 10 _ _ _ _ c.0 (lacks_lf l h.0) (sym c.1 ∙ e ∙ take_rest trace p ∙ h.1.1)).0

-- Bytes that begin as a job line begin with its keyword and space ..
pub job_front : (s : List ℕ) → 4 ≤ length s → get_or s 0 0 ≡ 106 → get_or s 1 0 ≡ 111 → get_or s 2 0 ≡ 98 → get_or s 3 0 ≡ 32 → s ≡ codes "job " ++ take (length s - 4) (drop 4 s)
job_front s l p q r t = four s 106 111 98 32 l p q r t

-- .. and as a lost one with that one's.
pub lost_front : (s : List ℕ) → 5 ≤ length s → get_or s 0 0 ≡ 108 → get_or s 1 0 ≡ 111 → get_or s 2 0 ≡ 115 → get_or s 3 0 ≡ 116 → get_or s 4 0 ≡ 32 → s ≡ codes "lost " ++ take (length s - 5) (drop 5 s)
lost_front s l p q r t u = five s 108 111 115 116 32 l p q r t u

-- The bytes of a job line's fields are cut at their first space behind the tick ..
pub tick_cut : (t s : ℕ) (n : List ℕ) → Formed (job t s n) → (bs first more : List ℕ) → Lacks 32 first × (bs ≡ first ++ 32 ∷ more) → bs ≡ fields t s n → (first ≡ decimal t) × (more ≡ decimal s ++ 32 ∷ n)
tick_cut t s n f bs first more p e = same_cut 32 _ _ _ _ p.0 (decimal_lacks 32 t (omega arith) f.0) (sym p.1 ∙ e)

-- .. and at the next one behind the size.
pub size_cut : (t s : ℕ) (n : List ℕ) → Formed (job t s n) → (bs first more second last : List ℕ) → Lacks 32 first × (bs ≡ first ++ 32 ∷ more) → Lacks 32 second × (more ≡ second ++ 32 ∷ last) → bs ≡ fields t s n → (second ≡ decimal s) × (last ≡ n)
size_cut t s n f bs first more second last p q e = same_cut 32 _ _ _ _ q.0 (decimal_lacks 32 s (omega arith) f.1) (sym q.1 ∙ (tick_cut t s n f bs first more p e).1)

-- What is left of the trace behind a line that is read.
pub left_behind : (trace : List ℕ) (p : ℕ) (ts : LineTokens) (next : ℕ) (f : LineFound trace p ts next) → drop next trace ≡ f.stands.1.0
left_behind trace p ts next f =
    let bs = spelled (line_of ts) in
    let place : p + (length bs + 1) ≡ next = omega (arith, f.after) in
    let front : drop p trace ≡ (bs ++ 10 ∷ []) ++ f.stands.1.0 = f.stands.1.1 ∙ sym (append_assoc bs (10 ∷ []) _) in
    ap (λ k. drop k trace) (sym place) ∙ sym (drop-drop (length bs + 1) p trace) ∙ ap (drop (length bs + 1)) front ∙ drop_at (bs ++ 10 ∷ []) _ _ (length_push bs 10)
