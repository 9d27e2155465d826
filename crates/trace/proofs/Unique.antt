-- What a line or a list of lines spells is spelled by no other.
use Rattle.std.proofs.Common.{◌≡◌, ℕ, ◌<◌, ◌⊎◌, List, [], ◌∷◌, ◌++◌, codes, decimal, sym, refl, ap, ◌∙◌, inl, inr, ⊎_elim, append_assoc, append-nil, arith}
use Rattle.std.specs.List.{AllByRecursion}
use Rattle.std.proofs.lemmas.Fmt.{decimal_injective}
use Rattle.std.proofs.ByRecursion.{All-append}
use Rattle.trace.specs.Lines.{Lacks, Line, job, lost, Formed, fields, spelled, text, OneLine, OneList}
use Rattle.trace.proofs.Cuts.{same_cut, no_cut}
use Rattle.trace.proofs.Numbers.{decimal_lacks}

-- A byte above another is not that byte.
pub apart : (b c : ℕ) → b < c → c ≡ b → ⊥
apart b c l e = omega arith

-- A line has no LF.
pub lacks_lf : (l : Line) → Formed l → Lacks 10 (spelled l)
lacks_lf (job t s n) f =
    All-append (λ x. x ≡ 10 → ⊥) (codes "job ") (fields t s n) (apart 10 106 (omega arith), (apart 10 111 (omega arith), (apart 10 98 (omega arith), (apart 10 32 (omega arith), tt))))
    (All-append (λ x. x ≡ 10 → ⊥) (decimal t) (32 ∷ (decimal s ++ 32 ∷ n)) (decimal_lacks 10 t (omega arith) f.0)
    (apart 10 32 (omega arith), All-append (λ x. x ≡ 10 → ⊥) (decimal s) (32 ∷ n) (decimal_lacks 10 s (omega arith) f.1) (apart 10 32 (omega arith), f.2.2)))
lacks_lf (lost t) f =
    All-append (λ x. x ≡ 10 → ⊥) (codes "lost ") (decimal t) (apart 10 108 (omega arith), (apart 10 111 (omega arith), (apart 10 115 (omega arith), (apart 10 116 (omega arith), (apart 10 32 (omega arith), tt)))))
    (decimal_lacks 10 t (omega arith) f)

-- Two lines that are spelled alike are the same.
same_spelled : (k l : Line) → Formed k → Formed l → spelled k ≡ spelled l → k ≡ l
same_spelled (job t s n) (job t' s' n') f g e =
    let body : fields t s n ≡ fields t' s' n' = cc in
    let p : (decimal t ≡ decimal t') × (decimal s ++ 32 ∷ n ≡ decimal s' ++ 32 ∷ n') = same_cut 32 _ _ _ _ (decimal_lacks 32 t (omega arith) f.0) (decimal_lacks 32 t' (omega arith) g.0) body in
    let q : (decimal s ≡ decimal s') × (n ≡ n') = same_cut 32 _ _ _ _ (decimal_lacks 32 s (omega arith) f.1) (decimal_lacks 32 s' (omega arith) g.1) p.1 in
    let a : t ≡ t' = decimal_injective t t' (omega arith) (omega arith) p.0 in
    let b : s ≡ s' = decimal_injective s s' (omega arith) (omega arith) q.0 in
    λ i. job (a i) (b i) (q.1 i)
same_spelled (job t s n) (lost u) f g e = let z : ◌≡◌ {A = ℕ} 106 108 = cc in absurd (omega arith)
same_spelled (lost u) (job t s n) f g e = let z : ◌≡◌ {A = ℕ} 106 108 = cc in absurd (omega arith)
same_spelled (lost t) (lost u) f g e =
    let body : decimal t ≡ decimal u = cc in
    ap lost (decimal_injective t u (omega arith) (omega arith) body)

-- Two lines, each with its LF, that begin the same bytes: they are the same, and so is what follows.
pub same_line : (k l : Line) (r s : List ℕ) → Formed k → Formed l → spelled k ++ 10 ∷ r ≡ spelled l ++ 10 ∷ s → (k ≡ l) × (r ≡ s)
same_line k l r s f g e =
    let p = same_cut 10 _ _ _ _ (lacks_lf k f) (lacks_lf l g) e in
    (same_spelled k l f g p.0, p.1)

pub one_line : OneLine
one_line trace p k l a b = (same_line k l _ _ a.0 b.0 (sym a.1.1 ∙ b.1.1)).0

-- The bytes of lines that begin with l, by that line.
pub text_more : (l : Line) (ls : List Line) (r : List ℕ) → text (l ∷ ls) ++ r ≡ spelled l ++ 10 ∷ (text ls ++ r)
text_more l ls r = append_assoc (spelled l ++ 10 ∷ []) (text ls) r ∙ append_assoc (spelled l) (10 ∷ []) (text ls ++ r)

-- Where two lists of lines begin the same bytes, one of them goes on from the other.
pub fronts : (ks ls : List Line) (r s : List ℕ) → AllByRecursion Formed ks → AllByRecursion Formed ls → text ks ++ r ≡ text ls ++ s
    → ((more : List Line) × (ls ≡ ks ++ more) × (r ≡ text more ++ s)) ⊎ ((more : List Line) × (ks ≡ ls ++ more) × (s ≡ text more ++ r))
fronts [] ls r s f g e = inl (ls, refl, e)
fronts (k ∷ ks) [] r s f g e = inr (k ∷ ks, refl, sym e)
fronts (k ∷ ks) (l ∷ ls) r s f g e =
    let p = same_line k l _ _ f.0 g.0 (sym (text_more k ks r) ∙ e ∙ text_more l ls s) in
    ⊎_elim
    (λ h. inl (h.0, (λ i. sym p.0 i ∷ h.1 i), h.2))
    (λ h. inr (h.0, (λ i. p.0 i ∷ h.1 i), h.2))
    (fronts ks ls r s f.1 g.1 p.1)

-- Lines that spell nothing are none.
pub none_spelled : (ls : List Line) → [] ≡ text ls → ls ≡ []
none_spelled [] e = refl
none_spelled (l ∷ ls) e = absurd (no_cut 10 [] (spelled l) (text ls ++ []) tt (e ∙ sym (append-nil _) ∙ text_more l ls []))

pub one_list : OneList
one_list ks ls f g e =
    ⊎_elim
    (λ h. sym (h.1 ∙ ap (λ m. ks ++ m) (none_spelled h.0 (h.2 ∙ append-nil _)) ∙ append-nil ks))
    (λ h. h.1 ∙ ap (λ m. ls ++ m) (none_spelled h.0 (h.2 ∙ append-nil _)) ∙ append-nil ls)
    (fronts ks ls [] [] f g (ap (λ x. x ++ []) e))
