-- A list cut at the first of its separators.
use Rattle.std.proofs.Common.{◌≡◌, ℕ, ◌+◌, ◌-◌, ◌<◌, ◌≤◌, List, [], ◌∷◌, ◌++◌, length, get_or, take, drop, sym, refl, ap, ◌∙◌, subst, arith, take-append-drop, length-take-le, get_or-take}
use Rattle.std.proofs.lemmas.List.{drop_more, take_rest}
use Rattle.std.proofs.ByRecursion.{All-get_or, All-from_get_or}
use Rattle.trace.specs.Lines.{Lacks}

-- A list that has the separator at no place lacks it ..
pub lacks_at_all : (b : ℕ) (s : List ℕ) → ((k : ℕ) → k < length s → get_or s k 0 ≡ b → ⊥) → Lacks b s
lacks_at_all b s h = All-from_get_or (λ x. x ≡ b → ⊥) s 0 h

-- .. and one that has it at a place does not.
pub lacks_nowhere : (b : ℕ) (s : List ℕ) (k : ℕ) → k < length s → get_or s k 0 ≡ b → Lacks b s → ⊥
lacks_nowhere b s k l e h = All-get_or (λ x. x ≡ b → ⊥) s k 0 l h e

-- A list is cut at a place where the separator stands.
pub at_separator : (b : ℕ) (s : List ℕ) (i : ℕ) → i < length s → get_or s i 0 ≡ b → s ≡ take i s ++ b ∷ drop (i + 1) s
at_separator b s i l e = sym (take-append-drop i s) ∙ ap (λ t. take i s ++ t) (drop_more s i 0 l ∙ ap (λ x. x ∷ drop (i + 1) s) e)

-- A list is cut at the first place where the separator stands.
pub first_cut : (b : ℕ) (s : List ℕ) (i : ℕ) → i < length s → get_or s i 0 ≡ b → ((k : ℕ) → k < i → get_or s k 0 ≡ b → ⊥) → Lacks b (take i s) × (s ≡ take i s ++ b ∷ take (length s - (i + 1)) (drop (i + 1) s))
first_cut b s i l e before = (
  lacks_at_all b (take i s) (λ k lt h. let below : k < i = omega (arith, lt, length-take-le i s (omega arith)) in before k below (sym (get_or-take i s k 0 below) ∙ h)),
  at_separator b s i l e ∙ ap (λ t. take i s ++ b ∷ t) (sym (take_rest s (i + 1))),
)

-- Two cuts whose fronts lack the separator are the same.
pub same_cut : (b : ℕ) (xs ys us vs : List ℕ) → Lacks b xs → Lacks b us → xs ++ b ∷ ys ≡ us ++ b ∷ vs → (xs ≡ us) × (ys ≡ vs)
same_cut b [] ys [] vs p q e = (refl, cc)
same_cut b [] ys (u ∷ us) vs p q e = let h : u ≡ b = cc in absurd (q.0 h)
same_cut b (x ∷ xs) ys [] vs p q e = let h : x ≡ b = cc in absurd (p.0 h)
same_cut b (x ∷ xs) ys (u ∷ us) vs p q e =
    let h : x ≡ u = cc in
    let t : xs ++ b ∷ ys ≡ us ++ b ∷ vs = cc in
    let r = same_cut b xs ys us vs p.1 q.1 t in
    (cc, r.1)

-- A list that lacks the separator has no cut.
pub no_cut : (b : ℕ) (s xs ys : List ℕ) → Lacks b s → s ≡ xs ++ b ∷ ys → ⊥
no_cut b [] [] ys p e = let z : ◌≡◌ {A = ℕ} 0 1 = cc in omega arith
no_cut b [] (x ∷ xs) ys p e = let z : ◌≡◌ {A = ℕ} 0 1 = cc in omega arith
no_cut b (c ∷ s) [] ys p e = let h : c ≡ b = cc in p.0 h
no_cut b (c ∷ s) (x ∷ xs) ys p e = let t : s ≡ xs ++ b ∷ ys = cc in no_cut b s xs ys p.1 t

-- A list by its first four bytes, as a slice pattern finds them ..
pub four : (s : List ℕ) (a b c d : ℕ) → 4 ≤ length s → get_or s 0 0 ≡ a → get_or s 1 0 ≡ b → get_or s 2 0 ≡ c → get_or s 3 0 ≡ d → s ≡ a ∷ b ∷ c ∷ d ∷ take (length s - 4) (drop 4 s)
four s a b c d l p q r t =
    drop_more s 0 0 (omega arith)
    ∙ (λ i. p i ∷ drop_more s 1 0 (omega arith) i)
    ∙ (λ i. a ∷ q i ∷ drop_more s 2 0 (omega arith) i)
    ∙ (λ i. a ∷ b ∷ r i ∷ drop_more s 3 0 (omega arith) i)
    ∙ (λ i. a ∷ b ∷ c ∷ t i ∷ sym (take_rest s 4) i)

-- .. and by its first five.
pub five : (s : List ℕ) (a b c d e : ℕ) → 5 ≤ length s → get_or s 0 0 ≡ a → get_or s 1 0 ≡ b → get_or s 2 0 ≡ c → get_or s 3 0 ≡ d → get_or s 4 0 ≡ e → s ≡ a ∷ b ∷ c ∷ d ∷ e ∷ take (length s - 5) (drop 5 s)
five s a b c d e l p q r t u =
    four s a b c d (omega arith) p q r t
    ∙ (λ i. a ∷ b ∷ c ∷ d ∷ take_rest s 4 i)
    ∙ (λ i. a ∷ b ∷ c ∷ d ∷ drop_more s 4 0 (omega arith) i)
    ∙ (λ i. a ∷ b ∷ c ∷ d ∷ u i ∷ sym (take_rest s 5) i)

-- What a list lacks, its rest lacks.
pub lacks_right : (b : ℕ) (xs ys : List ℕ) → Lacks b (xs ++ ys) → Lacks b ys
lacks_right b [] ys h = h
lacks_right b (x ∷ xs) ys h = lacks_right b xs ys h.1

-- What a list lacks, the part behind a cut lacks.
pub lacks_after : (b c : ℕ) (s xs ys : List ℕ) → Lacks b s → s ≡ xs ++ c ∷ ys → Lacks b ys
lacks_after b c s xs ys h e = (lacks_right b xs (c ∷ ys) (subst (Lacks b) e h)).1
