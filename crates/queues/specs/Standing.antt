-- Where numbers stand in a row, and a row with one of them taken out.
use Rattle.std.specs.Prelude.{◌≡◌, ℕ, zero, suc, ◌+◌, ◌-◌, ◌<◌, ◌≤◌, cond, List, [], ◌∷◌, ◌++◌, length, take, drop, Some, ◌==◌, slice_index, slice_set, refl}
use Rattle.std.proofs.Common.{sym, ap, subst, ◌∙◌, arith}
use Rattle.std.proofs.lemmas.Bool.{eq-eqb, ne_eqb}
use Rattle.std.proofs.lemmas.Bool.Decides.{nat_tests}
use Rattle.std.proofs.lemmas.List.{append-nil, drop_all}
use Rattle.queues.specs.Rows.{first_of, last_of, gapless, without, times}

pub first_is : (xs : List ℕ) → 0 < length xs → Some (slice_index xs 0) ≡ first_of xs
first_is [] l = absurd (omega arith)
first_is (x ∷ xs) l = refl

pub last_is : (xs : List ℕ) → 0 < length xs → Some (slice_index xs (length xs - 1)) ≡ last_of xs
last_is [] l = absurd (omega arith)
last_is (x ∷ []) l = refl
last_is (x ∷ (y ∷ ys)) l =
    let e : length (x ∷ (y ∷ ys)) - 1 ≡ suc (length (y ∷ ys) - 1) = omega arith in
    ap (λ k. Some (slice_index (x ∷ (y ∷ ys)) k)) e ∙ last_is (y ∷ ys) (omega arith)

-- ---- a number taken out
pub last_in : (x : ℕ) (xs : List ℕ) → (j : ℕ) × (last_of (x ∷ xs) ≡ Some j) × (0 < times j (x ∷ xs))
last_in x [] = (x, refl, let e : cond {A = ℕ} (x == x) 1 0 ≡ 1 = grind (arith, nat_tests) in omega arith)
last_in x (y ∷ ys) = let r = last_in y ys in let h = r.2 in (r.0, r.1, omega arith)

-- The end of a row stands in it.
pub last_stands : (y : ℕ) (ys : List ℕ) (n : ℕ) → last_of (y ∷ ys) ≡ Some n → 0 < times n (y ∷ ys)
last_stands y ys n e = let r = last_in y ys in let f = r.1 in let same : r.0 ≡ n = cc in subst (λ k. 0 < times k (y ∷ ys)) same r.2

pub without-first : (ys : List ℕ) (n : ℕ) → first_of ys ≡ Some n → without n ys ≡ drop 1 ys
without-first [] n e = refl
without-first (y ∷ ys) n e = let same : n ≡ y = cc in ap (λ b. cond b ys (y ∷ without n ys)) (eq-eqb n y same)

pub without_last : (ys : List ℕ) (n : ℕ) → times n ys ≤ 1 → last_of ys ≡ Some n → without n ys ≡ take (length ys - 1) ys
without_last [] n h e = refl
without_last (y ∷ []) n h e = let same : n ≡ y = cc in ap (λ b. cond b [] (y ∷ [])) (eq-eqb n y same)
without_last (x ∷ (y ∷ ys)) n h e =
    let more = last_stands y ys n e in
    let other : n ≡ x → ⊥ = λ same. let one : cond {A = ℕ} (n == x) 1 0 ≡ 1 = ap (λ b. cond b 1 0) (eq-eqb n x same) in omega arith in
    let s : length (x ∷ (y ∷ ys)) - 1 ≡ suc (length (y ∷ ys) - 1) = omega arith in
    ap (λ b. cond b (y ∷ ys) (x ∷ without n (y ∷ ys))) (ne_eqb n x other)
    ∙ ap (λ (zs : List ℕ). x ∷ zs) (without_last (y ∷ ys) n (omega arith) e)
    ∙ ap (λ k. take k (x ∷ (y ∷ ys))) (sym s)

-- ---- a gap that goes up to the end
gap_up : (xs : List ℕ) (k : ℕ) → suc k < length xs → gapless (slice_set xs k (slice_index xs (suc k))) (suc k) ≡ gapless xs k
gap_up [] k l = absurd (omega arith)
gap_up (x ∷ []) k l = absurd (omega arith)
gap_up (x ∷ (y ∷ ys)) zero l = refl
gap_up (x ∷ (y ∷ ys)) (suc k) l = ap (λ (zs : List ℕ). x ∷ zs) (gap_up (y ∷ ys) k (omega arith))

pub gap_more : (xs ys : List ℕ) (k v : ℕ) → 0 < k → k < length xs → v ≡ slice_index xs k → ys ≡ slice_set xs (k - 1) v → gapless ys (k + 1 - 1) ≡ gapless xs (k - 1)
gap_more xs ys zero v h l e f = absurd (omega arith)
gap_more xs ys (suc k) v h l e f =
    let one : suc k - 1 ≡ k = omega arith in
    let two : suc k + 1 - 1 ≡ suc k = omega arith in
    (λ i. gapless (f i) (two i))
    ∙ (λ i. gapless (slice_set xs (one i) (e i)) (suc k))
    ∙ gap_up xs k l
    ∙ ap (λ n. gapless xs n) (sym one)

pub gap_end : (xs : List ℕ) (k : ℕ) → length xs ≤ k → 0 < k → gapless xs (k - 1) ≡ take (k - 1) xs
gap_end xs zero l h = absurd (omega arith)
gap_end xs (suc k) l h =
    let one : suc k - 1 ≡ k = omega arith in
    ap (λ (zs : List ℕ). take (suc k - 1) xs ++ zs) (ap (λ n. drop (suc n) xs) one ∙ drop_all (suc k) xs l)
    ∙ append-nil (take (suc k - 1) xs)
