-- A table of left work, and the row of those with some.
use Rattle.std.proofs.Common.{◌≡◌, ℕ, ◌+◌, ◌-◌, ◌<◌, ◌≤◌, cond, eqb, ltb, List, [], ◌∷◌, ◌++◌, length, get_or, set, replicate, sym, refl, ap, ◌∙◌, subst, ⊎_elim, arith}
use Rattle.std.proofs.lemmas.Bool.{cases_eq, eq-eqb, ne_eqb}
use Rattle.std.proofs.lemmas.Bool.Decides.{nat_tests}
use Rattle.std.proofs.lemmas.List.{get_or-set_same, get_or-set_other, length-set}
use Rattle.std.proofs.lemmas.List.Sums.{sum_by-set, count_by-le-length}
use Rattle.discipline.specs.Meaning.{count_present}
use Rattle.discipline.proofs.Admitted.{zero_at}
use Rattle.queues.specs.Rows.{without, times, Once}

-- ---- nobody
module _ (left : List ℕ) (row : List ℕ) (l0 : left ≡ replicate 1024 0) (r0 : row ≡ []) where
  pub none_fits : (k : ℕ) → get_or left k 0 ≤ 10000
  none_fits k = let z : get_or left k 0 ≡ 0 = ap (λ (xs : List ℕ). get_or xs k 0) l0 ∙ zero_at k in omega arith

  pub none_once : Once row left
  none_once k = ap (λ (xs : List ℕ). times k xs) r0 ∙ sym (ap (λ n. cond (ltb 0 n) 1 0) (ap (λ (xs : List ℕ). get_or xs k 0) l0 ∙ zero_at k))

-- ---- what a row holds
pub times_push : (xs : List ℕ) (n k : ℕ) → times k (xs ++ (n ∷ [])) ≡ times k xs + cond (eqb k n) 1 0
times_push [] n k = omega arith
times_push (x ∷ xs) n k = ap (λ m. cond (eqb k x) 1 0 + m) (times_push xs n k) ∙ omega arith

module _ (n x : ℕ) (xs : List ℕ) where
  without_yes : n ≡ x → without n (x ∷ xs) ≡ xs
  without_yes e = ap (λ b. cond b xs (x ∷ without n xs)) (eq-eqb n x e)

  without_no : (n ≡ x → ⊥) → without n (x ∷ xs) ≡ x ∷ without n xs
  without_no e = ap (λ b. cond b xs (x ∷ without n xs)) (ne_eqb n x e)

  times_yes : n ≡ x → times n (x ∷ xs) ≡ 1 + times n xs
  times_yes e = ap (λ b. cond b 1 0 + times n xs) (eq-eqb n x e)

  times_no : (n ≡ x → ⊥) → times n (x ∷ xs) ≡ times n xs
  times_no e = ap (λ b. cond b 1 0 + times n xs) (ne_eqb n x e) ∙ omega arith

pub times-without_same : (xs : List ℕ) (n : ℕ) → times n (without n xs) ≡ times n xs - 1
times-without_same [] n = refl
times-without_same (x ∷ xs) n =
    ⊎_elim
    (λ e. ap (times n) (without_yes n x xs e) ∙ sym (ap (λ m. m - 1) (times_yes n x xs e) ∙ omega arith))
    (λ ne. ap (times n) (without_no n x xs ne) ∙ times_no n x (without n xs) ne ∙ times-without_same xs n ∙ sym (ap (λ m. m - 1) (times_no n x xs ne)))
    (cases_eq n x)

pub times-without_other : (xs : List ℕ) (n k : ℕ) → (k ≡ n → ⊥) → times k (without n xs) ≡ times k xs
times-without_other [] n k h = refl
times-without_other (x ∷ xs) n k h =
    ⊎_elim
    (λ e. ap (times k) (without_yes n x xs e) ∙ sym (times_no k x xs (λ f. h (f ∙ sym e))))
    (λ ne. ap (times k) (without_no n x xs ne) ∙ ap (λ m. cond (eqb k x) 1 0 + m) (times-without_other xs n k h))
    (cases_eq n x)

pub length_without : (xs : List ℕ) (n : ℕ) → 0 < times n xs → length (without n xs) + 1 ≡ length xs
length_without [] n h = absurd (omega arith)
length_without (x ∷ xs) n h =
    ⊎_elim
    (λ e. ap (λ (ys : List ℕ). length ys + 1) (without_yes n x xs e) ∙ omega arith)
    (λ ne. let less : 0 < times n xs = subst (λ m. 0 < m) (times_no n x xs ne) h in
    ap (λ (ys : List ℕ). length ys + 1) (without_no n x xs ne) ∙ omega (arith, length_without xs n less))
    (cases_eq n x)

-- ---- one entry of the table changes
module _ (left : List ℕ) (n v : ℕ) (low : n < length left) where
  pub set_fits : ((k : ℕ) → get_or left k 0 ≤ 10000) → v ≤ 10000 → (k : ℕ) → get_or (set left n v) k 0 ≤ 10000
  set_fits h le k =
      ⊎_elim
      (λ e. subst (λ i. get_or (set left n v) i 0 ≤ 10000) (sym e) (let s : get_or (set left n v) n 0 ≡ v = get_or-set_same left n v 0 low in omega arith))
      (λ ne. let s : get_or (set left n v) k 0 ≡ get_or left k 0 = get_or-set_other left n k v 0 ne in let o = h k in omega arith)
      (cases_eq k n)

  changed : count_present (set left n v) + cond (ltb 0 (get_or left n 0)) 1 0 ≡ count_present left + cond (ltb 0 v) 1 0
  changed = sum_by-set (λ x. cond (ltb 0 x) 1 0) left n v 0 low

  pub count_more : get_or left n 0 ≡ 0 → 0 < v → count_present (set left n v) ≡ count_present left + 1
  count_more z h =
      let a : cond {A = ℕ} (ltb 0 (get_or left n 0)) 1 0 ≡ 0 = ap (λ m. cond (ltb 0 m) 1 0) z in
      let b : cond {A = ℕ} (ltb 0 v) 1 0 ≡ 1 = grind (arith, nat_tests) in
      omega (arith, changed)

  pub count_same : 0 < get_or left n 0 → 0 < v → count_present (set left n v) ≡ count_present left
  count_same g h =
      let a : cond {A = ℕ} (ltb 0 (get_or left n 0)) 1 0 ≡ 1 = grind (arith, nat_tests) in
      let b : cond {A = ℕ} (ltb 0 v) 1 0 ≡ 1 = grind (arith, nat_tests) in
      omega (arith, changed)

  pub count_less : 0 < get_or left n 0 → v ≡ 0 → count_present (set left n v) + 1 ≡ count_present left
  count_less g h =
      let a : cond {A = ℕ} (ltb 0 (get_or left n 0)) 1 0 ≡ 1 = grind (arith, nat_tests) in
      let b : cond {A = ℕ} (ltb 0 v) 1 0 ≡ 0 = ap (λ m. cond (ltb 0 m) 1 0) h in
      omega (arith, changed)

  -- a job that was not present joins at the end
  pub room : length left ≡ 1024 → get_or left n 0 ≡ 0 → 0 < v → count_present left < 1024
  room l z h = omega (arith, count_more z h, count_by-le-length (λ x. ltb 0 x) (set left n v), length-set left n v)

  pub once_more : (row : List ℕ) → Once row left → get_or left n 0 ≡ 0 → 0 < v → Once (row ++ (n ∷ [])) (set left n v)
  once_more row o z h k =
      times_push row n k ∙
      ⊎_elim
      (λ e. subst (λ i. times i row + cond (eqb i n) 1 0 ≡ cond (ltb 0 (get_or (set left n v) i 0)) 1 0) (sym e)
      (let a : times n row ≡ 0 = o n ∙ ap (λ m. cond (ltb 0 m) 1 0) z in
      let b : cond {A = ℕ} (eqb n n) 1 0 ≡ 1 = ap (λ c. cond c 1 0) (eq-eqb n n refl) in
      let c : cond {A = ℕ} (ltb 0 (get_or (set left n v) n 0)) 1 0 ≡ 1 = ap (λ m. cond (ltb 0 m) 1 0) (get_or-set_same left n v 0 low) ∙ grind (arith, nat_tests) in
      omega arith))
      (λ ne.
      let b : cond {A = ℕ} (eqb k n) 1 0 ≡ 0 = ap (λ c. cond c 1 0) (ne_eqb k n ne) in
      let c : cond {A = ℕ} (ltb 0 (get_or (set left n v) k 0)) 1 0 ≡ cond (ltb 0 (get_or left k 0)) 1 0 = ap (λ m. cond (ltb 0 m) 1 0) (get_or-set_other left n k v 0 ne) in
      omega (arith, o k))
      (cases_eq k n)

  -- a job stays
  pub once_same : (row : List ℕ) → Once row left → 0 < get_or left n 0 → 0 < v → Once row (set left n v)
  once_same row o g h k =
      o k ∙
      ⊎_elim
      (λ e. subst (λ i. cond {A = ℕ} (ltb 0 (get_or left i 0)) 1 0 ≡ cond (ltb 0 (get_or (set left n v) i 0)) 1 0) (sym e)
      (let a : cond {A = ℕ} (ltb 0 (get_or left n 0)) 1 0 ≡ 1 = grind (arith, nat_tests) in
      let c : cond {A = ℕ} (ltb 0 (get_or (set left n v) n 0)) 1 0 ≡ 1 = ap (λ m. cond (ltb 0 m) 1 0) (get_or-set_same left n v 0 low) ∙ grind (arith, nat_tests) in
      omega arith))
      (λ ne. sym (ap (λ m. cond (ltb 0 m) 1 0) (get_or-set_other left n k v 0 ne)))
      (cases_eq k n)

  -- a job leaves
  pub once_less : (row : List ℕ) → Once row left → 0 < get_or left n 0 → v ≡ 0 → Once (without n row) (set left n v)
  once_less row o g z k =
      ⊎_elim
      (λ e. subst (λ i. times i (without n row) ≡ cond (ltb 0 (get_or (set left n v) i 0)) 1 0) (sym e)
      (let a : cond {A = ℕ} (ltb 0 (get_or left n 0)) 1 0 ≡ 1 = grind (arith, nat_tests) in
      let c : cond {A = ℕ} (ltb 0 (get_or (set left n v) n 0)) 1 0 ≡ 0 = ap (λ m. cond (ltb 0 m) 1 0) (get_or-set_same left n v 0 low ∙ z) in
      times-without_same row n ∙ omega (arith, o n)))
      (λ ne. times-without_other row n k ne ∙ o k ∙ sym (ap (λ m. cond (ltb 0 m) 1 0) (get_or-set_other left n k v 0 ne)))
      (cases_eq k n)

  pub here : (row : List ℕ) → Once row left → 0 < get_or left n 0 → 0 < times n row
  here row o g = let a : cond {A = ℕ} (ltb 0 (get_or left n 0)) 1 0 ≡ 1 = grind (arith, nat_tests) in omega (arith, o n)
