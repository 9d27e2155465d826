-- Rows in the order of entry: the numbers rise, and stand for the jobs that are present.
use Rattle.std.proofs.Common.{◌≡◌, ℕ, ◌+◌, ◌<◌, ◌≤◌, Bool, cond, ltb, List, [], ◌∷◌, ◌++◌, length, get_or, set, Some, sym, refl, ap, subst, inl, inr, arith}
use Rattle.std.proofs.lemmas.Bool.Decides.{nat_tests}
use Rattle.std.proofs.lemmas.Bool.{cases_eq, eq-eqb, ne_eqb}
use Rattle.queues.specs.Rows.{first_of, without, times, last_of, leaves, Once}
use Rattle.queues.specs.Standing.{last_stands}
use Rattle.queues.proofs.Admitted.{times_push, times-without_same, times-without_other, once_more, once_same, once_less}

-- Each number of the row is above those before it.
abbrev pub Rising : List ℕ → Type 0
Rising [] = Unit {0}
Rising (x ∷ xs) = ((k : ℕ) → 0 < times k xs → x < k) × Rising xs

-- Every number of the row is below n.
abbrev pub Below : ℕ → List ℕ → Type 0
Below n row = (k : ℕ) → 0 < times k row → k < n

-- A row stands for the jobs present among the first n.
pub record Lined (row left : List ℕ) (n : ℕ) : Type 0 where
  pub once : Once row left
  pub rising : Rising row
  pub below : Below n row

-- ---- who is in a row

times_own : (x : ℕ) (xs : List ℕ) → 0 < times x (x ∷ xs)
times_own x xs = omega (arith, ap {B = ℕ} (λ (b : Bool). cond b 1 0) (eq-eqb x x refl))

times_pushed : (xs : List ℕ) (n k : ℕ) → 0 < times k (xs ++ n ∷ []) → (k ≡ n → ⊥) → 0 < times k xs
times_pushed xs n k l d = omega (arith, times_push xs n k, ap {B = ℕ} (λ (b : Bool). cond b 1 0) (ne_eqb k n d))

times_less : (xs : List ℕ) (n k : ℕ) → 0 < times k (without n xs) → 0 < times k xs
times_less xs n k l =
    elim (cases_eq k n) [
      | inl e ↦ subst (λ m. 0 < times m xs) (sym e) (omega (arith, times-without_same xs n, subst (λ m. 0 < times m (without n xs)) e l))
      | inr d ↦ omega (arith, times-without_other xs n k d)
    ]

-- ---- the numbers go on rising

rising_push : (xs : List ℕ) (n : ℕ) → Rising xs → Below n xs → Rising (xs ++ n ∷ [])
rising_push [] n r b = ((λ k l. absurd (omega arith)), tt)
rising_push (x ∷ xs) n r b = (
  (λ k l. elim (cases_eq k n) [ inl e ↦ omega (arith, b x (times_own x xs)) | inr d ↦ r.0 k (times_pushed xs n k l d) ]),
  rising_push xs n r.1 (λ k l. b k (omega arith)),
)

rising_without : (xs : List ℕ) (n : ℕ) → Rising xs → Rising (without n xs)
rising_without [] n r = tt
rising_without (x ∷ xs) n r =
    elim (cases_eq n x) [
      | inl e ↦ subst (λ (b : Bool). Rising (cond b xs (x ∷ without n xs))) (sym (eq-eqb n x e)) r.1
      | inr d ↦ subst (λ (b : Bool). Rising (cond b xs (x ∷ without n xs))) (sym (ne_eqb n x d))
          ((λ k l. r.0 k (times_less xs n k l)), rising_without xs n r.1)
    ]

-- ---- the front is the smallest number

pub first-least : (row : List ℕ) (j i : ℕ) → Rising row → first_of row ≡ Some j → 0 < times i row → j ≤ i
first-least [] j i r e l = absurd (omega arith)
first-least (x ∷ xs) j i r e l =
    let f : x ≡ j = cc in
    elim (cases_eq i x) [
      | inl d ↦ omega arith
      | inr d ↦ omega (arith, r.0 i (omega (arith, ap {B = ℕ} (λ (b : Bool). cond b 1 0) (ne_eqb i x d))))
    ]

-- ---- the end is the largest

pub last_most : (row : List ℕ) (j i : ℕ) → Rising row → last_of row ≡ Some j → 0 < times i row → i ≤ j
last_most [] j i r e l = absurd (omega arith)
last_most (x ∷ []) j i r e l =
    let f : x ≡ j = cc in
    elim (cases_eq i x) [ inl d ↦ omega arith | inr d ↦ absurd (omega (arith, ap {B = ℕ} (λ (b : Bool). cond b 1 0) (ne_eqb i x d))) ]
last_most (x ∷ (y ∷ ys)) j i r e l =
    elim (cases_eq i x) [
      | inl d ↦ omega (arith, r.0 j (last_stands y ys j e))
      | inr d ↦ last_most (y ∷ ys) j i r.1 e (omega (arith, ap {B = ℕ} (λ (b : Bool). cond b 1 0) (ne_eqb i x d)))
    ]

-- ---- what calls do

pub in_row : (row left : List ℕ) (i : ℕ) → Once row left → 0 < get_or left i 0 → 0 < times i row
in_row row left i o l = let e : cond {A = ℕ} (ltb 0 (get_or left i 0)) 1 0 ≡ 1 = grind (arith, nat_tests) in omega (arith, o i)

pub present_in_row : (row left : List ℕ) (n i : ℕ) → Lined row left n → 0 < get_or left i 0 → 0 < times i row
present_in_row row left n i q l = in_row row left i q.once l

module _ (row left : List ℕ) (n : ℕ) (q : Lined row left n) where
  pub lined_enter : (z : ℕ) → n < length left → get_or left n 0 ≡ 0 → 0 < z → Lined (row ++ n ∷ []) (set left n z) (n + 1)
  lined_enter z l e p = record {
    once = once_more left n z l row q.once e p;
    rising = rising_push row n q.rising q.below;
    below = λ k m. elim (cases_eq k n) [ inl d ↦ omega arith | inr d ↦ omega (arith, q.below k (times_pushed row n k m d)) ];
  }

  lined_gone : (j v : ℕ) → j < length left → 0 < get_or left j 0 → v ≡ 0 → Lined (without j row) (set left j v) n
  lined_gone j v l p e = record {
    once = once_less left j v l row q.once p e;
    rising = rising_without row j q.rising;
    below = λ k m. q.below k (times_less row j k m);
  }

  lined_stays : (j v : ℕ) → j < length left → 0 < get_or left j 0 → 0 < v → Lined row (set left j v) n
  lined_stays j v l p e = record { once = once_same left j v l row q.once p e; rising = q.rising; below = q.below }

  pub lined_done : (j v : ℕ) → j < length left → 0 < get_or left j 0 → Lined (leaves j v row) (set left j v) n
  lined_done j v l p =
      elim (cases_eq v 0) [
        | inl e ↦ subst (λ (b : Bool). Lined (cond b (without j row) row) (set left j v) n) (sym (eq-eqb v 0 e)) (lined_gone j v l p e)
        | inr d ↦ subst (λ (b : Bool). Lined (cond b (without j row) row) (set left j v) n) (sym (ne_eqb v 0 d)) (lined_stays j v l p (omega arith))
      ]
