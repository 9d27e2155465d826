-- Tables of left work beside a history and a schedule: how many jobs are present, and whether there is work.
use Rattle.std.proofs.Common.{◌≡◌, ℕ, zero, suc, ◌+◌, ◌-◌, ◌<◌, Bool, cond, eqb, ltb, List, [], ◌∷◌, ◌++◌, length, get_or, set, is_some, Some, None, sum, Option, sym, refl, ap, ◌∙◌, subst, inl, inr, arith}
use Rattle.std.proofs.lemmas.List.{get_or_past, length_push, get_or-set_same, get_or-set_other}
use Rattle.std.proofs.lemmas.List.Sums.{sum_by-cons, get_or-le-sum_by}
use Rattle.std.proofs.lemmas.Bool.{cases_lt, cases_eq, lt-ltb, ne_eqb}
use Rattle.discipline.specs.Meaning.{Sound, count_present}
use Rattle.run.proofs.Ended.{present_below}
use Rattle.schedule.specs.Histories.{History, enter, sizes, jobs}
use Rattle.schedule.specs.Schedules.{Schedule, job, remaining, Legal}
use Rattle.schedule.specs.Occupancy.{occupancy}
use Rattle.schedule.specs.Computed.{remaining_by_job}
use Rattle.schedule.proofs.Outside.{count_positive}
use Rattle.schedule.proofs.Counting.{occupancy_positive}
use Rattle.schedule.proofs.Remaining.{get_or-remaining, remaining_old, remaining_new, remaining_worked, remaining_other}

-- ---- how many entries are above 0

abbrev one_if : ℕ → ℕ
one_if x = cond (ltb 0 x) 1 0

count_cons : (x : ℕ) (xs : List ℕ) → count_present (x ∷ xs) ≡ one_if x + count_present xs
count_cons x xs = sum_by-cons one_if x xs

count_zero : (xs : List ℕ) → count_present (0 ∷ xs) ≡ count_present xs
count_zero xs = omega (arith, count_cons 0 xs)

count_suc : (x : ℕ) (xs : List ℕ) → count_present (suc x ∷ xs) ≡ suc (count_present xs)
count_suc x xs = omega (arith, count_cons (suc x) xs, ap {B = ℕ} (λ (b : Bool). cond b 1 0) (lt-ltb 0 (suc x) (omega arith)))

-- tables that agree at each number have as many above 0, however long they are
count_same : (xs ys : List ℕ) → ((j : ℕ) → get_or xs j 0 ≡ get_or ys j 0) → count_present xs ≡ count_positive ys
count_same [] [] e = refl
count_same [] (zero ∷ ys) e = count_same [] ys (λ j. e (suc j))
count_same [] (suc y ∷ ys) e = absurd (omega (arith, e 0))
count_same (zero ∷ xs) [] e = count_zero xs ∙ count_same xs [] (λ j. e (suc j))
count_same (suc x ∷ xs) [] e = absurd (omega (arith, e 0))
count_same (zero ∷ xs) (zero ∷ ys) e = count_zero xs ∙ count_same xs ys (λ j. e (suc j))
count_same (zero ∷ xs) (suc y ∷ ys) e = absurd (omega (arith, e 0))
count_same (suc x ∷ xs) (zero ∷ ys) e = absurd (omega (arith, e 0))
count_same (suc x ∷ xs) (suc y ∷ ys) e = count_suc x xs ∙ ap suc (count_same xs ys (λ j. e (suc j)))

count_none : (xs : List ℕ) → ((j : ℕ) → get_or xs j 0 ≡ 0) → count_present xs ≡ 0
count_none xs e = count_same xs [] e

pub none_counted : (xs : List ℕ) → count_present xs ≡ 0 → (j : ℕ) → get_or xs j 0 ≡ 0
none_counted xs e j =
    elim (cases_lt j (length xs)) [
      | inl l ↦ elim (cases_lt 0 (get_or xs j 0)) [
        | inl p ↦ absurd (omega (arith, get_or-le-sum_by one_if xs j 0 l, ap {B = ℕ} (λ (b : Bool). cond b 1 0) (lt-ltb 0 (get_or xs j 0) p)))
        | inr p ↦ omega arith
      ]
      | inr l ↦ get_or_past xs j 0 l
    ]

-- ---- whether there is a choice, work, anybody

sum_none : (xs : List ℕ) → ((j : ℕ) → get_or xs j 0 ≡ 0) → sum xs ≡ 0
sum_none [] e = refl
sum_none (x ∷ xs) e = omega (arith, sum_by-cons (λ y. y) x xs, e 0, sum_none xs (λ j. e (suc j)))

below : (p : List ℕ) (j : ℕ) → length p ≡ 1024 → 0 < get_or p j 0 → j < length p
below p j l h = omega (arith, present_below p j l h)

some_work : (p : List ℕ) (j : ℕ) → length p ≡ 1024 → 0 < get_or p j 0 → 0 < sum p
some_work p j l h = omega (arith, get_or-le-sum_by (λ x. x) p j 0 (below p j l h))

somebody : (p : List ℕ) (j : ℕ) → length p ≡ 1024 → 0 < get_or p j 0 → 0 < count_present p
somebody p j l h = omega (arith, get_or-le-sum_by one_if p j 0 (below p j l h), ap {B = ℕ} (λ (b : Bool). cond b 1 0) (lt-ltb 0 (get_or p j 0) h))

-- there is a choice exactly where there is work
pub choice_work : (p : List ℕ) (c : Option ℕ) → Sound p c → is_some c ≡ ltb 0 (sum p)
choice_work p None s = sym (ap (ltb 0) (sum_none p s.chosen))
choice_work p (Some j) s = sym (lt-ltb 0 (sum p) (some_work p j s.long s.chosen))

-- nobody is present exactly where there is no work
pub nobody_work : (p : List ℕ) (c : Option ℕ) → Sound p c → eqb (count_present p) 0 ≡ eqb (sum p) 0
nobody_work p None s = ap (λ n. eqb n 0) (count_none p s.chosen) ∙ sym (ap (λ n. eqb n 0) (sum_none p s.chosen))
nobody_work p (Some j) s =
    ne_eqb (count_present p) 0 (λ e. omega (arith, somebody p j s.long s.chosen))
    ∙ sym (ne_eqb (sum p) 0 (λ e. omega (arith, some_work p j s.long s.chosen)))

-- ---- a table that keeps to a history and a schedule

-- The table has the remaining work of each job.
abbrev pub Table : List ℕ → History → Schedule → Type 0
Table p h s = (j : ℕ) → get_or p j 0 ≡ remaining h s j

-- As many are present as the table has.
pub table_count : (p : List ℕ) (h : History) (s : Schedule) → Table p h s → count_present p ≡ occupancy h s
table_count p h s t = count_same p (remaining_by_job h s) (λ j. t j ∙ sym (get_or-remaining h s j)) ∙ sym (occupancy_positive h s)

pub table_enter :
    (p : List ℕ) (h : History) (s : Schedule) (n z : ℕ) → Legal h s → n ≡ jobs h → n < length p → Table p h s → Table (set p n z) (enter z ∷ h) s
table_enter p h s n z q e l t j =
    let w = length_push (sizes h) z in
    elim (cases_eq j n) [
      | inl i ↦ subst (λ k. get_or (set p n z) k 0 ≡ remaining (enter z ∷ h) s k) (sym i)
          (get_or-set_same p n z 0 l ∙ sym (remaining_new h s z n q (sym e)))
      | inr i ↦ elim (cases_lt j n) [
        | inl k ↦ get_or-set_other p n j z 0 i ∙ t j ∙ sym (remaining_old h s z j (omega arith))
        | inr k ↦ omega (arith, get_or-set_other p n j z 0 i, t j, get_or_past (sizes h) j 0 (omega arith), get_or_past (sizes h ++ z ∷ []) j 0 (omega arith))
      ]
    ]

pub table_worked : (p : List ℕ) (h : History) (s : Schedule) (j : ℕ) → j < length p → Table p h s → Table (set p j (get_or p j 0 - 1)) h (job j ∷ s)
table_worked p h s j l t i =
    elim (cases_eq i j) [
      | inl e ↦ subst (λ k. get_or (set p j (get_or p j 0 - 1)) k 0 ≡ remaining h (job j ∷ s) k) (sym e)
          (get_or-set_same p j (get_or p j 0 - 1) 0 l ∙ ap (λ n. n - 1) (t j) ∙ sym (remaining_worked h s j))
      | inr n ↦ get_or-set_other p j i (get_or p j 0 - 1) 0 n ∙ t i ∙ sym (remaining_other h s j i (λ x. n (sym x)))
    ]
