-- Sums over the jobs that entered, and the number of jobs present as such a sum.
use Rattle.std.proofs.Common.{◌≡◌, ℕ, zero, suc, ◌+◌, ◌<◌, ◌≤◌, List, [], ◌∷◌, ◌++◌, map, sum, sym, refl, ap, ◌∙◌, inl, inr, zero-add, add-one, arith}
use Rattle.std.specs.List.{range_with_len}
use Rattle.std.proofs.lemmas.List.FromFn.{map-range_with_len_more, sum_by-map-range_with_len_more}
use Rattle.std.proofs.lemmas.Bool.{cases_lt, lt-ltb, le-ltb}
use Rattle.schedule.specs.Histories.{History, jobs, size_of, sum_over_jobs}
use Rattle.schedule.specs.Schedules.{Schedule, units, remaining, Present}
use Rattle.schedule.specs.Occupancy.{presence, occupancy}
use Rattle.schedule.specs.Computed.{remaining_by_job}
use Rattle.schedule.proofs.Outside.{count_positive}

-- A sum over the numbers below n.
abbrev pub Σ : ℕ → (ℕ → ℕ) → ℕ
Σ zero f = 0
Σ (suc n) f = Σ n f + f n

pub Σ_add : (n : ℕ) (f g : ℕ → ℕ) → Σ n (λ j. f j + g j) ≡ Σ n f + Σ n g
Σ_add zero f g = refl
Σ_add (suc n) f g = omega (arith, Σ_add n f g)

Σ_same : (n : ℕ) (f g : ℕ → ℕ) → ((j : ℕ) → f j ≡ g j) → Σ n f ≡ Σ n g
Σ_same zero f g e = refl
Σ_same (suc n) f g e = omega (arith, Σ_same n f g e, e n)

sum_counting : (n : ℕ) (f : ℕ → ℕ) → sum (map f (range_with_len 0 n)) ≡ Σ n f
sum_counting zero f = refl
sum_counting (suc n) f =
    ap (λ m. sum (map f (range_with_len 0 m))) (sym (add-one n)) ∙ omega (arith, sum_by-map-range_with_len_more (λ x. x) f 0 n n (zero-add n), sum_counting n f)

-- The sum over the jobs is one over their numbers.
pub over_jobs : (h : History) (f : ℕ → ℕ) → sum_over_jobs h f ≡ Σ (jobs h) f
over_jobs h f = sum_counting (jobs h) f

-- 1 for a number above 0.
one : ℕ → ℕ
one zero = 0
one (suc x) = 1

positive_push : (xs : List ℕ) (x : ℕ) → count_positive (xs ++ x ∷ []) ≡ count_positive xs + one x
unfolding one
positive_push [] zero = refl
positive_push [] (suc x) = refl
positive_push (zero ∷ ys) x = positive_push ys x
positive_push (suc y ∷ ys) x = omega (arith, positive_push ys x)

positive_counting : (n : ℕ) (f : ℕ → ℕ) → count_positive (map f (range_with_len 0 n)) ≡ Σ n (λ j. one (f j))
positive_counting zero f = refl
positive_counting (suc n) f =
    ap (λ m. count_positive (map f (range_with_len 0 m))) (sym (add-one n)) ∙ ap count_positive (map-range_with_len_more f 0 n n (zero-add n))
    ∙ omega (arith, positive_push (map f (range_with_len 0 n)) (f n), positive_counting n f)

one_some : (n : ℕ) → 0 < n → one n ≡ 1
unfolding one
one_some zero l = absurd (omega arith)
one_some (suc n) l = refl

one_none : (n : ℕ) → n ≡ 0 → one n ≡ 0
unfolding one
one_none zero e = refl
one_none (suc n) e = absurd (omega arith)

-- A present job counts 1.
pub presence_yes : (h : History) (s : Schedule) (j : ℕ) → Present h s j → presence h s j ≡ 1
presence_yes h s j p = rw (lt-ltb _ _ p)

-- A job with all its units, or that has not entered, counts 0.
pub presence_no : (h : History) (s : Schedule) (j : ℕ) → size_of h j ≤ units j s → presence h s j ≡ 0
presence_no h s j p = rw (le-ltb _ _ p)

-- A job is present where it has work left.
presence-one : (h : History) (s : Schedule) (j : ℕ) → presence h s j ≡ one (remaining h s j)
presence-one h s j =
    elim (cases_lt (units j s) (size_of h j)) [
      | inl l ↦ presence_yes h s j l ∙ sym (one_some (remaining h s j) (omega arith))
      | inr l ↦ presence_no h s j l ∙ sym (one_none (remaining h s j) (omega arith))
    ]

-- The jobs present are those with work left.
pub occupancy_positive : (h : History) (s : Schedule) → occupancy h s ≡ count_positive (remaining_by_job h s)
occupancy_positive h s =
    over_jobs h (presence h s)
    ∙ Σ_same (jobs h) (presence h s) (λ j. one (remaining h s j)) (presence-one h s)
    ∙ sym (positive_counting (jobs h) (remaining h s))
