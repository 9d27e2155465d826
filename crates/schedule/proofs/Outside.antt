-- The work outside k jobs: the least that remains of the jobs' work when at most k of them are set aside, and how it moves.
use Rattle.std.proofs.Common.{◌≡◌, ℕ, zero, suc, pred, ◌+◌, ◌-◌, ◌<◌, ◌≤◌, min, ◌⊎◌, List, [], ◌∷◌, ◌++◌, get_or, set, refl, inl, inr, arith}

-- How many of the jobs have work left.
abbrev pub count_positive : List ℕ → ℕ
count_positive [] = 0
count_positive (zero ∷ xs) = count_positive xs
count_positive (suc x ∷ xs) = suc (count_positive xs)

-- Each job is set aside, while there are k, or its work counts; the least over all ways to do so, which sets the largest aside.
abbrev pub outside : ℕ → List ℕ → ℕ
outside k [] = 0
outside zero (x ∷ xs) = x + outside zero xs
outside (suc k) (x ∷ xs) = min (x + outside (suc k) xs) (outside k xs)

-- What follows from a number's being 0, or above, as two cases: `omega` splits on a sum and not on a premise.
if_zero : {P : Type 0} (n : ℕ) → (n ≡ 0 → P) → (0 < n) ⊎ P
if_zero zero f = inr (f refl)
if_zero (suc n) f = inl (omega arith)

if_some : {P : Type 0} (n : ℕ) → (0 < n → P) → (n ≡ 0) ⊎ P
if_some zero f = inl refl
if_some (suc n) f = inr (f (omega arith))

-- One more job enters.
pub outside_push_zero : (xs : List ℕ) (z : ℕ) → outside 0 (xs ++ z ∷ []) ≡ z + outside 0 xs
outside_push_zero [] z = refl
outside_push_zero (x ∷ xs) z = omega (arith, outside_push_zero xs z)

pub outside_push : (k : ℕ) (xs : List ℕ) (z : ℕ) → outside (suc k) (xs ++ z ∷ []) ≡ min (z + outside (suc k) xs) (outside k xs)
outside_push k [] z = refl
outside_push zero (x ∷ xs) z = omega (arith, outside_push 0 xs z, outside_push_zero xs z)
outside_push (suc k) (x ∷ xs) z = omega (arith, outside_push (suc k) xs z, outside_push k xs z)

-- Setting one more aside leaves no more.
pub outside_more : (k : ℕ) (xs : List ℕ) → outside (suc k) xs ≤ outside k xs
outside_more k [] = omega arith
outside_more zero (x ∷ xs) = omega arith
outside_more (suc k) (x ∷ xs) = omega (arith, outside_more (suc k) xs, outside_more k xs)

-- A unit done on any job lowers the work outside k by one at most.
pub unit_lowers : (k j : ℕ) (xs : List ℕ) → outside k xs ≤ suc (outside k (set xs j (get_or xs j 0 - 1)))
unit_lowers k j [] = omega arith
unit_lowers zero zero (x ∷ xs) = omega arith
unit_lowers (suc k) zero (x ∷ xs) = omega arith
unit_lowers zero (suc j) (x ∷ xs) = omega (arith, unit_lowers zero j xs)
unit_lowers (suc k) (suc j) (x ∷ xs) = omega (arith, unit_lowers (suc k) j xs, unit_lowers k j xs)

-- The exchange argument, first half: where each present job has at least m left, one more job set aside takes away m at least, if any
-- work remained.
pub saves : (m k : ℕ) (xs : List ℕ) → ((i : ℕ) → 0 < get_or xs i 0 → m ≤ get_or xs i 0) → 0 < outside k xs → m + outside (suc k) xs ≤ outside k xs
saves m k [] all h = omega arith
saves m zero (zero ∷ xs) all h = omega (arith, saves m zero xs (λ i. all (suc i)), outside_more zero xs)
saves m zero (suc x ∷ xs) all h = omega (arith, all 0, outside_more zero xs)
saves m (suc k) (zero ∷ xs) all h = omega (arith, saves m (suc k) xs (λ i. all (suc i)), outside_more k xs)
saves m (suc k) (suc x ∷ xs) all h = omega (arith, all 0, saves m k xs (λ i. all (suc i)))

-- A job has no more than there is in all.
job_le_all : (j : ℕ) (xs : List ℕ) → get_or xs j 0 ≤ outside 0 xs
job_le_all j [] = omega arith
job_le_all zero (x ∷ xs) = omega arith
job_le_all (suc j) (x ∷ xs) = omega (arith, job_le_all j xs)

-- The exchange argument, second half: where nothing remains with one more set aside, any present job has all that remains.
pub all_of_one : (k j : ℕ) (xs : List ℕ) → 0 < get_or xs j 0 → outside (suc k) xs ≡ 0 → outside k xs ≤ get_or xs j 0
all_of_one k j [] p e = omega arith
all_of_one zero zero (x ∷ xs) p e = omega arith
all_of_one (suc k) zero (x ∷ xs) p e = omega arith
all_of_one zero (suc j) (x ∷ xs) p e = omega (arith, all_of_one zero j xs p, job_le_all j xs)
all_of_one (suc k) (suc j) (x ∷ xs) p e =
    omega (arith, if_zero _ (all_of_one (suc k) j xs p), if_zero _ (all_of_one k j xs p))

-- A unit done on a present job with least left lowers the work outside k by one, unless it is 0.
pub least_lowers :
    (k j : ℕ) (xs : List ℕ) → 0 < get_or xs j 0 → ((i : ℕ) → 0 < get_or xs i 0 → get_or xs j 0 ≤ get_or xs i 0)
    → outside k (set xs j (get_or xs j 0 - 1)) ≤ pred (outside k xs)
least_lowers k j [] p all = omega arith
least_lowers zero zero (x ∷ xs) p all = omega arith
least_lowers (suc k) zero (x ∷ xs) p all = omega (arith, if_some _ (saves x k xs (λ i. all (suc i))))
least_lowers zero (suc j) (x ∷ xs) p all = omega (arith, least_lowers zero j xs p (λ i. all (suc i)), job_le_all j xs)
least_lowers (suc k) (suc j) (x ∷ xs) p all =
    omega (arith, least_lowers (suc k) j xs p (λ i. all (suc i)), least_lowers k j xs p (λ i. all (suc i)), if_zero _ (all_of_one k j xs p), if_some _ (all 0))

-- A job without work adds nothing.
outside_cons_zero : (k : ℕ) (xs : List ℕ) → outside k (0 ∷ xs) ≤ outside k xs
outside_cons_zero zero xs = omega arith
outside_cons_zero (suc k) xs = omega arith

-- Nothing remains once all who are present are set aside.
pub none_remains : (xs : List ℕ) → outside (count_positive xs) xs ≡ 0
none_remains [] = refl
none_remains (zero ∷ xs) = omega (arith, none_remains xs, outside_cons_zero (count_positive xs) xs)
none_remains (suc x ∷ xs) = omega (arith, none_remains xs)

-- Nothing remains only if all who are present are set aside.
pub count_positive_le : (n : ℕ) (xs : List ℕ) → outside n xs ≡ 0 → count_positive xs ≤ n
count_positive_le n [] e = omega arith
count_positive_le zero (zero ∷ xs) e = omega (arith, count_positive_le zero xs)
count_positive_le (suc n) (zero ∷ xs) e = omega (arith, count_positive_le (suc n) xs, outside_more n xs)
count_positive_le zero (suc x ∷ xs) e = omega arith
count_positive_le (suc n) (suc x ∷ xs) e = omega (arith, count_positive_le n xs)

-- Where nobody is present there is no work outside k.
pub none_outside : (k : ℕ) (xs : List ℕ) → ((i : ℕ) → 0 < get_or xs i 0 → ⊥) → outside k xs ≡ 0
none_outside k [] none = refl
none_outside k (suc x ∷ xs) none = absurd (none 0 (omega arith))
none_outside zero (zero ∷ xs) none = omega (arith, none_outside zero xs (λ i. none (suc i)))
none_outside (suc k) (zero ∷ xs) none = omega (arith, none_outside (suc k) xs (λ i. none (suc i)))
