-- The computed choice of SRPT is a shortest one, the first of equals.
use Rattle.std.proofs.Common.{◌≡◌, ℕ, zero, suc, ◌<◌, ◌≤◌, List, [], ◌∷◌, get_or, refl, ap, inl, inr, arith}
use Rattle.std.proofs.lemmas.Bool.{cases_lt, le-leb, lt-leb}
use Rattle.schedule.specs.Histories.{History, enter, tick, lost}
use Rattle.schedule.specs.Schedules.{Entry, Schedule, job, idle}
use Rattle.schedule.specs.Srpt.{Shortest}
use Rattle.schedule.specs.Computed.{remaining_by_job, one_later, shorter, shortest, srpt, FirstOfEquals, ShortestChosen, SrptExists}
use Rattle.schedule.proofs.Remaining.{get_or-remaining}

-- A choice among jobs with these remaining works: idle where nobody is present, else the first of the shortest.
abbrev pub Best : List ℕ → Entry → Type 0
Best xs idle = (i : ℕ) → 0 < get_or xs i 0 → ⊥
Best xs (job j) =
    (0 < get_or xs j 0) × ((i : ℕ) → 0 < get_or xs i 0 → get_or xs j 0 ≤ get_or xs i 0) × ((i : ℕ) → 0 < get_or xs i 0 → get_or xs i 0 ≤ get_or xs j 0 → j ≤ i)

by_cases : (P : ℕ → Type 0) → P 0 → ((i : ℕ) → P (suc i)) → (i : ℕ) → P i
by_cases P a b zero = a
by_cases P a b (suc i) = b i

-- A finished job before the others changes their numbers only.
best_later : (xs : List ℕ) (e : Entry) → Best xs e → Best (0 ∷ xs) (one_later e)
best_later xs idle b = by_cases (λ i. 0 < get_or (0 ∷ xs) i 0 → ⊥) (omega arith) b
best_later xs (job j) b = (
  b.0,
  by_cases (λ i. 0 < get_or (0 ∷ xs) i 0 → get_or xs j 0 ≤ get_or (0 ∷ xs) i 0) (omega arith) b.1,
  by_cases (λ i. 0 < get_or (0 ∷ xs) i 0 → get_or (0 ∷ xs) i 0 ≤ get_or xs j 0 → suc j ≤ i) (omega arith) (λ i p q. omega (arith, b.2 i p q)),
)

-- A present job before the others is chosen unless one of them has less.
best_shorter : (x : ℕ) (xs : List ℕ) (e : Entry) → Best xs e → Best (suc x ∷ xs) (shorter (suc x) xs e)
best_shorter x xs idle b = (
  omega arith,
  by_cases (λ i. 0 < get_or (suc x ∷ xs) i 0 → suc x ≤ get_or (suc x ∷ xs) i 0) (omega arith) (λ i p. absurd (b i p)),
  λ i p q. omega arith,
)
best_shorter x xs (job j) b =
    elim (cases_lt (get_or xs j 0) (suc x)) [
      | inl l ↦ rw (lt-leb (suc x) (get_or xs j 0) l) (
        b.0,
        by_cases (λ i. 0 < get_or (suc x ∷ xs) i 0 → get_or xs j 0 ≤ get_or (suc x ∷ xs) i 0) (omega arith) b.1,
        by_cases (λ i. 0 < get_or (suc x ∷ xs) i 0 → get_or (suc x ∷ xs) i 0 ≤ get_or xs j 0 → suc j ≤ i) (omega arith) (λ i p q. omega (arith, b.2 i p q)),
      )
      | inr l ↦ rw (le-leb (suc x) (get_or xs j 0) l) (
        omega arith,
        by_cases (λ i. 0 < get_or (suc x ∷ xs) i 0 → suc x ≤ get_or (suc x ∷ xs) i 0) (omega arith) (λ i p. omega (arith, b.1 i p)),
        λ i p q. omega arith,
      )
    ]

pub best : (xs : List ℕ) → Best xs (shortest xs)
best [] = λ i p. omega arith
best (zero ∷ xs) = best_later xs (shortest xs) (best xs)
best (suc x ∷ xs) = best_shorter x xs (shortest xs) (best xs)

-- There is no other such choice.
pub best_one : (xs : List ℕ) (d e : Entry) → Best xs d → Best xs e → d ≡ e
best_one xs idle idle p q = refl
best_one xs idle (job j) p q = absurd (p j q.0)
best_one xs (job i) idle p q = absurd (q i p.0)
best_one xs (job i) (job j) p q =
    let a = p.1 j q.0 in
    let b = q.1 i p.0 in
    let e : i ≡ j = omega (arith, p.2 j q.0 b, q.2 i p.0 a) in
    ap job e

chosen : (h : History) (s : Schedule) (e : Entry) → Best (remaining_by_job h s) e → Shortest h s e × FirstOfEquals h s e
chosen h s idle b = ((λ i p. b i (omega (arith, get_or-remaining h s i))), tt)
chosen h s (job j) b =
    let l = get_or-remaining h s j in (
      (
        omega (arith, b.0),
        λ i p. omega (arith, get_or-remaining h s i, b.1 i (omega (arith, get_or-remaining h s i))),
      ),
      λ i p q. b.2 i (omega (arith, get_or-remaining h s i)) (omega (arith, get_or-remaining h s i)),
    )

pub shortest_chosen_lem : ShortestChosen
shortest_chosen_lem h s = chosen h s (shortest (remaining_by_job h s)) (best (remaining_by_job h s))

pub srpt_exists_lem : SrptExists
srpt_exists_lem [] = tt
srpt_exists_lem (enter z ∷ h) = srpt_exists_lem h
srpt_exists_lem (tick ∷ h) = (srpt_exists_lem h, (shortest_chosen_lem h (srpt h)).0)
srpt_exists_lem (lost ∷ h) = (srpt_exists_lem h, refl)
