-- What a discipline means: the left work of each job, the choice, and what each call answers.
use Rattle.std.specs.Prelude.{◌≡◌, ℕ, ◌-◌, ◌<◌, ◌≤◌, ltb, List, length, Some, None, Ok, Err, count_by, Option, Result, ◌==◌, nat_le, nat_lt, slice_index}
use Rattle.refusal.specs.declared.Refusal.{Refusal}
use Rattle.refusal.specs.declared.Refusal.TheVariants.{Size, Nobody, OutOfRange, Held, NotHeld}
use Rattle.refusal.specs.Answers.{provided}
use Rattle.job.specs.Rules.{good_size}

-- The choice is one of the present jobs, or none exactly when nobody is present.
abbrev pub Chosen : List ℕ → Option ℕ → Type 0
Chosen p None = (k : ℕ) → slice_index p k ≡ 0
Chosen p (Some j) = 0 < slice_index p j

-- The two parts fit each other: 1,024 entries of left work, each at most 10,000, and a choice among those above 0.
pub record Sound (p : List ℕ) (c : Option ℕ) : Type 0 where
  pub long : length p ≡ 1024
  pub fits : (k : ℕ) → slice_index p k ≤ 10000
  pub chosen : Chosen p c

-- What admit answers.
abbrev pub admit_answer : List ℕ → ℕ → ℕ → Result (Unit {0}) Refusal
admit_answer p n z =
    provided (nat_le n 1023) OutOfRange
    (provided (good_size z) Size
    (provided (slice_index p n == 0) Held
    (Ok tt)))

-- What choose answers.
abbrev pub choose_answer : Option ℕ → Result ℕ Refusal
choose_answer None = Err Nobody
choose_answer (Some j) = Ok j

-- What worked answers: the left work after one unit.
abbrev pub worked_answer : List ℕ → ℕ → Result ℕ Refusal
worked_answer p n =
    provided (nat_le n 1023) OutOfRange
    (provided (nat_lt 0 (slice_index p n)) NotHeld
    (Ok (slice_index p n - 1)))

-- What left answers.
abbrev pub left_answer : List ℕ → ℕ → Result ℕ Refusal
left_answer p n = provided (nat_le n 1023) OutOfRange (Ok (slice_index p n))

-- How many jobs are present.
abbrev pub count_present : List ℕ → ℕ
count_present p = count_by (λ x. ltb 0 x) p

-- How an accepted call moves a discipline: it is cleared, job n is admitted with z units, or one unit is done on job n and l are left.
pub data Move : Type 0 where
  cleared : Move
  admitted : ℕ → ℕ → Move
  worked : ℕ → ℕ → Move
