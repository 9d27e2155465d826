-- What the calls of a heap answer, over the keys that it holds.
use Rattle.std.specs.Prelude.{◌≡◌, ℕ, ◌<◌, ◌≤◌, Bool, true, not, List, is_some, Some, None, Ok, Err, Option, Result, MatchResult, ◌≢◌, nat_lt, slice_index_or}
use Rattle.refusal.specs.Answers.{provided}
use Rattle.refusal.specs.declared.Refusal.{Refusal}
use Rattle.refusal.specs.declared.Refusal.TheVariants.{Nobody, OutOfRange, Held, NotHeld}
use Rattle.heap.specs.Held.{held, capacity, Foremost}

-- Insert into the keys m with the capacity c: refused unless the handle h is below the capacity, then if it is held.
abbrev pub insert_answer : {K : Type 0} → ℕ → (ℕ → Option K) → ℕ → Result (Unit {0}) Refusal
insert_answer c m h =
    provided (nat_lt h c) OutOfRange
    (provided (not (is_some (m h))) Held
    (Ok tt))

-- Replace and remove among the keys m with the capacity c: refused unless the handle h is below the capacity, then if it is not held.
abbrev pub change_answer : {K : Type 0} → ℕ → (ℕ → Option K) → ℕ → Result (Unit {0}) Refusal
change_answer c m h =
    provided (nat_lt h c) OutOfRange
    (provided (is_some (m h)) NotHeld
    (Ok tt))

-- First: the handle of the key before all others, or a refusal where nothing is held.
abbrev pub First : {K : Type 0} → (K → ℕ) → (K → K → Bool) → (ℕ → Option K) → Result ℕ Refusal → Type 0
First handle before m r = MatchResult r (λ h. Foremost handle before m h) (λ cause. (cause ≡ Nobody) × ((h : ℕ) → m h ≡ None))

-- Where the key with the handle h is among the first n keys, and so what is held there; refused where h is not below the capacity.
abbrev pub Seated : {K : Type 0} → (K → ℕ) → List K → List ℕ → ℕ → ℕ → Result (Option ℕ) Refusal → Type 0
Seated handle keys places n h (Err cause) = (cause ≡ OutOfRange) × (capacity keys places ≤ h) × (held handle keys n h ≡ None)
Seated {K} handle keys places n h (Ok None) = (h < capacity keys places) × (held handle keys n h ≡ None) × ((d : K) (i : ℕ) → i < n → handle (slice_index_or keys i d) ≢ h)
Seated {K} handle keys places n h (Ok (Some i)) = (h < capacity keys places) × (i < n) × ((d : K) → handle (slice_index_or keys i d) ≡ h) × ((d : K) → held handle keys n h ≡ Some (slice_index_or keys i d)) × (is_some (held handle keys n h) ≡ true)
