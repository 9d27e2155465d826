-- The front, and the end, of a row of the present jobs is a present job.
use Rattle.std.specs.Prelude.{◌≡◌, ℕ, ◌<◌, Bool, cond, List, [], ◌∷◌, Option, nat_lt, slice_index, refl}
use Rattle.std.proofs.Common.{sym, ap, subst, arith}
use Rattle.std.proofs.lemmas.Bool.Decides.{nat_tests}
use Rattle.std.proofs.lemmas.Bool.{eq-eqb}
use Rattle.discipline.specs.Meaning.{Chosen}
use Rattle.queues.specs.Queues.{Rule, fcfs, lcfs, round_robin, choice_by}
use Rattle.queues.specs.Rows.{first_of, last_of, times, Once}
use Rattle.queues.specs.Standing.{last_in}

above : (n m : ℕ) → 0 < n → n ≡ cond (nat_lt 0 m) 1 0 → 0 < m
above n m h e = grind (arith, nat_tests)

none : (m : ℕ) → 0 ≡ cond {A = ℕ} (nat_lt 0 m) 1 0 → m ≡ 0
none m e = grind (arith, nat_tests)

pub first_chosen : (row left : List ℕ) → Once row left → Chosen left (first_of row)
first_chosen [] left o = λ k. none (slice_index left k) (o k)
first_chosen (x ∷ xs) left o =
    let own : 0 < times x (x ∷ xs) = omega (arith, ap {B = ℕ} (λ (b : Bool). cond b 1 0) (eq-eqb x x refl)) in
    above (times x (x ∷ xs)) (slice_index left x) own (o x)

pub last_chosen : (row left : List ℕ) → Once row left → Chosen left (last_of row)
last_chosen [] left o = λ k. none (slice_index left k) (o k)
last_chosen (x ∷ xs) left o =
    let r = last_in x xs in
    subst (λ (c : Option ℕ). Chosen left c) (sym r.1) (above (times r.0 (x ∷ xs)) (slice_index left r.0) r.2 (o r.0))

-- Whichever rule picks, the choice is a present job.
pub rule_chosen : (rule : Rule) (row left : List ℕ) → Once row left → Chosen left (choice_by rule row)
rule_chosen fcfs row left o = first_chosen row left o
rule_chosen lcfs row left o = last_chosen row left o
rule_chosen (round_robin q) row left o = first_chosen row left o
