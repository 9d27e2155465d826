-- What the ranking of SRPT says of the present jobs.
use Rattle.std.specs.Prelude.{◌≡◌, ℕ, ◌<◌, ◌≤◌, Bool, true, false, not, cond, List, replicate, is_some, Some, None, Ok, Err, Option, Result, MatchResult, ◌==◌, slice_index, slice_set, refl}
use Rattle.std.proofs.Common.{ltb, ap, ◌∙◌, arith}
use Rattle.std.proofs.lemmas.List.Sums.{count_by-le-length}
use Rattle.std.proofs.lemmas.Bool.Decides.{nat_tests}
use Rattle.refusal.specs.Answers.{provided, if_accepted}
use Rattle.refusal.specs.declared.Refusal.{Refusal}
use Rattle.refusal.specs.declared.Refusal.TheVariants.{Held}
use Rattle.job.proofs.Sizes.{size_low, size_high}
use Rattle.discipline.specs.Meaning.{Sound, count_present}
use Rattle.heap.specs.Held.{held, SameKeys, nothing, put, counted}
use Rattle.heap.specs.Answers.{insert_answer}
use Rattle.keys.specs.declared.left.LeftKey.{LeftKey}
use Rattle.keys.specs.Orders.{number_of as left_handle}
use Rattle.srpt.specs.declared.srpt.Srpt.{Srpt}
use Rattle.heap.specs.Rankings.{keys_of, Unchanged}
use Rattle.srpt.specs.Ranked.{JobRanking, sized}
use Rattle.srpt.specs.Lefts.{left_in, table, lefts_of}
use Rattle.srpt.specs.Choice.{least}
use Rattle.srpt.specs.Numbers.{none_above}
use Rattle.srpt.specs.Tables.{table_long, table_at, table_none, table_count, table_set}
use Rattle.srpt.specs.Choosing.{least_chosen}

pub left_of_key : (r : JobRanking) (k : ℕ) → slice_index (table (keys_of r)) k ≡ left_in (keys_of r k)
left_of_key r = table_at (keys_of r) (none_above r)

pub nobody_held : (r : JobRanking) → SameKeys (keys_of r) nothing → table (keys_of r) ≡ replicate 1024 0
nobody_held r none = table_none (keys_of r) (λ j. ap left_in (none j))

-- As many jobs are present as the ranking holds keys, and no more than there are jobs.
pub present_counted : (d : Srpt) → counted (keys_of d.ranking) 1024 ≡ count_present (lefts_of d)
present_counted d = table_count (keys_of d.ranking) d.working

pub present_few : (d : Srpt) → count_present (lefts_of d) ≤ 1024
present_few d = omega (arith, count_by-le-length (λ x. ltb 0 x) (lefts_of d), table_long (keys_of d.ranking))

size_of_key : (o : Option LeftKey) → sized o ≡ true → left_in o ≤ 10000
size_of_key None e = omega arith
size_of_key (Some k) e = size_high k.left e

-- The left work and the choice of SRPT fit each other.
pub least_sound : (d : Srpt) → Sound (lefts_of d) (least (lefts_of d))
least_sound d = record {
  long = table_long (keys_of d.ranking);
  fits = λ k. let e = left_of_key d.ranking k in let s = size_of_key (keys_of d.ranking k) (d.working k) in omega arith;
  chosen = least_chosen (lefts_of d);
}

-- ---- a job enters
no_work : (o : Option LeftKey) → sized o ≡ true → not (is_some o) ≡ (left_in o == 0)
no_work None s = refl
no_work (Some k) s = grind (arith, nat_tests, size_low k.left)

put_left : (b : Bool) (k : LeftKey) (o : Option LeftKey) → left_in (cond b (Some k) o) ≡ cond b k.left (left_in o)
put_left true k o = refl
put_left false k o = refl

unchanged_table : (r s : JobRanking) → Unchanged r s → table (keys_of s) ≡ table (keys_of r)
unchanged_table r s u =
    ap (λ (ks : List LeftKey). table (held left_handle ks s.len)) u.0
    ∙ ap (λ n. table (held left_handle r.keys n)) u.2

module _ (d : Srpt) (k : LeftKey) (a : Result (Unit {0}) Refusal) where
  pub enter_answers : k.number < 1024 → a ≡ insert_answer 1024 (keys_of d.ranking) k.number
      → a ≡ provided (slice_index (lefts_of d) k.number == 0) Held (Ok tt)
  enter_answers low e =
      let o = keys_of d.ranking k.number in
      grind (arith, nat_tests, no_work o (d.working k.number), left_of_key d.ranking k.number)

pub enter_leaves : (r s : JobRanking) (k : LeftKey) (a : Result (Unit {0}) Refusal)
    → MatchResult a (λ _. SameKeys (keys_of s) (put left_handle k (keys_of r))) (λ _. Unchanged r s)
    → table (keys_of s) ≡ if_accepted a (slice_set (table (keys_of r)) k.number k.left) (table (keys_of r))
enter_leaves r s k (Ok t) h = table_set (keys_of r) (keys_of s) k.number k.left (λ j. ap left_in (h j) ∙ put_left (j == k.number) k (keys_of r j))
enter_leaves r s k (Err c) h = unchanged_table r s h
