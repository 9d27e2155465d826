-- The table of left work that is read off a ranking's keys: its length, its entries, and how it changes with them.
use Rattle.std.specs.Prelude.{◌≡◌, ℕ, zero, suc, ◌+◌, ◌<◌, ◌≤◌, true, cond, List, map, length, set, replicate, is_some, Some, None, Option, ◌==◌, nat_lt, slice_index, slice_set, refl}
use Rattle.std.proofs.Common.{sym, ap, subst, ◌∙◌, ⊎_elim, zero-add, add-one, arith}
use Rattle.std.specs.List.{range_with_len}
use Rattle.std.proofs.lemmas.List.FromFn.{length-map-range_with_len, get_or-map-range_with_len, sum_by-map-range_with_len_more}
use Rattle.std.proofs.lemmas.List.{ext_get_or, length-set, length-replicate, get_or-set_same, get_or-set_other, get_or-replicate, get_or_past}
use Rattle.std.proofs.lemmas.Bool.{cases_lt, cases_eq, eq-eqb, ne_eqb}
use Rattle.std.proofs.lemmas.Bool.Decides.{nat_tests}
use Rattle.discipline.specs.Meaning.{count_present}
use Rattle.heap.specs.Held.{counted}
use Rattle.job.proofs.Sizes.{size_low}
use Rattle.keys.specs.declared.left.LeftKey.{LeftKey}
use Rattle.srpt.specs.Ranked.{sized}
use Rattle.srpt.specs.Lefts.{left_in, table}

-- The left work of the first n jobs.
abbrev firsts : (ℕ → Option LeftKey) → ℕ → List ℕ
firsts m n = map (λ j. left_in (m j)) (range_with_len 0 n)

module _ (m : ℕ → Option LeftKey) (n : ℕ) where
  firsts_long : length (firsts m n) ≡ n
  firsts_long = length-map-range_with_len (λ j. left_in (m j)) 0 n

  firsts_at : (k : ℕ) → k < n → slice_index (firsts m n) k ≡ left_in (m k)
  firsts_at k l = get_or-map-range_with_len (λ j. left_in (m j)) 0 n k k 0 l (omega arith)

  firsts_past : (k : ℕ) → n ≤ k → slice_index (firsts m n) k ≡ 0
  firsts_past k g = get_or_past (firsts m n) k 0 (omega (arith, firsts_long))

  firsts_none : ((j : ℕ) → left_in (m j) ≡ 0) → firsts m n ≡ replicate n 0
  firsts_none z =
      ext_get_or 0 (firsts m n) (replicate n 0) (firsts_long ∙ sym (length-replicate n 0))
      (λ k l. let b : k < n = omega (arith, firsts_long) in firsts_at k b ∙ z k ∙ sym (get_or-replicate n k 0 0 b))

-- One entry changes.
module _ (m p : ℕ → Option LeftKey) (n i v : ℕ) (change : (j : ℕ) → left_in (p j) ≡ cond (j == i) v (left_in (m j))) where
  entry : (k : ℕ) → k < n → left_in (p k) ≡ slice_index (slice_set (firsts m n) i v) k
  entry k l =
      ⊎_elim
      (λ e. change k ∙ ap (λ b. cond b v (left_in (m k))) (eq-eqb k i e)
      ∙ sym (ap (λ x. slice_index (slice_set (firsts m n) i v) x) e ∙ get_or-set_same (firsts m n) i v 0 (omega (arith, firsts_long m n))))
      (λ ne. change k ∙ ap (λ b. cond b v (left_in (m k))) (ne_eqb k i ne)
      ∙ sym (get_or-set_other (firsts m n) i k v 0 ne ∙ firsts_at m n k l))
      (cases_eq k i)

  firsts-set : firsts p n ≡ slice_set (firsts m n) i v
  firsts-set =
      ext_get_or 0 (firsts p n) (slice_set (firsts m n) i v) (firsts_long p n ∙ sym (length-set (firsts m n) i v ∙ firsts_long m n))
      (λ k l. let b : k < n = omega (arith, firsts_long p n) in firsts_at p n k b ∙ entry k b)

-- A job with a key has left work, so it counts.
one : (o : Option LeftKey) → sized o ≡ true → cond {A = ℕ} (is_some o) 1 0 ≡ cond (nat_lt 0 (left_in o)) 1 0
one None e = refl
one (Some k) e = let l = size_low k.left e in grind (arith, nat_tests)

firsts_count : (m : ℕ → Option LeftKey) (n : ℕ) → ((j : ℕ) → sized (m j) ≡ true) → counted m n ≡ count_present (firsts m n)
unfolding counted
firsts_count m zero good = refl
firsts_count m (suc n) good =
    ap (λ c. c + cond (is_some (m n)) 1 0) (firsts_count m n good)
    ∙ ap (λ c. count_present (firsts m n) + c) (one (m n) (good n))
    ∙ sym (sum_by-map-range_with_len_more (λ x. cond (nat_lt 0 x) 1 0) (λ j. left_in (m j)) 0 n n (zero-add n))
    ∙ ap (λ c. count_present (firsts m c)) (add-one n)

table_firsts : (m : ℕ → Option LeftKey) (n : ℕ) → n ≡ 1024 → table m ≡ firsts m n
unfolding table
table_firsts m n e = ap (λ c. firsts m c) (sym e)

-- What holds of the first n jobs for every n holds of the table.
module _ (P : ℕ → List ℕ → Type 0) (m : ℕ → Option LeftKey) (all : (n : ℕ) → P n (firsts m n)) where
  of_table : (n : ℕ) → n ≡ 1024 → P n (table m)
  of_table n e = subst (λ (xs : List ℕ). P n xs) (sym (table_firsts m n e)) (all n)

module _ (m : ℕ → Option LeftKey) where
  pub table_long : length (table m) ≡ 1024
  table_long = of_table (λ n xs. length xs ≡ n) m (firsts_long m) 1024 refl

  pub table_at : ((j : ℕ) → 1024 ≤ j → m j ≡ None) → (k : ℕ) → slice_index (table m) k ≡ left_in (m k)
  table_at none k =
      ⊎_elim
      (λ l. of_table (λ n xs. k < n → slice_index xs k ≡ left_in (m k)) m (λ n. firsts_at m n k) 1024 refl l)
      (λ g. of_table (λ n xs. n ≤ k → slice_index xs k ≡ 0) m (λ n. firsts_past m n k) 1024 refl g ∙ sym (ap left_in (none k g)))
      (cases_lt k 1024)

  pub table_none : ((j : ℕ) → left_in (m j) ≡ 0) → table m ≡ replicate 1024 0
  table_none z = of_table (λ n xs. xs ≡ replicate n 0) m (λ n. firsts_none m n z) 1024 refl

  pub table_count : ((j : ℕ) → sized (m j) ≡ true) → counted m 1024 ≡ count_present (table m)
  table_count good = of_table (λ n xs. counted m n ≡ count_present xs) m (λ n. firsts_count m n good) 1024 refl

module _ (m p : ℕ → Option LeftKey) where
  both : (n : ℕ) → n ≡ 1024 → (F : List ℕ → List ℕ) → firsts p n ≡ F (firsts m n) → table p ≡ F (table m)
  both n e F same = table_firsts p n e ∙ same ∙ sym (ap F (table_firsts m n e))

  pub table_set : (i v : ℕ) → ((j : ℕ) → left_in (p j) ≡ cond (j == i) v (left_in (m j))) → table p ≡ slice_set (table m) i v
  table_set i v change = both 1024 refl (λ (xs : List ℕ). set xs i v) (firsts-set m p 1024 i v change)
