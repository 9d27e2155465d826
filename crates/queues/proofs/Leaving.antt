-- The row after a unit of work: the job stays, or leaves if it is finished.
use Rattle.std.specs.Prelude.{◌≡◌, ℕ, ◌<◌, cond, List, length, slice_index, slice_set}
use Rattle.std.proofs.Common.{sym, ap, subst, ◌∙◌, ⊎_elim, arith}
use Rattle.std.proofs.lemmas.Bool.{cases_eq, eq-eqb, ne_eqb}
use Rattle.discipline.specs.Meaning.{count_present}
use Rattle.queues.specs.Rows.{without, leaves, Once}
use Rattle.queues.proofs.Admitted.{length_without, count_same, count_less, once_same, once_less, here}

module _ (left : List ℕ) (n v : ℕ) (low : n < length left) where
  -- a job that has had a unit stays or leaves
  pub leaves_many : (row : List ℕ) → Once row left → length row ≡ count_present left → 0 < slice_index left n → length (leaves n v row) ≡ count_present (slice_set left n v)
  leaves_many row o m g =
      ⊎_elim
      (λ z. ap (λ b. length (cond b (without n row) row)) (eq-eqb v 0 z) ∙ omega (arith, length_without row n (here left n v low row o g), count_less left n v low g z))
      (λ nz. ap (λ b. length (cond b (without n row) row)) (ne_eqb v 0 nz) ∙ m ∙ sym (count_same left n v low g (omega arith)))
      (cases_eq v 0)

  pub leaves_once : (row : List ℕ) → Once row left → 0 < slice_index left n → Once (leaves n v row) (slice_set left n v)
  leaves_once row o g =
      ⊎_elim
      (λ z. subst (λ b. Once (cond b (without n row) row) (slice_set left n v)) (sym (eq-eqb v 0 z)) (once_less left n v low row o g z))
      (λ nz. subst (λ b. Once (cond b (without n row) row) (slice_set left n v)) (sym (ne_eqb v 0 nz)) (once_same left n v low row o g (omega arith)))
      (cases_eq v 0)
