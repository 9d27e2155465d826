-- The foremost key of a ranking is that of the job that SRPT chooses.
use Rattle.std.specs.Prelude.{◌≡◌, ℕ, ◌<◌, ◌≤◌, true, List, Some, None, Ok, Err, Option, Result, ◌≢◌, slice_index, slice_index_or, refl}
use Rattle.std.proofs.Common.{sym, ap, subst, ◌∙◌, ⊎_elim, arith}
use Rattle.std.proofs.lemmas.Bool.{cases_eq}
use Rattle.std.proofs.lemmas.Bool.Decides.{nat_tests}
use Rattle.refusal.specs.declared.Refusal.{Refusal}
use Rattle.job.proofs.Sizes.{size_low}
use Rattle.discipline.specs.Meaning.{Chosen, choose_answer}
use Rattle.heap.specs.Held.{Foremost}
use Rattle.heap.specs.Answers.{First}
use Rattle.keys.specs.declared.left.LeftKey.{LeftKey}
use Rattle.keys.specs.Orders.{number_of, sooner}
use Rattle.schedule.specs.Schedules.{Entry, job, idle}
use Rattle.schedule.specs.Computed.{shortest}
use Rattle.schedule.proofs.Computed.{Best, best, best_one}
use Rattle.srpt.specs.Ranked.{sized}
use Rattle.srpt.specs.Lefts.{left_in}
use Rattle.srpt.specs.Choice.{named, least}

chosen_if_best : (left : List ℕ) (e : Entry) → Best left e → Chosen left (named e)
chosen_if_best left idle b = λ k. let no : 0 < slice_index left k → ⊥ = b k in omega arith
chosen_if_best left (job j) b = b.0

-- The choice is a present job, or none where nobody is present.
pub least_chosen : (left : List ℕ) → Chosen left (least left)
least_chosen left = chosen_if_best left (shortest left) (best left)

named_job : (e : Entry) (j : ℕ) → named e ≡ Some j → e ≡ job j
named_job (job i) j h = cc
named_job idle j h = cc

-- A job that is chosen has the least left work of those present.
pub least_best : (left : List ℕ) (j : ℕ) → least left ≡ Some j → Best left (job j)
least_best left j h = subst (λ (e : Entry). Best left e) (named_job (shortest left) j h) (best left)

sooner_left : (p q : LeftKey) → sooner p q ≡ true → p.left ≤ q.left
sooner_left p q e = grind (arith, nat_tests)

sooner_number : (p q : LeftKey) → sooner p q ≡ true → q.left ≤ p.left → p.number < q.number
sooner_number p q e l = grind (arith, nat_tests)

some_left : (o : Option LeftKey) → 0 < left_in o → (k : LeftKey) × (o ≡ Some k)
some_left None l = absurd (omega arith)
some_left (Some k) l = (k, refl)

-- The keys m, each under its own job number, with the left work of each job.
module _ (m : ℕ → Option LeftKey) (left : List ℕ)
    (at : (j : ℕ) → slice_index left j ≡ left_in (m j))
    (own : (j : ℕ) (k : LeftKey) → m j ≡ Some k → k.number ≡ j)
    (good : (j : ℕ) → sized (m j) ≡ true) where
  -- A present job other than that of the foremost key.
  other : (h i : ℕ) (f : Foremost number_of sooner m h) → 0 < slice_index left i → (i ≢ h)
      → (q : LeftKey) × (q.number ≡ i) × (slice_index left i ≡ q.left) × (sooner f.0 q ≡ true)
  other h i f p ne =
      let s = some_left (m i) (omega (arith, at i)) in
      (s.0, own i s.0 s.1, at i ∙ ap left_in s.1, f.3 i s.0 s.1 ne)

  foremost_best : (h : ℕ) → Foremost number_of sooner m h → Best left (job h)
  foremost_best h f =
      let k = f.0 in
      let here : slice_index_or left h 0 ≡ k.left = at h ∙ ap left_in f.2 in
      let some : 0 < k.left = size_low k.left (sym (ap sized f.2) ∙ good h) in
      let number : k.number ≡ h = f.1 in (
        omega arith,
        λ i p. ⊎_elim
            (λ e. let s : slice_index_or left h 0 ≡ slice_index_or left i 0 = ap (λ x. slice_index left x) (sym e) in omega arith)
            (λ ne. let o = other h i f p ne in omega (arith, sooner_left k o.0 o.3, o.2))
            (cases_eq i h),
        λ i p l. ⊎_elim
            (λ e. omega arith)
            (λ ne. let o = other h i f p ne in omega (arith, sooner_number k o.0 o.3 (omega (arith, o.2)), o.1))
            (cases_eq i h),
      )

  pub first_chosen : (r : Result ℕ Refusal) → First number_of sooner m r → r ≡ choose_answer (least left)
  first_chosen (Ok h) f = ap (λ (e : Entry). choose_answer (named e)) (best_one left (job h) (shortest left) (foremost_best h f) (best left))
  first_chosen (Err c) f =
      let nobody : Best left idle = λ i p. (let z : slice_index_or left i 0 ≡ 0 = at i ∙ ap left_in (f.1 i) in omega arith) in
      ap Err f.0
      ∙ ap (λ (e : Entry). choose_answer (named e)) (best_one left idle (shortest left) nobody (best left))
