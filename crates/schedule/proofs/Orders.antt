-- First come, first served, is first in, first out.
use Rattle.std.proofs.Common.{◌≡◌, ℕ, ◌<◌, ◌≤◌, [], ◌∷◌, sym, ap, ◌∙◌, inl, inr, arith}
use Rattle.std.proofs.lemmas.List.{length_push}
use Rattle.std.proofs.lemmas.Bool.{cases_lt, cases_eq}
use Rattle.schedule.specs.Histories.{History, enter, tick, lost, sizes, jobs}
use Rattle.schedule.specs.Schedules.{Entry, Schedule, job, idle, remaining, Permitted, Finished}
use Rattle.schedule.specs.Sojourn.{finish}
use Rattle.schedule.specs.Orders.{Earliest, Latest, FirstInFirstOut}
use Rattle.schedule.proofs.Remaining.{remaining_old, remaining_new, remaining_other}
use Rattle.schedule.proofs.Following.{follows_weaker}
use Rattle.schedule.proofs.Sojourn.{sized-before, sized_last, remaining_falls, finish_now, finish_past, finish_by_now}

pub earliest_permitted : (h : History) (s : Schedule) (e : Entry) → Earliest h s e → Permitted h s e
earliest_permitted h s idle p = tt
earliest_permitted h s (job j) p = p.0

pub latest_permitted : (h : History) (s : Schedule) (e : Entry) → Latest h s e → Permitted h s e
latest_permitted h s idle p = tt
latest_permitted h s (job j) p = p.0

-- What is to be shown of two jobs, the first of which entered before the second.
abbrev InOrder : History → Schedule → ℕ → ℕ → Type 0
InOrder h s i j = Finished h s j → Finished h s i × (finish h s i ≤ finish h s j)

-- A tick that finishes no job keeps what was finished, and when.
order_past : (h : History) (s : Schedule) (e : Entry) (i j : ℕ) → j < jobs h → remaining h s j ≡ 0 → InOrder h s i j
    → Finished (tick ∷ h) (e ∷ s) i × (finish (tick ∷ h) (e ∷ s) i ≤ finish (tick ∷ h) (e ∷ s) j)
order_past h s e i j k z q =
    let f = q (k, z) in
    ((f.0.0, omega (arith, remaining_falls h s e i, f.0.1)), omega (arith, f.1, finish_past h (e ∷ s) i f.0.1, finish_past h (e ∷ s) j z))

-- A tick that finishes job j: it was the earliest present.
order_now : (h : History) (s : Schedule) (e : Entry) (i j : ℕ) → i < j → Earliest h s e → j < jobs h → 0 < remaining h s j → remaining h (e ∷ s) j ≡ 0
    → Finished (tick ∷ h) (e ∷ s) i × (finish (tick ∷ h) (e ∷ s) i ≤ finish (tick ∷ h) (e ∷ s) j)
order_now h s idle i j l r k p z = absurd (omega arith)
order_now h s (job n) i j l r k p z =
    elim (cases_eq n j) [
      | inl e ↦ let gone : remaining h s i ≡ 0 = elim (cases_lt 0 (remaining h s i)) [ inl m ↦ absurd (omega (arith, r.1 i (omega arith))) | inr m ↦ omega arith ] in
          ((omega arith, omega (arith, remaining_falls h s (job n) i)), omega (arith, finish_past h (job n ∷ s) i gone, finish_now h (job n ∷ s) j p z, finish_by_now h s i))
      | inr d ↦ absurd (omega (arith, remaining_other h s n j d))
    ]

pub first_in_first_out_lem : FirstInFirstOut
first_in_first_out_lem [] s z p i j l f = absurd (omega (arith, f.0))
first_in_first_out_lem (enter x ∷ h) s z p i j l f =
    let legal = follows_weaker Earliest Permitted earliest_permitted h s p in
    let more = length_push (sizes h) x in
    elim (cases_lt j (jobs h)) [
      | inl k ↦
          let q = first_in_first_out_lem h s (sized-before h x z) p i j l (k, sym (remaining_old h s x j k) ∙ f.1) in
          ((omega arith, remaining_old h s x i q.0.0 ∙ q.0.1), q.1)
      | inr k ↦ absurd (omega (arith, f.0, f.1, sized_last h x z, remaining_new h s x j legal (omega (arith, f.0))))
    ]
first_in_first_out_lem (tick ∷ h) [] z p i j l f = absurd p
first_in_first_out_lem (tick ∷ h) (e ∷ s) z p i j l f =
    elim (cases_lt 0 (remaining h s j)) [
      | inl m ↦ order_now h s e i j l p.1 f.0 m f.1
      | inr m ↦ order_past h s e i j f.0 (omega arith) (first_in_first_out_lem h s z p.0 i j l)
    ]
first_in_first_out_lem (lost ∷ h) [] z p i j l f = absurd p
first_in_first_out_lem (lost ∷ h) (e ∷ s) z p i j l f =
    let same : (k : ℕ) → remaining h (e ∷ s) k ≡ remaining h s k = λ k. ap (λ d. remaining h (d ∷ s) k) p.1 in
    let q = first_in_first_out_lem h s z p.0 i j l (f.0, sym (same j) ∙ f.1) in
    ((q.0.0, same i ∙ q.0.1), q.1)
