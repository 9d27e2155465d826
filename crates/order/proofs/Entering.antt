-- First come first served and last come first served, over whole runs.
use Rattle.std.proofs.Common.{◌≡◌, ℕ, ◌<◌, ◌≤◌, List, get_or, Some, sym, ◌∙◌, arith}
use Rattle.discipline.specs.declared.Discipline.{Ghosts}
use Rattle.discipline.specs.Meaning.{Move, Sound}
use Rattle.queues.specs.Rows.{first_of, last_of}
use Rattle.run.specs.declared.run.Run.{Run}
use Rattle.run.specs.States.{State, Tied}
use Rattle.run.specs.Runs.{meaning, discipline_of}
use Rattle.run.specs.Histories.{Event}
use Rattle.run.specs.Courses.{Course}
use Rattle.run.proofs.Ended.{chosen_present}
use Rattle.schedule.specs.Histories.{History}
use Rattle.schedule.specs.Schedules.{Schedule, job}
use Rattle.schedule.specs.Orders.{Earliest, Latest}
use Rattle.schedule.proofs.Orders.{earliest_permitted, latest_permitted, first_in_first_out_lem}
use Rattle.contest.specs.Transcripts.{history, own_schedule, lease_out}
use Rattle.contest.proofs.Counts.{Table}
use Rattle.contest.proofs.Keeping.{Kept}
use Rattle.order.specs.Laws.{line_of}
use Rattle.order.proofs.Rising.{first-least, last_most, present_in_row}
use Rattle.queues.specs.Disciplines.{reordered}
use Rattle.order.proofs.Serving.{kept, lined}

-- The choice is the smallest number present.
abbrev Smallest : State → Type 0
Smallest s = (j i : ℕ) → s.choice ≡ Some j → 0 < get_or s.present i 0 → j ≤ i

smallest_picks : (s : State) (h : History) (o : Schedule) (j : ℕ) → Smallest s → Tied s → Table s.present h o → s.choice ≡ Some j → Earliest h o (job j)
smallest_picks s h o j c t b e = (
  omega (arith, b j, chosen_present s.present s.choice j t.sound e),
  λ i p. c j i e (omega (arith, b i)),
)

-- The choice is the largest number present.
abbrev pub Largest : State → Type 0
Largest s = (j i : ℕ) → s.choice ≡ Some j → 0 < get_or s.present i 0 → i ≤ j

largest_picks : (s : State) (h : History) (o : Schedule) (j : ℕ) → Largest s → Tied s → Table s.present h o → s.choice ≡ Some j → Latest h o (job j)
largest_picks s h o j c t b e = (
  omega (arith, b j, chosen_present s.present s.choice j t.sound e),
  λ i p. c j i e (omega (arith, b i)),
)

module _ {D : Type 0} (d : Ghosts D) (sound : (x : D) → Sound (d.present x) (d.choice x)) (m : ℕ)
    (row : D → List ℕ) (moves : (v : Move) (x y : D) → d.moves v x y → row y ≡ reordered v (row x)) where
  module _ (front : (x : D) → d.choice x ≡ first_of (row x)) where
    smallest : (es : List Event) (r : Run D d) → Course d m es r → Smallest (meaning d r)
    smallest es r x j i e l =
        let q = lined d sound m row moves x in
        first-least (row (discipline_of r)) j i q.rising (sym (front (discipline_of r)) ∙ e)
        (present_in_row (row (discipline_of r)) (meaning d r).present (meaning d r).book.entered i q l)

    pub by_earliest : {es : List Event} {r : Run D d} → Course d m es r → Kept Earliest m (history es) (own_schedule es) (lease_out es) (meaning d r)
    by_earliest x = kept d sound m Earliest earliest_permitted (λ h o n. n) Smallest smallest smallest_picks x

    pub finish_in_order : {es : List Event} {r : Run D d} → Course d m es r
        → (i j : ℕ) → i < j → j < r.book.entered → (line_of r j).left ≡ 0 → ((line_of r i).left ≡ 0) × ((line_of r i).finish ≤ (line_of r j).finish)
    finish_in_order {es = es} {r = r} x i j l k e =
        let q = by_earliest x in
        let a = q.booked i (omega (arith, q.entered)) in
        let b = q.booked j (omega (arith, q.entered)) in
        let f = first_in_first_out_lem (history es) (own_schedule es) q.sized q.follows i j l (omega (arith, q.entered), sym b.remains ∙ e) in
        (a.remains ∙ f.0.1, omega (arith, f.1, a.finishes, b.finishes))

  module _ (end : (x : D) → d.choice x ≡ last_of (row x)) where
    pub largest : (es : List Event) (r : Run D d) → Course d m es r → Largest (meaning d r)
    largest es r x j i e l =
        let q = lined d sound m row moves x in
        last_most (row (discipline_of r)) j i q.rising (sym (end (discipline_of r)) ∙ e)
        (present_in_row (row (discipline_of r)) (meaning d r).present (meaning d r).book.entered i q l)

    pub by_latest : {es : List Event} {r : Run D d} → Course d m es r → Kept Latest m (history es) (own_schedule es) (lease_out es) (meaning d r)
    by_latest x = kept d sound m Latest latest_permitted (λ h o n. n) Largest largest largest_picks x
