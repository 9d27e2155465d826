-- Runs over a discipline that keeps the jobs in a row in the order of entry, and whom they serve.
use Rattle.std.proofs.Common.{◌≡◌, ℕ, ◌-◌, List, [], ◌∷◌, ◌++◌, get_or, Some, None, Ok, Err, sym, refl, ap, ◌∙◌, subst, arith}
use Rattle.job.proofs.Sizes.{size_low}
use Rattle.discipline.specs.declared.Discipline.{Ghosts}
use Rattle.discipline.specs.Meaning.{Move, cleared, admitted, worked, Sound}
use Rattle.queues.specs.Rows.{leaves}
use Rattle.queues.specs.Disciplines.{reordered}
use Rattle.queues.proofs.Admitted.{none_once}
use Rattle.run.specs.declared.run.Run.{Run}
use Rattle.run.specs.States.{State, Tied}
use Rattle.run.specs.Runs.{meaning, discipline_of}
use Rattle.run.specs.Histories as H
use Rattle.run.specs.Histories.{Event, Step, Reaches}
use Rattle.run.specs.Courses.{Course, Conducts, made, called}
use Rattle.run.proofs.Ended.{present_below}
use Rattle.run.proofs.Accepting.{enter_ok, done_ok, next_empty}
use Rattle.run.proofs.Tying.{tied_run}
use Rattle.schedule.specs.Histories.{History}
use Rattle.schedule.specs.Schedules.{Schedule, Entry, job, idle, Nobody, Rule, Permitted}
use Rattle.contest.specs.Transcripts.{history, own_schedule, lease_out}
use Rattle.contest.proofs.Counts.{Table}
use Rattle.contest.proofs.Keeping.{Kept, step_kept, made_kept}
use Rattle.order.proofs.Rising.{Lined, lined_enter, lined_done}

module _ {D : Type 0} (d : Ghosts D) (sound : (x : D) → Sound (d.present x) (d.choice x)) (m : ℕ) where
  -- a course is a chain of steps
  pub reaches : {es : List Event} {r : Run D d} → Course d m es r → Reaches m es (meaning d r)
  reaches (made x r e c) = subst (λ (s : State). Reaches m [] s) (sym e) (H.made (subst (λ (s : State). Sound s.present s.choice) e (sound r.discipline)))
  reaches (called r' x p c) = H.more (reaches x) p (sound r'.discipline)

  -- what holds at every point of a course of a discipline whose choice keeps a rule of service
  module _ (R : Rule) (permits : (h : History) (o : Schedule) (e : Entry) → R h o e → Permitted h o e) (rests : (h : History) (o : Schedule) → Nobody h o → R h o idle)
      (C : State → Type 0) (chosen : (es : List Event) (r : Run D d) → Course d m es r → C (meaning d r))
      (picks : (s : State) (h : History) (o : Schedule) (j : ℕ) → C s → Tied s → Table s.present h o → s.choice ≡ Some j → R h o (job j)) where
    pub kept : {es : List Event} {r : Run D d} → Course d m es r → Kept R m (history es) (own_schedule es) (lease_out es) (meaning d r)
    kept (made x r e c) = subst (λ (s : State). Kept R m [] [] None s) (sym e) (made_kept R permits rests m C picks)
    kept (called {es = es} {e = e} {r = r} r' x p c) = step_kept R permits rests m C picks e es (meaning d r) (meaning d r') (tied_run d sound r) (chosen es r x) (kept x) p

  -- the row of a discipline that keeps the order of entry
  module _ (row : D → List ℕ) (moves : (v : Move) (x y : D) → d.moves v x y → row y ≡ reordered v (row x)) where
    abbrev InRow : Run D d → Type 0
    InRow r = Lined (row (discipline_of r)) (meaning d r).present (meaning d r).book.entered

    abbrev At : List ℕ → State → Type 0
    At xs s = Lined xs s.present s.book.entered

    same : (r r' : Run D d) → InRow r → discipline_of r' ≡ discipline_of r → (meaning d r').book.entered ≡ (meaning d r).book.entered → InRow r'
    same r r' q e f = subst (λ (n : ℕ). Lined (row (discipline_of r')) (meaning d r').present n) (sym f)
        (subst (λ (x : D). Lined (row x) (d.present x) (meaning d r).book.entered) (sym e) q)

    step_lined : (e : Event) (r r' : Run D d) → Tied (meaning d r) → InRow r → Step e (meaning d r) (meaning d r') → Conducts d e r r' → InRow r'
    step_lined (H.enter n z (Ok k)) r r' t q p c =
        let s = meaning d r in
        let a = enter_ok s n z k p.answers in
        let next : row (discipline_of r') ≡ row (discipline_of r) ++ s.book.entered ∷ []
        = moves (admitted k z) (discipline_of r) (discipline_of r') c.0 ∙ ap (λ i. row (discipline_of r) ++ i ∷ []) a.number in
        subst (λ (xs : List ℕ). At xs (meaning d r')) (sym next)
        (subst (λ (s' : State). At (row (discipline_of r) ++ s.book.entered ∷ []) s') (sym p.leaves)
        (lined_enter (row (discipline_of r)) s.present s.book.entered q z (omega (arith, a.room, t.sound.long)) (next_empty s t) (size_low z a.size)))
    step_lined (H.enter n z (Err x)) r r' t q p c = same r r' q c.1 (ap (λ (s : State). s.book.entered) p.leaves)
    step_lined (H.take (Ok l)) r r' t q p c = same r r' q c (ap (λ (s : State). s.book.entered) p.leaves)
    step_lined (H.take (Err x)) r r' t q p c = same r r' q c (ap (λ (s : State). s.book.entered) p.leaves)
    step_lined (H.done l (Ok u)) r r' t q p c =
        let s = meaning d r in
        let a = done_ok s l u t p.answers in
        let v = get_or s.present l.job 0 - 1 in
        subst (λ (xs : List ℕ). At xs (meaning d r')) (sym (moves (worked l.job v) (discipline_of r) (discipline_of r') c.0))
        (subst (λ (s' : State). At (leaves l.job v (row (discipline_of r))) s') (sym p.leaves)
        (lined_done (row (discipline_of r)) s.present s.book.entered q l.job v
        (omega (arith, t.sound.long, present_below s.present l.job t.sound.long a.here)) a.here))
    step_lined (H.done l (Err x)) r r' t q p c = same r r' q c.1 (ap (λ (s : State). s.book.entered) p.leaves)
    step_lined (H.back l (Ok u)) r r' t q p c = same r r' q c (ap (λ (s : State). s.book.entered) p.leaves)
    step_lined (H.back l (Err x)) r r' t q p c = same r r' q c (ap (λ (s : State). s.book.entered) p.leaves)
    step_lined (H.pass (Ok u)) r r' t q p c = same r r' q c (ap (λ (s : State). s.book.entered) p.leaves)
    step_lined (H.pass (Err x)) r r' t q p c = same r r' q c (ap (λ (s : State). s.book.entered) p.leaves)

    pub lined : {es : List Event} {r : Run D d} → Course d m es r → InRow r
    lined (made x r e c) =
        let empty = moves cleared x (discipline_of r) c in
        let none = ap (λ (s : State). s.present) e in
        subst (λ (xs : List ℕ). At xs (meaning d r)) (sym empty)
        (record { once = none_once (meaning d r).present [] none refl; rising = tt; below = λ k l. absurd (omega arith) })
    lined (called {e = e} {r = r} r' x p c) = step_lined e r r' (tied_run d sound r) (lined x) p c
