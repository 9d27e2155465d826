-- A run keeps to its history and its own schedule, call by call.
use Rattle.std.proofs.Common.{◌≡◌, ℕ, ◌<◌, max, Bool, true, false, ◌&&◌, eqb, List, [], ◌∷◌, get_or, Some, None, Ok, Err, Option, sym, refl, ap, ◌∙◌, subst, inl, inr, arith}
use Rattle.std.proofs.lemmas.Bool.Decides.{nat_tests}
use Rattle.std.proofs.lemmas.List.{length_push, get_or_push, get_or_append_left}
use Rattle.std.proofs.lemmas.Bool.{cases_lt}
use Rattle.job.specs.Rules.{good_size}
use Rattle.job.specs.Names.{name_of}
use Rattle.discipline.specs.Meaning.{count_present}
use Rattle.discipline.proofs.Admitted.{zero_at}
use Rattle.run.specs.declared.accounts.Accounts.{Accounts}
use Rattle.run.specs.declared.lease.Lease.{Lease}
use Rattle.run.specs.Lines.{unused}
use Rattle.run.specs.States.{State, Tied}
use Rattle.run.specs.Steps.{is_free, is_out_on, made_with, enter_after, take_after, done_after, idled}
use Rattle.run.specs.Histories.{Event, enter, take, done, back, pass, Step}
use Rattle.run.proofs.Keeping.{lefts_at}
use Rattle.run.proofs.Ended.{present_below}
use Rattle.run.proofs.Reached.{lines_long}
use Rattle.run.proofs.Accepting.{enter_ok, take_ok, done_ok, pass_ok}
use Rattle.schedule.specs.Histories as S
use Rattle.schedule.specs.Histories.{History, sizes, jobs, ticks, Sized}
use Rattle.schedule.specs.Schedules.{Schedule, Entry, job, idle, Nobody, Rule, Follows, Permitted, Legal}
use Rattle.schedule.specs.Occupancy.{occupancy, occupancy_total, peak}
use Rattle.schedule.proofs.Following.{follows_weaker}
use Rattle.contest.specs.Transcripts.{history, own_schedule, lease_out}
use Rattle.contest.proofs.Counts.{none_counted, Table, table_count, table_enter, table_worked}
use Rattle.contest.proofs.Lines.{Booked, booked_enter, booked_worked, booked_empty, booked_lost}

-- The lease k is the one that the accounts have out, and its job keeps the rule of service R.
abbrev pub Held : Rule → History → Schedule → Accounts → Option ℕ → Option Lease → Type 0
Held R h o a None k = k ≡ None
Held R h o a (Some j) k = (k ≡ Some (record { mark = a.mark; tick = a.clock; job = j })) × R h o (job j)

-- What a run made with mark m keeps, after the history h under its own schedule o, with the lease k out.
pub record Kept (R : Rule) (m : ℕ) (h : History) (o : Schedule) (k : Option Lease) (s : State) : Type 0 where
  pub table : Table s.present h o
  pub follows : Follows R h o
  pub sized : Sized h
  pub entered : s.book.entered ≡ jobs h
  pub booked : Booked h o s.book.lines
  pub time : s.accounts.clock ≡ ticks h
  pub total : s.accounts.total ≡ occupancy_total h o
  pub most : s.accounts.most ≡ peak h o
  pub marked : s.accounts.mark ≡ m
  pub held : Held R h o s.accounts s.accounts.lease k

-- ---- the lease

free_held : (R : Rule) (h h' : History) (o o' : Schedule) (a : Accounts) (w : Option ℕ) (k : Option Lease) → is_free w ≡ true → Held R h o a w k → Held R h' o' a w k
free_held R h h' o o' a None k f e = e
free_held R h h' o o' a (Some j) k f e = let z : ◌≡◌ {A = ℕ} 0 1 = cc in absurd (omega arith)

free_none : (R : Rule) (h : History) (o : Schedule) (a : Accounts) (w : Option ℕ) (k : Option Lease) → is_free w ≡ true → Held R h o a w k → k ≡ None
free_none R h o a None k f e = e
free_none R h o a (Some j) k f e = let z : ◌≡◌ {A = ℕ} 0 1 = cc in absurd (omega arith)

-- the job of a lease that is handed in and accepted keeps the rule
held-rule : (R : Rule) (h : History) (o : Schedule) (a : Accounts) (w : Option ℕ) (k : Option Lease) (b c : Bool) (j : ℕ)
    → Held R h o a w k → (b && (c && is_out_on w j)) ≡ true → R h o (job j)
held-rule R h o a None k b c j e q = absurd (let z : (b && (c && false)) ≡ true = q in grind (arith, nat_tests))
held-rule R h o a (Some i) k b c j e q = let f : i ≡ j = grind (arith, nat_tests) in subst (λ n. R h o (job n)) f e.1

-- ---- sizes

size_some : (z : ℕ) → good_size z ≡ true → 0 < z
size_some z e = grind (arith, nat_tests)

sized_more : (h : History) (z : ℕ) → 0 < z → Sized h → Sized (S.enter z ∷ h)
sized_more h z p q j l =
    elim (cases_lt j (jobs h)) [
      | inl k ↦ omega (arith, q j k, get_or_append_left (sizes h) (z ∷ []) 0 j k)
      | inr k ↦ omega (arith, get_or_push (sizes h) z 0 j (omega (arith, length_push (sizes h) z)))
    ]

-- the leased job's line has work left
line_left : (s : State) (j : ℕ) → Tied s → 0 < get_or s.present j 0 → 0 < (get_or s.book.lines j unused).left
line_left s j t p = omega (arith, ap (λ (xs : List ℕ). get_or xs j 0) t.agrees ∙ lefts_at s.book.lines j)

-- ---- a rule of service that names only present jobs, and idles where nobody is present

module _ (R : Rule) (permits : (h : History) (o : Schedule) (e : Entry) → R h o e → Permitted h o e)
    (rests : (h : History) (o : Schedule) → Nobody h o → R h o idle) where
  pub kept_legal : (h : History) (o : Schedule) → Follows R h o → Legal h o
  kept_legal h o f = follows_weaker R Permitted permits h o f

  module _ (m : ℕ) (h : History) (o : Schedule) (k : Option Lease) (s : State) (t : Tied s) (q : Kept R m h o k s) where
    same_kept : (s' : State) → s' ≡ s → Kept R m h o k s'
    same_kept s' e = subst (λ (x : State). Kept R m h o k x) (sym e) q

    counted : count_present s.present ≡ occupancy h o
    counted = table_count s.present h o q.table

    enter_kept : (n : List ℕ) (z : ℕ) (c : Option ℕ) → good_size z ≡ true → is_free s.accounts.lease ≡ true → s.book.entered < 1024
        → Kept R m (S.enter z ∷ h) o k (enter_after s n z c)
    enter_kept n z c g f l =
        let p = kept_legal h o q.follows in
        let room = lines_long s t in
        record {
          table = table_enter s.present h o s.book.entered z p q.entered (omega (arith, t.sound.long)) q.table;
          follows = q.follows;
          sized = sized_more h z (size_some z g) q.sized;
          entered = omega (arith, q.entered, length_push (sizes h) z);
          booked = booked_enter h o s.book.lines (name_of n) s.accounts.clock z s.book.entered p q.entered (omega arith) q.time q.booked;
          time = q.time;
          total = q.total;
          most = q.most;
          marked = q.marked;
          held = free_held R h (S.enter z ∷ h) o o s.accounts s.accounts.lease k f q.held;
        }

    take_kept : (l : Lease) → l ≡ record { mark = s.accounts.mark; tick = s.accounts.clock; job = l.job } → R h o (job l.job)
        → Kept R m h o (Some l) (take_after s (Ok l))
    take_kept l e r = record {
      table = q.table;
      follows = q.follows;
      sized = q.sized;
      entered = q.entered;
      booked = q.booked;
      time = q.time;
      total = q.total;
      most = q.most;
      marked = q.marked;
      held = (ap Some e, r);
    }

    done_kept : (j : ℕ) (c : Option ℕ) → R h o (job j) → 0 < get_or s.present j 0 → Kept R m (S.tick ∷ h) (job j ∷ o) None (done_after s j c)
    done_kept j c r l =
        let p = kept_legal h o q.follows in
        let b = present_below s.present j t.sound.long l in
        let room = lines_long s t in
        record {
          table = table_worked s.present h o j (omega (arith, t.sound.long)) q.table;
          follows = (q.follows, r);
          sized = q.sized;
          entered = q.entered;
          booked = booked_worked h o s.book.lines j s.accounts.clock p (omega arith) (line_left s j t l) q.time q.booked;
          time = omega (arith, q.time);
          total = omega (arith, q.total, counted);
          most = ap (λ n. max s.accounts.most n) counted ∙ ap (λ n. max n (occupancy h o)) q.most;
          marked = q.marked;
          held = refl;
        }

    back_kept : Kept R m (S.lost ∷ h) (idle ∷ o) None (idled s)
    back_kept = record {
      table = q.table;
      follows = (q.follows, refl);
      sized = q.sized;
      entered = q.entered;
      booked = booked_lost h o s.book.lines q.booked;
      time = omega (arith, q.time);
      total = omega (arith, q.total, counted);
      most = ap (λ n. max s.accounts.most n) counted ∙ ap (λ n. max n (occupancy h o)) q.most;
      marked = q.marked;
      held = refl;
    }

    pass_kept : is_free s.accounts.lease ≡ true → count_present s.present ≡ 0 → Kept R m (S.tick ∷ h) (idle ∷ o) k (idled s)
    pass_kept f e = record {
      table = q.table;
      follows = (q.follows, rests h o (λ i p. omega (arith, q.table i, none_counted s.present e i)));
      sized = q.sized;
      entered = q.entered;
      booked = booked_empty h o s.book.lines q.booked;
      time = omega (arith, q.time);
      total = omega (arith, q.total, counted);
      most = ap (λ n. max s.accounts.most n) counted ∙ ap (λ n. max n (occupancy h o)) q.most;
      marked = q.marked;
      held = free_none R h o s.accounts s.accounts.lease k f q.held;
    }

  -- every call keeps all of it, where the choice keeps the rule
  module _ (m : ℕ) (C : State → Type 0)
      (picks : (s : State) (h : History) (o : Schedule) (j : ℕ) → C s → Tied s → Table s.present h o → s.choice ≡ Some j → R h o (job j)) where
    pub step_kept : (e : Event) (es : List Event) (s s' : State) → Tied s → C s → Kept R m (history es) (own_schedule es) (lease_out es) s → Step e s s'
        → Kept R m (history (e ∷ es)) (own_schedule (e ∷ es)) (lease_out (e ∷ es)) s'
    step_kept (enter n z (Ok i)) es s s' t c q p =
        let a = enter_ok s n z i p.answers in
        subst (λ (x : State). Kept R m (S.enter z ∷ history es) (own_schedule es) (lease_out es) x) (sym p.leaves)
        (enter_kept m (history es) (own_schedule es) (lease_out es) s t q n z s'.choice a.size a.free a.room)
    step_kept (enter n z (Err x)) es s s' t c q p = same_kept m (history es) (own_schedule es) (lease_out es) s t q s' p.leaves
    step_kept (take (Ok l)) es s s' t c q p =
        let a = take_ok s l p.answers in
        subst (λ (x : State). Kept R m (history es) (own_schedule es) (Some l) x) (sym p.leaves)
        (take_kept m (history es) (own_schedule es) (lease_out es) s t q l a.given (picks s (history es) (own_schedule es) l.job c t q.table a.chosen))
    step_kept (take (Err x)) es s s' t c q p = same_kept m (history es) (own_schedule es) (lease_out es) s t q s' p.leaves
    step_kept (done l (Ok u)) es s s' t c q p =
        let a = done_ok s l u t p.answers in
        subst (λ (x : State). Kept R m (S.tick ∷ history es) (job l.job ∷ own_schedule es) None x) (sym p.leaves)
        (done_kept m (history es) (own_schedule es) (lease_out es) s t q l.job s'.choice
        (held-rule R (history es) (own_schedule es) s.accounts s.accounts.lease (lease_out es) (eqb s.accounts.mark l.mark) (eqb s.accounts.clock l.tick) l.job q.held a.ours)
        a.here)
    step_kept (done l (Err x)) es s s' t c q p = same_kept m (history es) (own_schedule es) (lease_out es) s t q s' p.leaves
    step_kept (back l (Ok u)) es s s' t c q p =
        subst (λ (x : State). Kept R m (S.lost ∷ history es) (idle ∷ own_schedule es) None x) (sym p.leaves)
        (back_kept m (history es) (own_schedule es) (lease_out es) s t q)
    step_kept (back l (Err x)) es s s' t c q p = same_kept m (history es) (own_schedule es) (lease_out es) s t q s' p.leaves
    step_kept (pass (Ok u)) es s s' t c q p =
        let a = pass_ok s u p.answers in
        subst (λ (x : State). Kept R m (S.tick ∷ history es) (idle ∷ own_schedule es) (lease_out es) x) (sym p.leaves)
        (pass_kept m (history es) (own_schedule es) (lease_out es) s t q a.free a.nobody)
    step_kept (pass (Err x)) es s s' t c q p = same_kept m (history es) (own_schedule es) (lease_out es) s t q s' p.leaves

    pub made_kept : Kept R m [] [] None (made_with m)
    made_kept = record {
      table = λ j. zero_at j;
      follows = tt;
      sized = λ j l. absurd (omega arith);
      entered = refl;
      booked = λ j l. absurd (omega arith);
      time = refl;
      total = refl;
      most = refl;
      marked = refl;
      held = refl;
    }
