-- Every run is tied: the jobs present are the lines with left above 0. And so is every state that calls lead to.
use Rattle.std.proofs.Common.{◌≡◌, ℕ, ◌-◌, ◌<◌, ◌≤◌, true, ◌≢◌, List, get_or, set, replicate, Some, None, Ok, Err, Option, sym, refl, ap, ◌∙◌, subst, arith}
use lib.LanesLaws.{map-replicate}
use Rattle.std.proofs.lemmas.List.{map-set, get_or-set_other}
use Rattle.discipline.specs.Meaning.{Sound}
use Rattle.discipline.proofs.Admitted.{zero_at}
use Rattle.run.specs.declared.book.Book.{Book}
use Rattle.run.specs.declared.accounts.Accounts.{Accounts}
use Rattle.run.specs.declared.line.Line.{Line}
use Rattle.job.specs.Names.{name_of}
use Rattle.run.specs.Lines.{unused, lefts, new_line, worked_line}
use Rattle.run.specs.States.{State, Tied, Leased}
use Rattle.run.specs.Steps.{is_free, blank_book, enter_after, done_after, idled, made_with}
use Rattle.run.specs.Histories.{Event, enter, take, done, back, pass, Step}
use Rattle.run.specs.Kept.{lease_kept}
use Rattle.run.specs.declared.run.Run.{Run}
use Rattle.run.specs.Runs.{meaning}
use Rattle.discipline.specs.declared.Discipline.{Ghosts}
use Rattle.std.proofs.lemmas.Bool.Decides.{nat_tests}
use Rattle.run.proofs.Keeping.{at_set, blank_at, lefts_worked, rest_unused}
use Rattle.run.proofs.Ended.{chosen_present}
use Rattle.run.proofs.Accepting.{enter_ok, take_ok}

-- no job is leased while the run is free
free_leased : (o : Option ℕ) (p : List ℕ) → is_free o ≡ true → Leased o p
free_leased None p e = tt
free_leased (Some j) p e = let z : ◌≡◌ {A = ℕ} 0 1 = cc in absurd (omega arith)

enter_tied : (s : State) (n : List ℕ) (z : ℕ) (c : Option ℕ) → Tied s → is_free s.accounts.lease ≡ true → Sound (enter_after s n z c).present c → Tied (enter_after s n z c)
enter_tied s n z c t free k =
    let ls = s.book.lines in
    let e = s.book.entered in
    let l = new_line (name_of n) s.accounts.clock z in
    record {
      agrees = ap (λ (p : List ℕ). set p e z) t.agrees ∙ sym (map-set (λ (x : Line). x.left) ls e l);
      rest = λ i le. let ne : i ≢ e = omega arith in get_or-set_other ls e i l unused ne ∙ t.rest i (omega arith);
      leased = free_leased s.accounts.lease (set s.present e z) free;
      sound = k;
    }

done_tied : (s : State) (j : ℕ) (c : Option ℕ) → Tied s → Sound (done_after s j c).present c → Tied (done_after s j c)
done_tied s j c t k =
    let ls = s.book.lines in
    let time = s.accounts.clock in
    record {
      agrees = ap (λ (p : List ℕ). set p j (get_or p j 0 - 1)) t.agrees ∙ sym (lefts_worked ls j time);
      rest = λ i le.
          at_set ls j i (worked_line (get_or ls j unused) time) (λ m l. s.book.entered ≤ m → l ≡ unused)
          (λ past. ap (λ (l : Line). worked_line l time) (t.rest j past))
          (λ m past. t.rest m past)
          le;
      leased = tt;
      sound = k;
    }

idle_tied : (s : State) → Tied s → Tied (idled s)
idle_tied s t = record { agrees = t.agrees; rest = t.rest; leased = tt; sound = t.sound }

abbrev to : {s : State} (s' : State) → s' ≡ s → Tied s → Tied s'
to s' e t = subst (λ x. Tied x) (sym e) t

abbrev sound_at : {s' : State} (s : State) → s' ≡ s → Sound s'.present s'.choice → Sound s.present s.choice
sound_at s e k = subst (λ (x : State). Sound x.present x.choice) e k

pub step_tied : (e : Event) (s s' : State) → Tied s → Step e s s' → Sound s'.present s'.choice → Tied s'
step_tied (enter n z (Ok k)) s s' t h q =
    to s' h.leaves (enter_tied s n z s'.choice t (enter_ok s n z k h.answers).free (sound_at (enter_after s n z s'.choice) h.leaves q))
step_tied (enter n z (Err x)) s s' t h q = to s' h.leaves t
step_tied (take (Ok l)) s s' t h q =
    to s' h.leaves (record { agrees = t.agrees; rest = t.rest; leased = chosen_present s.present s.choice l.job t.sound (take_ok s l h.answers).chosen; sound = t.sound })
step_tied (take (Err x)) s s' t h q = to s' h.leaves t
step_tied (done l (Ok u)) s s' t h q = to s' h.leaves (done_tied s l.job s'.choice t (sound_at (done_after s l.job s'.choice) h.leaves q))
step_tied (done l (Err x)) s s' t h q = to s' h.leaves t
step_tied (back l (Ok u)) s s' t h q = to s' h.leaves (idle_tied s t)
step_tied (back l (Err x)) s s' t h q = to s' h.leaves t
step_tied (pass (Ok u)) s s' t h q = to s' h.leaves (idle_tied s t)
step_tied (pass (Err x)) s s' t h q = to s' h.leaves t

pub blank_lefts : lefts blank_book.lines ≡ replicate 1024 0
blank_lefts = map-replicate (λ (x : Line). x.left) 1024 unused

pub made_tied : (m : ℕ) → Sound (made_with m).present (made_with m).choice → Tied (made_with m)
made_tied m h = record { agrees = sym blank_lefts; rest = λ k le. blank_at k; leased = tt; sound = h }

-- ---- making

-- a discipline with nobody present chooses nobody
pub nobody : (p : List ℕ) (c : Option ℕ) → Sound p c → p ≡ replicate 1024 0 → c ≡ None
nobody p None s e = refl
nobody p (Some j) s e = let z : get_or p j 0 ≡ 0 = ap (λ (xs : List ℕ). get_or xs j 0) e ∙ zero_at j in let h : 0 < get_or p j 0 = s.chosen in absurd (omega arith)

pub made_state : (p : List ℕ) (c : Option ℕ) (b : Book) (a : Accounts) → p ≡ replicate 1024 0 → c ≡ None → b ≡ blank_book
    → ◌≡◌ {A = State} (record { present = p; choice = c; book = b; accounts = a }) (record { present = replicate 1024 0; choice = None; book = blank_book; accounts = a })
made_state p c b a e f h = cc

-- ---- a run, by its type

-- no job is leased while the run is free
pub free_held : (o : Option ℕ) (p : List ℕ) (c : ℕ) → is_free o ≡ true → lease_kept o p c ≡ true
free_held None p c f = refl
free_held (Some j) p c f = let z : ◌≡◌ {A = ℕ} 0 1 = cc in absurd (omega arith)

leased_by : (o : Option ℕ) (p : List ℕ) (c : ℕ) → lease_kept o p c ≡ true → Leased o p
leased_by None p c h = tt
leased_by (Some j) p c h = grind (arith, nat_tests)

pub tied_run : {D : Type 0} (d : Ghosts D) → ((x : D) → Sound (d.present x) (d.choice x)) → (r : Run D d) → Tied (meaning d r)
tied_run d sound r = record {
  agrees = r.agrees;
  rest = λ k le. rest_unused r.book.entered r.accounts.clock k (get_or r.book.lines k unused) le (r.lines k);
  leased = leased_by r.accounts.lease (d.present r.discipline) r.accounts.clock r.held;
  sound = sound r.discipline;
}
