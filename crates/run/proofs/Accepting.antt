-- What an accepted call says of the run, and that its discipline then takes part.
use Rattle.std.proofs.Common.{◌≡◌, ℕ, ◌-◌, ◌<◌, Bool, true, false, cond, ◌&&◌, eqb, ltb, leb, List, get_or, Some, None, Ok, Err, Option, Result, sym, refl, ap, ◌∙◌, subst, arith}
use Rattle.std.proofs.lemmas.Bool.Decides.{nat_tests}
use Rattle.std.proofs.lemmas.Bool.{ltb-true, eqb-true}
use Rattle.refusal.specs.declared.Refusal.{Refusal}
use Rattle.refusal.specs.declared.Refusal.TheVariants.{Size, Name, LeaseOut, BookFull, ClockEnd, Nobody, Somebody, NotTheLease}
use Rattle.refusal.specs.Answers.{provided}
use Rattle.refusal.proofs.Accepted.{ok_not_err, provided_ok}
use Rattle.job.specs.declared.name.Name.{Name as JobName}
use Rattle.job.specs.Rules.{good_size, good_name}
use Rattle.job.specs.Names.{name_of, spelled}
use Rattle.discipline.specs.Meaning.{admit_answer, worked_answer, count_present}
use Rattle.run.specs.declared.accounts.Accounts.{Accounts}
use Rattle.run.specs.declared.lease.Lease.{Lease}
use Rattle.run.specs.States.{State, Tied, Leased}
use Rattle.run.specs.Steps.{is_free, is_out_on, is_the_lease, before_end, enter_rule, lease_on, take_answer, giving_back, hand_rule, done_rule, pass_answer}
use Rattle.run.proofs.Keeping.{lefts_at}

-- ---- enter

pub record EnterAccepted (s : State) (n : List ℕ) (z k : ℕ) : Type 0 where
  pub size : good_size z ≡ true
  pub name : good_name n ≡ true
  pub free : is_free s.accounts.lease ≡ true
  pub room : s.book.entered < 1024
  pub number : k ≡ s.book.entered

same_ok : (k n : ℕ) → ◌≡◌ {A = Result ℕ Refusal} (Ok k) (Ok n) → k ≡ n
same_ok k n e = cc

pub enter_ok : (s : State) (n : List ℕ) (z k : ℕ) → Ok k ≡ enter_rule s n z → EnterAccepted s n z k
enter_ok s n z k e =
    let full = provided (ltb s.book.entered 1024) BookFull (Ok s.book.entered) in
    let free = provided (is_free s.accounts.lease) LeaseOut full in
    let a = provided_ok (good_size z) Size (provided (good_name n) Name free) k e in
    let b = provided_ok (good_name n) Name free k a.1 in
    let c = provided_ok (is_free s.accounts.lease) LeaseOut full k b.1 in
    let d = provided_ok (ltb s.book.entered 1024) BookFull (Ok s.book.entered) k c.1 in
    record { size = a.0; name = b.0; free = c.0; room = ltb-true s.book.entered 1024 d.0; number = same_ok k s.book.entered d.1 }

-- the next line of a tied run has no work left
pub next_empty : (s : State) → Tied s → get_or s.present s.book.entered 0 ≡ 0
next_empty s t =
    ap (λ (p : List ℕ). get_or p s.book.entered 0) t.agrees
    ∙ lefts_at s.book.lines s.book.entered
    ∙ ap (λ l. l.left) (t.rest s.book.entered (omega arith))

admit_by : (p : List ℕ) (n z : ℕ) → n < 1024 → good_size z ≡ true → get_or p n 0 ≡ 0 → admit_answer p n z ≡ Ok tt
admit_by p n z l g e =
    let a : leb n 1023 ≡ true = grind (arith, nat_tests) in
    let b : eqb (get_or p n 0) 0 ≡ true = grind (arith, nat_tests) in
    rw (a, g, b) refl

-- the discipline of a tied run takes the next job in
pub admits : (s : State) (n : List ℕ) (z k : ℕ) → Tied s → Ok k ≡ enter_rule s n z → admit_answer s.present s.book.entered z ≡ Ok tt
admits s n z k t e = let h = enter_ok s n z k e in admit_by s.present s.book.entered z h.room h.size (next_empty s t)

-- a name that was made is good
pub made_good : (bs : List ℕ) (w : JobName) → Some w ≡ cond (good_name bs) (Some (name_of bs)) None → spelled w ≡ bs → good_name (spelled w) ≡ true
made_good bs w e f = ap good_name f ∙ by (good_name bs) e
  where
    by : (b : Bool) → Some w ≡ cond b (Some (name_of bs)) None → b ≡ true
    by true e = refl
    by false e = let z : ◌≡◌ {A = ℕ} 0 1 = cc in absurd (omega arith)

-- ---- take

pub record TakeAccepted (s : State) (l : Lease) : Type 0 where
  pub free : is_free s.accounts.lease ≡ true
  pub time : s.accounts.clock < 16777215
  pub chosen : s.choice ≡ Some l.job
  pub given : l ≡ record { mark = s.accounts.mark; tick = s.accounts.clock; job = l.job }

lease_choice : (a : Accounts) (c : Option ℕ) (l : Lease) → Ok l ≡ lease_on a c → (c ≡ Some l.job) × (l ≡ record { mark = a.mark; tick = a.clock; job = l.job })
lease_choice a None l e = absurd (ok_not_err l Nobody e)
lease_choice a (Some j) l e =
    let f : ◌≡◌ {A = Lease} l (record { mark = a.mark; tick = a.clock; job = j }) = cc in
    let g : l.job ≡ j = ap (λ (x : Lease). x.job) f in
    (ap Some (sym g), f ∙ ap (λ (i : ℕ). record { mark = a.mark; tick = a.clock; job = i }) (sym g))

pub take_ok : (s : State) (l : Lease) → Ok l ≡ take_answer s → TakeAccepted s l
take_ok s l e =
    let lease = lease_on s.accounts s.choice in
    let a = provided_ok (is_free s.accounts.lease) LeaseOut (provided (before_end s.accounts) ClockEnd lease) l e in
    let b = provided_ok (before_end s.accounts) ClockEnd lease l a.1 in
    let c = lease_choice s.accounts s.choice l b.1 in
    record { free = a.0; time = ltb-true s.accounts.clock 16777215 b.0; chosen = c.0; given = c.1 }

-- ---- done and back

given_ok : {T : Type 0} (l : Lease) (q : Result T Refusal) (u : Unit {0}) → Ok u ≡ giving_back l q → (x : T) × (Ok x ≡ q)
given_ok l (Ok x) u e = (x, refl)
given_ok l (Err x) u e = absurd (ok_not_err u (x, l) e)

pub hand_ok : (s : State) (l : Lease) (u : Unit {0}) → Ok u ≡ done_rule s l → is_the_lease s.accounts l.mark l.tick l.job ≡ true
hand_ok s l u e = let g = given_ok l (hand_rule s l) u e in (provided_ok (is_the_lease s.accounts l.mark l.tick l.job) NotTheLease (Ok tt) g.0 g.1).0

on_job : (o : Option ℕ) (p : List ℕ) (x y : Bool) (j : ℕ) → (x && (y && is_out_on o j)) ≡ true → Leased o p → 0 < get_or p j 0
on_job None p x y j e h = absurd (let z : (x && (y && false)) ≡ true = e in grind (arith, nat_tests))
on_job (Some i) p x y j e h = let f : i ≡ j = grind (arith, nat_tests) in subst (λ k. 0 < get_or p k 0) f h

pub record DoneAccepted (s : State) (l : Lease) : Type 0 where
  pub ours : is_the_lease s.accounts l.mark l.tick l.job ≡ true
  pub here : 0 < get_or s.present l.job 0

pub done_ok : (s : State) (l : Lease) (u : Unit {0}) → Tied s → Ok u ≡ done_rule s l → DoneAccepted s l
done_ok s l u t e =
    let h = hand_ok s l u e in
    record { ours = h; here = on_job s.accounts.lease s.present (eqb s.accounts.mark l.mark) (eqb s.accounts.clock l.tick) l.job h t.leased }

-- the discipline knows a job that is present
pub works : (p : List ℕ) (j : ℕ) → j < 1024 → 0 < get_or p j 0 → worked_answer p j ≡ Ok (get_or p j 0 - 1)
works p j l h =
    let a : leb j 1023 ≡ true = grind (arith, nat_tests) in
    let b : ltb 0 (get_or p j 0) ≡ true = grind (arith, nat_tests) in
    rw (a, b) refl

-- ---- pass

pub record PassAccepted (s : State) : Type 0 where
  pub free : is_free s.accounts.lease ≡ true
  pub time : s.accounts.clock < 16777215
  pub nobody : count_present s.present ≡ 0

pub pass_ok : (s : State) (u : Unit {0}) → Ok u ≡ pass_answer s → PassAccepted s
pass_ok s u e =
    let last = provided (eqb (count_present s.present) 0) Somebody (Ok tt) in
    let a = provided_ok (is_free s.accounts.lease) LeaseOut (provided (before_end s.accounts) ClockEnd last) u e in
    let b = provided_ok (before_end s.accounts) ClockEnd last u a.1 in
    let c = provided_ok (eqb (count_present s.present) 0) Somebody (Ok tt) u b.1 in
    record { free = a.0; time = ltb-true s.accounts.clock 16777215 b.0; nobody = eqb-true (count_present s.present) 0 c.0 }
