-- What holds of the accounts after a tick, and of a lease that is handed in.
use Rattle.std.proofs.Common.{◌≡◌, ℕ, ◌+◌, ◌<◌, ◌≤◌, Bool, true, ◌&&◌, eqb, ltb, List, length, get_or, Some, None, Ok, Option, Result, sym, refl, subst, ⊎_elim, arith}
use Rattle.std.proofs.lemmas.Bool.Decides.{nat_tests}
use Rattle.std.proofs.lemmas.List.Sums.{count_by-le-length}
use Rattle.std.proofs.lemmas.List.{get_or_past}
use Rattle.std.proofs.lemmas.Bool.{cases_lt, ltb-true}
use Rattle.refusal.specs.declared.Refusal.{Refusal}
use Rattle.refusal.specs.declared.Refusal.TheVariants.{LeaseOut, ClockEnd, NotTheLease}
use Rattle.refusal.specs.Answers.{provided}
use Rattle.refusal.proofs.Accepted.{provided_ok}
use Rattle.discipline.specs.Meaning.{Sound, choose_answer, count_present}
use Rattle.run.specs.declared.accounts.Accounts.{Accounts}
use Rattle.run.specs.declared.accounts.Call.TheVariants.{Pass, HandIn}
use Rattle.run.specs.declared.book.Book.{Book}
use Rattle.run.specs.Kept.{lease_kept, LinesKept, FiguresKept}
use Rattle.run.specs.Steps.{may_answer, is_free, is_out_on, is_the_lease, before_end, ended}

-- ---- what the meaning of a discipline gives a run

pub few_present : (p : List ℕ) (n : ℕ) → length p ≡ 1024 → n ≡ count_present p → n ≤ 1024
few_present p n long e = omega (arith, count_by-le-length (λ x. ltb 0 x) p)

-- a job with left work has a number below the table's length
pub present_below : (p : List ℕ) (j : ℕ) → length p ≡ 1024 → 0 < get_or p j 0 → j < 1024
present_below p j e h = ⊎_elim (λ l. l) (λ g. let z : get_or p j 0 ≡ 0 = get_or_past p j 0 (omega arith) in absurd (omega arith)) (cases_lt j 1024)

choice_is : (c : Option ℕ) (j : ℕ) → ◌≡◌ {A = Result ℕ Refusal} (Ok j) (choose_answer c) → c ≡ Some j
choice_is None j e = let z : ◌≡◌ {A = ℕ} 0 1 = cc in absurd (omega arith)
choice_is (Some i) j e = cc

pub chosen_present : (p : List ℕ) (c : Option ℕ) (j : ℕ) → Sound p c → c ≡ Some j → 0 < get_or p j 0
chosen_present p None j s e = let z : ◌≡◌ {A = ℕ} 0 1 = cc in absurd (omega arith)
chosen_present p (Some i) j s e = let f : i ≡ j = cc in subst (λ k. 0 < get_or p k 0) f s.chosen

pub chosen_below : (p : List ℕ) (c : Option ℕ) (j : ℕ) → Sound p c → ◌≡◌ {A = Result ℕ Refusal} (Ok j) (choose_answer c) → j < 1024
chosen_below p c j s e = present_below p j s.long (chosen_present p c j s (choice_is c j e))

-- ---- a lease that is handed in

module _ (a : Accounts) (p : List ℕ) (m t j : ℕ) (kept : lease_kept a.lease p a.clock ≡ true) (yes : is_the_lease a m t j ≡ true) where
  out : (l : Option ℕ) (c : ℕ) (x y : Bool) → lease_kept l p c ≡ true → (x && (y && is_out_on l j)) ≡ true → (j < 1024) × (0 < get_or p j 0) × (c < 16777215)
  out None c x y k e = absurd (let z : (x && (y && is_out_on None j)) ≡ true = e in grind (arith, nat_tests))
  out (Some o) c x y k e =
      let same : o ≡ j = grind (arith, nat_tests) in
      let here : 0 < get_or p o 0 = grind (arith, nat_tests) in
      (grind (arith, nat_tests), subst (λ i. 0 < get_or p i 0) same here, grind (arith, nat_tests))

  all : (j < 1024) × (0 < get_or p j 0) × (a.clock < 16777215)
  all = out a.lease a.clock (eqb a.mark m) (eqb a.clock t) kept yes

  pub hand_job : j < 1024
  hand_job = all.0

  pub hand_present : 0 < get_or p j 0
  hand_present = all.1

  pub hand_clock : a.clock < 16777215
  hand_clock = all.2

  pub hand_tick : a.clock ≡ t
  hand_tick = grind (arith, nat_tests)

-- a lease that may be handed in is the one that is out
pub hand_ours : (a : Accounts) (m t j : ℕ) (u : Unit {0}) → ◌≡◌ {A = Result (Unit {0}) Refusal} (Ok u) (may_answer a (HandIn m t j)) → is_the_lease a m t j ≡ true
hand_ours a m t j u e = (provided_ok (is_the_lease a m t j) NotTheLease (Ok tt) u e).0

-- ---- a tick that may end with no lease out

pub pass_clock : (a : Accounts) (u : Unit {0}) → ◌≡◌ {A = Result (Unit {0}) Refusal} (Ok u) (may_answer a Pass) → a.clock < 16777215
pass_clock a u e =
    let b = provided_ok (is_free a.lease) LeaseOut (provided (before_end a) ClockEnd (Ok tt)) u e in
    ltb-true a.clock 16777215 (provided_ok (before_end a) ClockEnd (Ok tt) u b.1).0

-- ---- what is kept over a tick that ends with n jobs present

module _ (a a' : Accounts) (n : ℕ) (few : n ≤ 1024) (e : a' ≡ ended a n) where
  pub end_figures : a.clock < 16777215 → FiguresKept a → FiguresKept a'
  end_figures time f = subst FiguresKept (sym e) (omega arith, omega (arith, f.1), omega (arith, f.2))

  pub end_lines : (b : Book) → LinesKept b (a.clock + 1) → LinesKept b a'.clock
  end_lines b h = subst (λ (x : Accounts). LinesKept b x.clock) (sym e) h

  pub end_held : (p : List ℕ) → lease_kept a'.lease p a'.clock ≡ true
  end_held p = subst (λ (x : Accounts). lease_kept x.lease p x.clock ≡ true) (sym e) refl
