-- Every call gets the verdict that the rule gives for what can be seen from outside.
use Rattle.std.proofs.Common.{◌≡◌, ℕ, ◌-◌, Bool, true, false, not, ◌&&◌, eqb, ltb, List, is_some, Some, None, Ok, sum, Option, Result, sym, refl, ap, ◌∙◌, subst, arith}
use Rattle.std.proofs.lemmas.List.Sums.{sum-map}
use Rattle.std.proofs.lemmas.Bool.{eq-eqb, ne_eqb}
use Rattle.refusal.specs.declared.Refusal.{Refusal}
use Rattle.refusal.specs.declared.Refusal.TheVariants.{Size, Name, LeaseOut, BookFull, ClockEnd, Nobody, Somebody, NotTheLease}
use Rattle.refusal.specs.Answers.{provided, and_then}
use Rattle.job.specs.Rules.{good_size, good_name}
use Rattle.discipline.specs.Meaning.{count_present}
use Rattle.run.specs.declared.accounts.Accounts.{Accounts}
use Rattle.run.specs.declared.lease.Lease.{Lease}
use Rattle.run.specs.declared.line.Line.{Line}
use Rattle.run.specs.States.{State, Tied}
use Rattle.run.specs.Questions.{unfinished_work}
use Rattle.run.specs.Steps.{is_free, is_out_on, is_the_lease, before_end, lease_on, giving_back, done_rule}
use Rattle.run.specs.Histories.{Event, Step, ticks, units, sizes}
use Rattle.schedule.specs.Histories.{History}
use Rattle.schedule.specs.Schedules.{Schedule, Rule}
use Rattle.contest.specs.Calls.{Hand, own, stray, Call}
use Rattle.contest.specs.Transcripts.{Verdict, without_lease, verdict, lease_out, history, own_schedule}
use Rattle.contest.specs.Rules.{Seen, seen, handing_in, rule}
use Rattle.contest.specs.Chains.{Handed, Asks, enters, takes, dones, backs, passes}
use Rattle.contest.proofs.Counts.{choice_work, nobody_work}
use Rattle.contest.proofs.Keeping.{Held, Kept}

-- ---- the answers as verdicts

enter_verdict : (a b c d : Bool) (k : ℕ)
    → and_then {T = Unit {0}} (provided a Size (provided b Name (provided c LeaseOut (provided d BookFull (Ok k))))) (Ok tt)
    ≡ provided a Size (provided b Name (provided c LeaseOut (provided d BookFull (Ok tt))))
enter_verdict false b c d k = refl
enter_verdict true false c d k = refl
enter_verdict true true false d k = refl
enter_verdict true true true false k = refl
enter_verdict true true true true k = refl

take-verdict : (f t : Bool) (a : Accounts) (c : Option ℕ)
    → and_then {T = Unit {0}} (provided f LeaseOut (provided t ClockEnd (lease_on a c))) (Ok tt)
    ≡ provided f LeaseOut (provided t ClockEnd (provided (is_some c) Nobody (Ok tt)))
take-verdict false t a c = refl
take-verdict true false a c = refl
take-verdict true true a None = refl
take-verdict true true a (Some j) = refl

pass_verdict : (f t n : Bool)
    → and_then {T = Unit {0}} (provided {T = Unit {0}} f LeaseOut (provided t ClockEnd (provided n Somebody (Ok tt)))) (Ok tt)
    ≡ provided f LeaseOut (provided t ClockEnd (provided n Somebody (Ok tt)))
pass_verdict false t n = refl
pass_verdict true false n = refl
pass_verdict true true false = refl
pass_verdict true true true = refl

hand_verdict : (b : Bool) (l : Lease) → without_lease (giving_back l (provided {T = Unit {0}} b NotTheLease (Ok tt))) ≡ provided b NotTheLease (Ok tt)
hand_verdict true l = refl
hand_verdict false l = refl

-- ---- the lease that is out, and one that is not

out_is : (R : Rule) (h : History) (o : Schedule) (a : Accounts) (w : Option ℕ) (k : Option Lease) → Held R h o a w k → is_free w ≡ not (is_some k)
out_is R h o a None k e = sym (ap (λ (x : Option Lease). not (is_some x)) e)
out_is R h o a (Some j) k e = sym (ap (λ (x : Option Lease). not (is_some x)) e.0)

own_is : (a : Accounts) (j : ℕ) (l : Lease) → l ≡ record { mark = a.mark; tick = a.clock; job = j }
    → (eqb a.mark l.mark && (eqb a.clock l.tick && is_out_on (Some j) l.job)) ≡ true
own_is a j l e =
    let x = eq-eqb a.mark l.mark (sym (ap (λ (y : Lease). y.mark) e)) in
    let y = eq-eqb a.clock l.tick (sym (ap (λ (y : Lease). y.tick) e)) in
    let z = eq-eqb j l.job (sym (ap (λ (y : Lease). y.job) e)) in
    rw (x, y, z)

pub stray_is_not : (a : Accounts) (l : Lease) → (l.mark ≡ a.mark → ⊥) → is_the_lease a l.mark l.tick l.job ≡ false
stray_is_not a l n = rw (ne_eqb a.mark l.mark (λ e. n (sym e)))

-- the lease that is out is the one that done and back take
pub lease_is : (R : Rule) (h : History) (o : Schedule) (a : Accounts) (w : Option ℕ) (k : Option Lease) (l : Lease)
    → Held R h o a w k → k ≡ Some l → (eqb a.mark l.mark && (eqb a.clock l.tick && is_out_on w l.job)) ≡ true
lease_is R h o a None k l e q = let z : ◌≡◌ {A = ℕ} 0 1 = cc in absurd (omega arith)
lease_is R h o a (Some j) k l e q = let f : l ≡ record { mark = a.mark; tick = a.clock; job = j } = cc e.0 in own_is a j l f

hand_rule_lem : (R : Rule) (h : History) (o : Schedule) (a : Accounts) (k : Option Lease) (b : Hand) (l : Lease) (v : Seen)
    → Held R h o a a.lease k → Handed a.mark b k l → v.leased ≡ is_some k
    → provided (is_the_lease a l.mark l.tick l.job) NotTheLease (Ok tt) ≡ handing_in v b
hand_rule_lem R h o a (Some k) own l v e q s =
    ap (λ c. provided c NotTheLease (Ok tt)) (lease_is R h o a a.lease (Some k) l e (ap Some (sym q))) ∙ sym (ap (λ c. provided {T = Unit {0}} c NotTheLease (Ok tt)) s)
hand_rule_lem R h o a None own l v e q s =
    ap (λ c. provided c NotTheLease (Ok tt)) (stray_is_not a l q) ∙ sym (ap (λ c. provided {T = Unit {0}} c NotTheLease (Ok tt)) s)
hand_rule_lem R h o a k stray l v e q s = ap (λ c. provided c NotTheLease (Ok tt)) (stray_is_not a l q)

-- ---- the rule

pub work_sum : (s : State) → Tied s → unfinished_work s.book ≡ sum s.present
work_sum s t = sym (sum-map (λ (l : Line). l.left) s.book.lines) ∙ sym (ap sum t.agrees)

module _ (R : Rule) (m : ℕ) (es : List Event) (s s' : State) (t : Tied s) (q : Kept R m (history es) (own_schedule es) (lease_out es) s)
    (time : s.accounts.clock ≡ ticks es) (work : unfinished_work s.book ≡ sizes es - units es) where
  free : is_free s.accounts.lease ≡ not (seen es).leased
  free = out_is R (history es) (own_schedule es) s.accounts s.accounts.lease (lease_out es) q.held

  before : before_end s.accounts ≡ ltb (seen es).clock 16777215
  before = ap (λ n. ltb n 16777215) time

  sum_is : sum s.present ≡ (seen es).work
  sum_is = sym (work_sum s t) ∙ work

  handed : (b : Hand) (l : Lease) → Handed m b (lease_out es) l → without_lease (done_rule s l) ≡ handing_in (seen es) b
  handed b l k =
      hand_verdict (is_the_lease s.accounts l.mark l.tick l.job) l
      ∙ hand_rule_lem R (history es) (own_schedule es) s.accounts (lease_out es) b l (seen es) q.held (subst (λ n. Handed n b (lease_out es) l) (sym q.marked) k) refl

  pub answered : (c : Call) (e : Event) → Asks m (lease_out es) c e → Step e s s' → verdict e ≡ rule (seen es) c
  answered c e (enters n z r) p =
      ap (λ (x : Result ℕ Refusal). and_then {T = Unit {0}} x (Ok tt)) (p.answers)
      ∙ enter_verdict (good_size z) (good_name n) (is_free s.accounts.lease) (ltb s.book.entered 1024) s.book.entered
      ∙ ap (λ f. provided (good_size z) Size (provided (good_name n) Name (provided f LeaseOut (provided (ltb s.book.entered 1024) BookFull (Ok tt))))) free
      ∙ ap (λ i. provided (good_size z) Size (provided (good_name n) Name (provided (not (seen es).leased) LeaseOut (provided (ltb i 1024) BookFull (Ok tt))))) q.entered
  answered c e (takes r) p =
      ap (λ (x : Result Lease Refusal). and_then {T = Unit {0}} x (Ok tt)) p.answers
      ∙ take-verdict (is_free s.accounts.lease) (before_end s.accounts) s.accounts s.choice
      ∙ ap (λ f. provided f LeaseOut (provided (before_end s.accounts) ClockEnd (provided (is_some s.choice) Nobody (Ok tt)))) free
      ∙ ap (λ b. provided (not (seen es).leased) LeaseOut (provided b ClockEnd (provided (is_some s.choice) Nobody (Ok tt)))) before
      ∙ ap (λ b. provided (not (seen es).leased) LeaseOut (provided (ltb (seen es).clock 16777215) ClockEnd (provided b Nobody (Ok tt))))
      (choice_work s.present s.choice t.sound ∙ ap (ltb 0) sum_is)
  answered c e (dones b l r k) p = ap without_lease (p.answers) ∙ handed b l k
  answered c e (backs b l r k) p = ap without_lease p.answers ∙ handed b l k
  answered c e (passes r) p =
      ap (λ (x : Verdict). and_then {T = Unit {0}} x (Ok tt)) p.answers
      ∙ pass_verdict (is_free s.accounts.lease) (before_end s.accounts) (eqb (count_present s.present) 0)
      ∙ ap (λ f. provided f LeaseOut (provided (before_end s.accounts) ClockEnd (provided (eqb (count_present s.present) 0) Somebody (Ok tt)))) free
      ∙ ap (λ b. provided (not (seen es).leased) LeaseOut (provided b ClockEnd (provided (eqb (count_present s.present) 0) Somebody (Ok tt)))) before
      ∙ ap (λ b. provided (not (seen es).leased) LeaseOut (provided (ltb (seen es).clock 16777215) ClockEnd (provided b Somebody (Ok tt))))
      (nobody_work s.present s.choice t.sound ∙ ap (λ n. eqb n 0) sum_is)
