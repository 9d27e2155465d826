-- Two transcripts of one list of calls that both keep the rule have the same verdicts, history, clock and work.
use Rattle.std.proofs.Common.{◌≡◌, ℕ, ◌-◌, true, false, List, [], ◌∷◌, map, is_some, None, Ok, Err, Option, Result, sym, refl, ap, ◌∙◌, arith}
use Rattle.refusal.specs.declared.Refusal.{Refusal}
use Rattle.refusal.specs.Answers.{and_then, if_accepted}
use Rattle.run.specs.declared.lease.Lease.{Lease}
use Rattle.run.specs.Histories.{Event, take, one, ticks, units, sizes}
use Rattle.schedule.specs.Histories as S
use Rattle.schedule.specs.Histories.{History, jobs}
use Rattle.contest.specs.Calls.{Call}
use Rattle.contest.specs.Transcripts.{Verdict, without_lease, verdict, lease_after, lease_out, history}
use Rattle.contest.specs.Rules.{Seen, seen, rule, Ruled}
use Rattle.contest.specs.Chains.{Asks, enters, takes, dones, backs, passes}

-- ---- what follows from a call's being accepted follows from its verdict

plain : {T X : Type 0} (r : Result T Refusal) (x y : X) → if_accepted r x y ≡ if_accepted (and_then {T = Unit {0}} r (Ok tt)) x y
plain (Ok u) x y = refl
plain (Err e) x y = refl

returned : {X : Type 0} (r : Result (Unit {0}) (Refusal × Lease)) (x y : X) → if_accepted r x y ≡ if_accepted (without_lease r) x y
returned (Ok u) x y = refl
returned (Err e) x y = refl

by_plain : {T X : Type 0} (r q : Result T Refusal) (x y : X) → ◌≡◌ {A = Verdict} (and_then r (Ok tt)) (and_then q (Ok tt)) → if_accepted r x y ≡ if_accepted q x y
by_plain r q x y e = plain r x y ∙ ap (λ (v : Verdict). if_accepted v x y) e ∙ sym (plain q x y)

by_returned : {X : Type 0} (r q : Result (Unit {0}) (Refusal × Lease)) (x y : X) → without_lease r ≡ without_lease q → if_accepted r x y ≡ if_accepted q x y
by_returned r q x y e = returned r x y ∙ ap (λ (v : Verdict). if_accepted v x y) e ∙ sym (returned q x y)

one_is : {T E : Type 0} (r : Result T E) → one r ≡ if_accepted r 1 0
one_is (Ok u) = refl
one_is (Err e) = refl

taken_is : (r : Result Lease Refusal) (o : Option Lease) → is_some (lease_after (take r) o) ≡ if_accepted r true (is_some o)
taken_is (Ok l) o = refl
taken_is (Err e) o = refl

handed_is : {T E : Type 0} (r : Result T E) (o : Option Lease) → is_some (if_accepted r None o) ≡ if_accepted r false (is_some o)
handed_is (Ok u) o = refl
handed_is (Err e) o = refl

-- ---- what two transcripts of one list have in common

pub record Alike (es fs : List Event) : Type 0 where
  pub leased : is_some (lease_out es) ≡ is_some (lease_out fs)
  pub clock : ticks es ≡ ticks fs
  pub worked : units es ≡ units fs
  pub brought : sizes es ≡ sizes fs
  pub happened : history es ≡ history fs

alike_seen : (es fs : List Event) → Alike es fs → seen es ≡ seen fs
alike_seen es fs p i = record { leased = p.leased i; entered = jobs (p.happened i); clock = p.clock i; work = p.brought i - p.worked i }

-- the calls of a transcript are cs, on a run with mark m
abbrev pub Asked : ℕ → List Call → List Event → Type 0
Asked m [] [] = Unit {0}
Asked m [] (e ∷ es) = ⊥
Asked m (c ∷ cs) [] = ⊥
Asked m (c ∷ cs) (e ∷ es) = Asked m cs es × Asks m (lease_out es) c e

module _ (m n : ℕ) (es fs : List Event) (p : Alike es fs) where
  -- one more event, or none
  grown : {T E : Type 0} (r q : Result T E) (x : S.Event) → if_accepted r (x ∷ history es) (history es) ≡ if_accepted q (x ∷ history es) (history es)
      → if_accepted r (x ∷ history es) (history es) ≡ if_accepted q (x ∷ history fs) (history fs)
  grown r q x e = e ∙ ap (λ (h : History). if_accepted q (x ∷ h) h) p.happened

  handed : {T E : Type 0} (r q : Result T E) → if_accepted r false (is_some (lease_out es)) ≡ if_accepted q false (is_some (lease_out es))
      → is_some (if_accepted r None (lease_out es)) ≡ is_some (if_accepted q None (lease_out fs))
  handed r q e = handed_is r (lease_out es) ∙ e ∙ ap (λ b. if_accepted q false b) p.leased ∙ sym (handed_is q (lease_out fs))

  alike_step : (c : Call) (e f : Event) → Asks m (lease_out es) c e → Asks n (lease_out fs) c f → verdict e ≡ verdict f → Alike (e ∷ es) (f ∷ fs)
  alike_step c e f (enters b z r) (enters _ _ q) x = record {
    leased = p.leased;
    clock = omega (arith, p.clock);
    worked = omega (arith, p.worked);
    brought = omega (arith, by_plain r q z 0 x, p.brought);
    happened = grown r q (S.enter z) (by_plain r q (S.enter z ∷ history es) (history es) x);
  }
  alike_step c e f (takes r) (takes q) x = record {
    leased = taken_is r (lease_out es) ∙ by_plain r q true (is_some (lease_out es)) x ∙ ap (λ b. if_accepted q true b) p.leased ∙ sym (taken_is q (lease_out fs));
    clock = omega (arith, p.clock);
    worked = omega (arith, p.worked);
    brought = omega (arith, p.brought);
    happened = p.happened;
  }
  alike_step c e f (dones b l r k) (dones _ j q i) x =
      let ones = one_is r ∙ by_returned r q 1 0 x ∙ sym (one_is q) in
      record {
        leased = handed r q (by_returned r q false (is_some (lease_out es)) x);
        clock = omega (arith, ones, p.clock);
        worked = omega (arith, ones, p.worked);
        brought = omega (arith, p.brought);
        happened = grown r q S.tick (by_returned r q (S.tick ∷ history es) (history es) x);
      }
  alike_step c e f (backs b l r k) (backs _ j q i) x = record {
    leased = handed r q (by_returned r q false (is_some (lease_out es)) x);
    clock = omega (arith, one_is r ∙ by_returned r q 1 0 x ∙ sym (one_is q), p.clock);
    worked = omega (arith, p.worked);
    brought = omega (arith, p.brought);
    happened = grown r q S.lost (by_returned r q (S.lost ∷ history es) (history es) x);
  }
  alike_step c e f (passes r) (passes q) x = record {
    leased = p.leased;
    clock = omega (arith, one_is r ∙ by_plain r q 1 0 x ∙ sym (one_is q), p.clock);
    worked = omega (arith, p.worked);
    brought = omega (arith, p.brought);
    happened = grown r q S.tick (by_plain r q (S.tick ∷ history es) (history es) x);
  }

pub agreed : (m n : ℕ) (cs : List Call) (es fs : List Event) → Asked m cs es → Asked n cs fs → Ruled cs es → Ruled cs fs → Alike es fs × (map verdict es ≡ map verdict fs)
agreed m n [] [] [] a b r q = (record { leased = refl; clock = refl; worked = refl; brought = refl; happened = refl }, refl)
agreed m n [] (e ∷ es) fs a b r q = absurd a
agreed m n [] [] (f ∷ fs) a b r q = absurd b
agreed m n (c ∷ cs) [] fs a b r q = absurd a
agreed m n (c ∷ cs) (e ∷ es) [] a b r q = absurd b
agreed m n (c ∷ cs) (e ∷ es) (f ∷ fs) a b r q =
    let i = agreed m n cs es fs a.0 b.0 r.0 q.0 in
    let x : verdict e ≡ verdict f = r.1 ∙ ap (λ (v : Seen). rule v c) (alike_seen es fs i.0) ∙ sym q.1 in
    (alike_step m n es fs i.0 c e f a.1 b.1 x, (cc i.1))
