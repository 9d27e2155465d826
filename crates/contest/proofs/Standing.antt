-- A contest stands after each call: the chains of both runs grow, and the theorem holds of them.
use Rattle.std.proofs.Common.{◌≡◌, ◌≢◌, ℕ, zero, suc, ◌+◌, ◌<◌, ◌≤◌, List, [], ◌∷◌, reverse, length, get_or, take, drop, set, Some, None, Ok, Option, sym, refl, ap, ◌∙◌, subst, arith}
use Rattle.std.proofs.lemmas.List.{take_more_set, reverse-append, map-set, set-get_or, get_or-map}
use Rattle.refusal.specs.declared.Refusal.TheVariants.{NotTheLease}
use Rattle.refusal.specs.Answers.{provided}
use Rattle.discipline.specs.declared.Discipline.{Ghosts}
use Rattle.discipline.specs.Meaning.{Sound}
use Rattle.run.specs.declared.run.Run.{Run}
use Rattle.run.specs.declared.lease.Lease.{Lease}
use Rattle.run.specs.Runs.{meaning}
use Rattle.run.specs.Steps.{made_with, giving_back}
use Rattle.run.specs.Histories.{Event, Step}
use Rattle.schedule.specs.Schedules.{Schedule, Legal, NonIdling}
use Rattle.schedule.specs.Occupancy.{occupancy}
use Rattle.srpt.specs.declared.srpt.Srpt.{Srpt}
use Rattle.srpt.specs.contracts.srpt.SrptDiscipline.TheImpl.{ghosts}
use Rattle.srpt.specs.Jobs.{least_sound}
use Rattle.srpt.specs.Choosing.{least_best}
use Rattle.contest.specs.declared.calls.Call.{Call}
use Rattle.contest.specs.declared.calls.Round.{Round}
use Rattle.contest.specs.declared.pair.Pair.{Pair}
use Rattle.contest.specs.declared.side.Side.{Side}
use Rattle.contest.specs.Calls as C
use Rattle.contest.specs.Transcripts.{history, own_schedule, lease_after, lease_out, entries_before}
use Rattle.contest.specs.Chains.{Asks, Chain, made, called}
use Rattle.contest.specs.Played.{call_of, mark_of}
use Rattle.contest.specs.Contested.{calls, occupancies, Turns, Led, Takes, Contested}
use Rattle.contest.proofs.Ruling.{lease_is}
use Rattle.contest.proofs.Comparing.{Picks, by_any, faithful, fewest, runs_compared}

-- ---- one run

module _ {D : Type 0} (d : Ghosts D) (sound : (x : D) → Sound (d.present x) (d.choice x)) (m : ℕ) where
  -- a call makes the chain longer
  lengthened : {cs : List C.Call} {es : List Event} {r : Run D d} → Chain d m cs es r → (o : Option Lease) → o ≡ lease_out es → (c c' : C.Call) → c' ≡ c → (e : Event) (r' : Run D d)
      → Asks (meaning d r).accounts.mark o c e → Step e (meaning d r) (meaning d r') → Chain d m (c' ∷ cs) (e ∷ es) r'
  lengthened {es = es} {r = r} x o i c c' j e r' a p =
      let q = by_any d sound m x in
      called r' x (subst (λ (b : C.Call). Asks m (lease_out es) b e) (sym j) (subst (λ (n : ℕ). Asks n (lease_out es) c e) q.marked (subst (λ (l : Option Lease). Asks (meaning d r).accounts.mark l c e) i a))) p

  -- the lease that is out is taken in
  takes : {cs : List C.Call} {es : List Event} {r : Run D d} → Chain d m cs es r → (o : Option Lease) → o ≡ lease_out es → Takes d r o
  takes x None e = tt
  takes {es = es} {r = r} x (Some l) e =
      let q = by_any d sound m x in
      ap (λ b. giving_back l (provided {T = Unit {0}} b NotTheLease (Ok tt)))
      (lease_is NonIdling (history es) (own_schedule es) (meaning d r).accounts (meaning d r).accounts.lease (lease_out es) l q.held (sym e))

-- what came before
before : {D : Type 0} {d : Ghosts D} {m : ℕ} {cs : List C.Call} {es : List Event} {r : Run D d} → Chain d m cs es r → (n : ℕ) → (x : Run D d) × Chain d m (drop n cs) (drop n es) x
before {r = r} x zero = (r, x)
before (made r e) (suc n) = (r, made r e)
before (called r' x a p) (suc n) = before x n

-- ---- the run over SRPT

srpt_short : (x : Srpt) → Picks (ghosts.present x) (ghosts.choice x)
srpt_short x = least_best (ghosts.present x)

counted_at : (n : ℕ) (es : List Event) → get_or (occupancies es) n 0 ≤ occupancy (history (drop n es)) (own_schedule (drop n es))
counted_at zero [] = omega arith
counted_at zero (e ∷ es) = omega arith
counted_at (suc n) [] = omega arith
counted_at (suc n) (e ∷ es) = counted_at n es

least_counted :
    (m : ℕ) (cs : List C.Call) (es : List Event) (r : Run Srpt ghosts) → Chain ghosts m cs es r → (t : Schedule) → Legal (history es) t
    → (n : ℕ) → get_or (occupancies es) n 0 ≤ occupancy (history (drop n es)) (entries_before n es t)
least_counted m cs es r x t p n =
    let b = before x n in
    omega (arith, counted_at n es, (faithful ghosts least_sound m b.1).present_is, fewest ghosts least_sound srpt_short m cs es t p n b.0 b.1)

-- ---- both runs

module _ {D : Type 0} (d : Ghosts D) (sound : (x : D) → Sound (d.present x) (d.choice x)) (k : Lease) where
  pub led_made : (m m' : ℕ) (x : Side Srpt ghosts) (y : Side D d) → meaning ghosts x.run ≡ made_with m → meaning d y.run ≡ made_with m' → x.lease ≡ None → y.lease ≡ None
      → (k.mark ≡ m → ⊥) → (k.mark ≡ m' → ⊥) → Led d k [] x y k
  led_made m m' x y a b f f' u v = record {
    mark = m;
    mark' = m';
    es = [];
    es' = [];
    chain = made x.run a;
    chain' = made y.run b;
    answers = refl;
    answers' = refl;
    counts = refl;
    counts' = refl;
    lease = f;
    lease' = f';
    unspent = refl;
    strange = u;
    strange' = v;
  }

  -- the stray lease was given by neither run
  pub led_strange : {rs : List Round} (x : Side Srpt ghosts) (y : Side D d) (o : Lease) → Led d k rs x y o → (o.mark ≢ mark_of x) × (o.mark ≢ mark_of y)
  led_strange x y o s =
      let mark-is : o.mark ≡ k.mark = ap (λ (l : Lease). l.mark) s.unspent in
      let q = by_any ghosts least_sound s.mark s.chain in
      let q' = by_any d sound s.mark' s.chain' in
      (λ e. s.strange (sym mark-is ∙ e ∙ q.marked), λ e. s.strange' (sym mark-is ∙ e ∙ q'.marked))

  led_turned : (rs : List Round) (x : Side Srpt ghosts) (y : Side D d) (o : Lease) (c : Call) (r : Round) (x' : Side Srpt ghosts) (y' : Side D d) (o' : Lease)
      → Led d k rs x y o → Turns d x y o c r x' y' o' → Led d k (r ∷ rs) x' y' o'
  led_turned rs x y o c r x' y' o' s t =
      let j = ap call_of t.same in
      let a : Chain ghosts s.mark (calls (r ∷ rs)) (t.first.event ∷ s.es) x'.run =
      lengthened ghosts least_sound s.mark s.chain x.lease s.lease (call_of c) (call_of r.call) j t.first.event x'.run t.first.asks t.first.does in
      let b : Chain d s.mark' (calls (r ∷ rs)) (t.second.event ∷ s.es') y'.run =
      lengthened d sound s.mark' s.chain' y.lease s.lease' (call_of c) (call_of r.call) j t.second.event y'.run t.second.asks t.second.does in
      record {
        mark = s.mark;
        mark' = s.mark';
        es = t.first.event ∷ s.es;
        es' = t.second.event ∷ s.es';
        chain = a;
        chain' = b;
        answers = (cc (t.first.answers, s.answers));
        answers' = (cc (t.second.answers, s.answers'));
        counts = (cc (t.counted ∙ (faithful ghosts least_sound s.mark a).present_is, s.counts));
        counts' = (cc (t.counted' ∙ (faithful d sound s.mark' b).present_is, s.counts'));
        lease = t.first.leaves ∙ ap (lease_after t.first.event) s.lease;
        lease' = t.second.leaves ∙ ap (lease_after t.second.event) s.lease';
        unspent = t.unspent ∙ s.unspent;
        strange = s.strange;
        strange' = s.strange';
      }

  pub contested : (rs ss : List Round) (p : Pair D d) → calls ss ≡ calls rs → Led d k (reverse ss) p.srpt p.rival p.stray → Contested d k rs ss p
  contested rs ss p e s =
      let compares = runs_compared ghosts d least_sound srpt_short sound s.mark s.mark' in
      record {
        same = e;
        led = s;
        compared = compares (calls (reverse ss)) s.es s.es' p.srpt.run p.rival.run s.chain s.chain';
        throughout = λ n.
            let a = before s.chain n in
            let b = before s.chain' n in
            (a.0, b.0, a.1, b.1, compares (drop n (calls (reverse ss))) (drop n s.es) (drop n s.es') a.0 b.0 a.1 b.1);
        least = λ t q n. subst (λ (c : List ℕ). get_or c n 0 ≤ occupancy (history (drop n s.es)) (entries_before n s.es t)) (sym s.counts)
            (least_counted s.mark (calls (reverse ss)) s.es p.srpt.run s.chain t q n);
        taken = takes ghosts least_sound s.mark s.chain p.srpt.lease s.lease;
        taken' = takes d sound s.mark' s.chain' p.rival.lease s.lease';
      }

  -- a round is written down
  past_set : (rs : List Round) (i : ℕ) (r : Round) → i < length rs → reverse (take (i + 1) (set rs i r)) ≡ r ∷ reverse (take i rs)
  past_set rs i r l = ap reverse (take_more_set rs i r l) ∙ reverse-append (take i rs) (r ∷ [])

  calls-set : (rs : List Round) (i : ℕ) (v r : Round) → i < length rs → v.call ≡ (get_or rs i r).call → calls (set rs i v) ≡ calls rs
  calls-set rs i v r l e =
      map-set (λ (x : Round). call_of x.call) rs i v
      ∙ ap (set (calls rs) i) (ap call_of e ∙ sym (get_or-map (λ (x : Round). call_of x.call) rs i r C.Take l))
      ∙ set-get_or (calls rs) i C.Take

  pub turned_again : (rs ss : List Round) (i : ℕ) (r v : Round) (x : Side Srpt ghosts) (y : Side D d) (o : Lease) (x' : Side Srpt ghosts) (y' : Side D d) (o' : Lease) → i < length rs
      → Led d k (reverse (take i rs)) x y o × (calls rs ≡ calls ss) → Turns d x y o (get_or rs i r).call v x' y' o'
      → Led d k (reverse (take (i + 1) (set rs i v))) x' y' o' × (calls (set rs i v) ≡ calls ss)
  turned_again rs ss i r v x y o x' y' o' l s t = (
    subst (λ (ps : List Round). Led d k ps x' y' o') (sym (past_set rs i v l)) (led_turned (reverse (take i rs)) x y o (get_or rs i r).call v x' y' o' s.0 t),
    calls-set rs i v r l t.same ∙ s.1,
  )
