-- Every run is faithful, and a run over SRPT beside any other run of the same calls has the fewest jobs present.
use Rattle.std.proofs.Common.{◌≡◌, ℕ, zero, suc, ◌≤◌, List, [], ◌∷◌, get_or, take, drop, Some, None, Ok, Err, Option, sym, refl, ap, ◌∙◌, subst, arith}
use Rattle.discipline.specs.declared.Discipline.{Ghosts}
use Rattle.discipline.specs.Meaning.{Sound}
use Rattle.run.specs.declared.run.Run.{Run}
use Rattle.run.specs.Lines.{unused}
use Rattle.run.specs.States.{State, Tied}
use Rattle.run.specs.Runs.{meaning}
use Rattle.run.specs.Histories as H
use Rattle.run.specs.Histories.{Event, Reaches, ticks}
use Rattle.run.proofs.Reached.{always_lawful}
use Rattle.run.proofs.Ended.{chosen_present}
use Rattle.schedule.specs.Histories.{History}
use Rattle.schedule.specs.Schedules.{Schedule, Entry, job, idle, Nobody, Rule, Permitted, Legal, NonIdling}
use Rattle.schedule.specs.Srpt.{Shortest}
use Rattle.schedule.specs.Occupancy.{occupancy}
use Rattle.schedule.proofs.Following.{nonidling_permitted, shortest_permitted}
use Rattle.schedule.proofs.Occupancy.{occupancy_identity_lem}
use Rattle.schedule.proofs.Fewest.{fewest_at_end}
use Rattle.schedule.proofs.Computed.{Best}
use Rattle.contest.specs.Calls.{Call}
use Rattle.contest.specs.Transcripts.{history, own_schedule, lease_out, entries_before}
use Rattle.contest.specs.Rules.{Ruled}
use Rattle.contest.specs.Chains.{Chain, made, called}
use Rattle.contest.specs.Comparison.{present_in, Faithful, Fewest, RunsFaithful, RunsCompared}
use Rattle.contest.proofs.Counts.{Table, table_count}
use Rattle.contest.proofs.Lines.{stay_counted}
use Rattle.contest.proofs.Keeping.{Kept, step_kept, made_kept, kept_legal}
use Rattle.contest.proofs.Ruling.{answered}
use Rattle.contest.proofs.Agreeing.{Asked, agreed}

-- ---- whom any discipline picks, and whom SRPT picks

any_picks : (s : State) (h : History) (o : Schedule) (j : ℕ) → Unit {0} → Tied s → Table s.present h o → s.choice ≡ Some j → NonIdling h o (job j)
any_picks s h o j c t b e = omega (arith, b j, chosen_present s.present s.choice j t.sound e)

-- The choice, if there is one, is a present job with least left.
abbrev pub Picks : List ℕ → Option ℕ → Type 0
Picks p c = (j : ℕ) → c ≡ Some j → Best p (job j)

srpt_picks : (s : State) (h : History) (o : Schedule) (j : ℕ) → Picks s.present s.choice → Tied s → Table s.present h o → s.choice ≡ Some j → Shortest h o (job j)
srpt_picks s h o j c t b e = let q = c j e in (omega (arith, b j, q.0), λ i p. omega (arith, b i, b j, q.1 i (omega (arith, b i))))

-- ---- one run

module _ {D : Type 0} (d : Ghosts D) (sound : (x : D) → Sound (d.present x) (d.choice x)) (m : ℕ) where
  pub reaches : {cs : List Call} {es : List Event} {r : Run D d} → Chain d m cs es r → Reaches m es (meaning d r)
  reaches (made r e) = subst (λ (s : State). Reaches m [] s) (sym e) (H.made (subst (λ (s : State). Sound s.present s.choice) e (sound r.discipline)))
  reaches (called r' x a p) = H.more (reaches x) p (sound r'.discipline)

  asked : {cs : List Call} {es : List Event} {r : Run D d} → Chain d m cs es r → Asked m cs es
  asked (made r e) = tt
  asked (called r' x a p) = (asked x, a)

  module _ (R : Rule) (permits : (h : History) (o : Schedule) (e : Entry) → R h o e → Permitted h o e) (rests : (h : History) (o : Schedule) → Nobody h o → R h o idle)
      (C : State → Type 0) (chosen : (r : Run D d) → C (meaning d r))
      (picks : (s : State) (h : History) (o : Schedule) (j : ℕ) → C s → Tied s → Table s.present h o → s.choice ≡ Some j → R h o (job j)) where
    pub kept : {cs : List Call} {es : List Event} {r : Run D d} → Chain d m cs es r → Kept R m (history es) (own_schedule es) (lease_out es) (meaning d r)
    kept (made r e) = subst (λ (s : State). Kept R m [] [] None s) (sym e) (made_kept R permits rests m C picks)
    kept (called {es = es} {e = e} {r = r} r' x a p) =
        step_kept R permits rests m C picks e es (meaning d r) (meaning d r') (always_lawful m es (meaning d r) (reaches x)).tied (chosen r) (kept x) p

  -- every run serves somebody who is present, and idles only where nobody is
  pub by_any : {cs : List Call} {es : List Event} {r : Run D d} → Chain d m cs es r → Kept NonIdling m (history es) (own_schedule es) (lease_out es) (meaning d r)
  by_any x = kept NonIdling nonidling_permitted (λ h o n. n) (λ s. Unit {0}) (λ r. tt) any_picks x

  ruled : {cs : List Call} {es : List Event} {r : Run D d} → Chain d m cs es r → Ruled cs es
  ruled (made r e) = tt
  ruled (called {es = es} {c = c} {e = e} {r = r} r' x a p) =
      let w = always_lawful m es (meaning d r) (reaches x) in
      (ruled x, answered NonIdling m es (meaning d r) (meaning d r') w.tied (by_any x) w.time (omega (arith, w.work)) c e a p)

  pub faithful : {cs : List Call} {es : List Event} {r : Run D d} → Chain d m cs es r → Faithful cs es (meaning d r)
  faithful {es = es} {r = r} x =
      let q = by_any x in
      let p = kept_legal NonIdling nonidling_permitted (λ h o n. n) (history es) (own_schedule es) q.follows in
      record {
        ruled = ruled x;
        lawful = always_lawful m es (meaning d r) (reaches x);
        legal = p;
        present_is = table_count (meaning d r).present (history es) (own_schedule es) q.table;
        total_is = q.total ∙ occupancy_identity_lem (history es) (own_schedule es);
        most_is = q.most;
        lines_are = q.booked;
        stay_is = λ j l. stay_counted (history es) (own_schedule es) (meaning d r).accounts.clock j (get_or (meaning d r).book.lines j unused) q.sized p l q.time (q.booked j l);
      }

-- ---- what came before the last n calls is a list of calls too, and a legal schedule of them all is one of those before

legal_before : (n k : ℕ) (es : List Event) (t : Schedule) → k ≡ ticks (take n es) → Legal (history es) t → Legal (history (drop n es)) (drop k t)
legal_before zero zero es t q p = p
legal_before zero (suc k) es t q p = absurd (omega arith)
legal_before (suc n) zero [] t q p = p
legal_before (suc n) (suc k) [] t q p = absurd (omega arith)
legal_before (suc n) k (H.enter b z (Ok i) ∷ es) t q p = legal_before n k es t (omega arith) p
legal_before (suc n) k (H.enter b z (Err x) ∷ es) t q p = legal_before n k es t (omega arith) p
legal_before (suc n) k (H.take r ∷ es) t q p = legal_before n k es t (omega arith) p
legal_before (suc n) k (H.done l (Ok u) ∷ es) [] q p = absurd p
legal_before (suc n) zero (H.done l (Ok u) ∷ es) (e ∷ t) q p = absurd (omega arith)
legal_before (suc n) (suc k) (H.done l (Ok u) ∷ es) (e ∷ t) q p = legal_before n k es t (omega arith) p.0
legal_before (suc n) k (H.done l (Err x) ∷ es) t q p = legal_before n k es t (omega arith) p
legal_before (suc n) k (H.back l (Ok u) ∷ es) [] q p = absurd p
legal_before (suc n) zero (H.back l (Ok u) ∷ es) (e ∷ t) q p = absurd (omega arith)
legal_before (suc n) (suc k) (H.back l (Ok u) ∷ es) (e ∷ t) q p = legal_before n k es t (omega arith) p.0
legal_before (suc n) k (H.back l (Err x) ∷ es) t q p = legal_before n k es t (omega arith) p
legal_before (suc n) k (H.pass (Ok u) ∷ es) [] q p = absurd p
legal_before (suc n) zero (H.pass (Ok u) ∷ es) (e ∷ t) q p = absurd (omega arith)
legal_before (suc n) (suc k) (H.pass (Ok u) ∷ es) (e ∷ t) q p = legal_before n k es t (omega arith) p.0
legal_before (suc n) k (H.pass (Err x) ∷ es) t q p = legal_before n k es t (omega arith) p

-- ---- a run over SRPT

module _ {Q : Type 0} (g : Ghosts Q) (sound : (x : Q) → Sound (g.present x) (g.choice x)) (short : (x : Q) → Picks (g.present x) (g.choice x)) (m : ℕ) where
  by_srpt : {cs : List Call} {es : List Event} {r : Run Q g} → Chain g m cs es r → Kept Shortest m (history es) (own_schedule es) (lease_out es) (meaning g r)
  by_srpt x = kept g sound m Shortest shortest_permitted (λ h o n. n) (λ s. Picks s.present s.choice) (λ r. short r.discipline) srpt_picks x

  fewest_now : {cs : List Call} {es : List Event} {r : Run Q g} → Chain g m cs es r → (t : Schedule) → Legal (history es) t → present_in (meaning g r) ≤ occupancy (history es) t
  fewest_now {es = es} {r = r} x t p =
      let q = by_srpt x in
      omega (arith, fewest_at_end (history es) (own_schedule es) t q.follows p, table_count (meaning g r).present (history es) (own_schedule es) q.table)

  pub fewest : (cs : List Call) (es : List Event) → Fewest g m cs es
  fewest cs es t p n r c = fewest_now c (entries_before n es t) (legal_before n (ticks (take n es)) es t refl p)

-- ---- all of it

pub runs_faithful : {D : Type 0} (d : Ghosts D) → ((x : D) → Sound (d.present x) (d.choice x)) → RunsFaithful d
runs_faithful d sound m cs es r x = faithful d sound m x

pub runs_compared :
    {Q D : Type 0} (g : Ghosts Q) (d : Ghosts D) → ((x : Q) → Sound (g.present x) (g.choice x)) → ((x : Q) → Picks (g.present x) (g.choice x))
    → ((x : D) → Sound (d.present x) (d.choice x)) → RunsCompared g d
runs_compared g d gs short ds m m' cs es es' r r' x y =
    let a = faithful g gs m x in
    let b = faithful d ds m' y in
    let i = agreed m m' cs es es' (asked g gs m x) (asked d ds m' y) a.ruled b.ruled in
    record {
      srpt = a;
      rival = b;
      same_verdicts = i.1;
      same_history = i.0.happened;
      same_clock = omega (arith, a.lawful.time, b.lawful.time, i.0.clock);
      same_work = omega (arith, a.lawful.work, b.lawful.work, i.0.worked, i.0.brought);
      fewest = fewest g gs short m cs es;
      fewer = omega (arith, b.present_is, fewest_now g gs short m x (own_schedule es') (subst (λ (h : History). Legal h (own_schedule es')) (sym i.0.happened) b.legal), ap (λ (h : History). occupancy h (own_schedule es')) i.0.happened);
    }
