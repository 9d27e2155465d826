-- What one side makes of a call: what is answered, and what becomes of a lease that is handed in.
use Rattle.std.proofs.Common.{◌≡◌, ℕ, true, Some, None, Ok, Err, Option, Result, IsOkAnd, MatchResult, sym, refl, ap, ◌∙◌, subst}
use Rattle.refusal.specs.declared.Refusal.{Refusal}
use Rattle.discipline.specs.declared.Discipline.{Ghosts}
use Rattle.run.specs.declared.lease.Lease.{Lease}
use Rattle.run.specs.declared.run.Run.{Run}
use Rattle.run.specs.Runs.{meaning}
use Rattle.run.specs.States.{State}
use Rattle.run.specs.Histories.{Step, handed_in}
use Rattle.contest.specs.declared.calls.Hand.{Hand}
use Rattle.contest.specs.declared.calls.Hand.TheVariants.{Own, Stray}
use Rattle.contest.specs.declared.calls.Reply.{Reply}
use Rattle.contest.specs.declared.calls.Reply.TheVariants.{Accepted}
use Rattle.contest.specs.declared.side.Side.{Side}
use Rattle.run.specs.declared.ending.End.{End}
use Rattle.run.specs.declared.ending.End.TheVariants.{Done, Back}
use Rattle.contest.specs.Calls.{own}
use Rattle.contest.specs.Carried.{carries}
use Rattle.contest.specs.Chains.{Handed, dones, backs}
use Rattle.contest.specs.Played.{hand_of, handing_in, Answer, replied, mark_of, Plays}

-- ---- which lease may be handed in

pub handed_own : (m : ℕ) (h : Hand) (o : Option Lease) (l : Lease) → h ≡ Own → o ≡ Some l → Handed m (hand_of h) o l
handed_own m h o l e f = subst (λ (x : Hand). Handed m (hand_of x) o l) (sym e) (subst (λ (x : Option Lease). Handed m own x l) (sym f) refl)

pub handed_none : (m : ℕ) (h : Hand) (o : Option Lease) (l : Lease) → (l.mark ≡ m → ⊥) → h ≡ Own → o ≡ None → Handed m (hand_of h) o l
handed_none m h o l n e f = subst (λ (x : Hand). Handed m (hand_of x) o l) (sym e) (subst (λ (x : Option Lease). Handed m own x l) (sym f) n)

pub handed_stray : (m : ℕ) (h : Hand) (o : Option Lease) (l : Lease) → (l.mark ≡ m → ⊥) → h ≡ Stray → Handed m (hand_of h) o l
handed_stray m h o l n e = subst (λ (x : Hand). Handed m (hand_of x) o l) (sym e) n

-- ---- what is answered

-- what `map` makes of an answer
pub mapped : {T : Type 0} (r : Result T Refusal) (a : Answer) (P : T → Reply → Type 0) (f : T → Reply) → ((x : T) (y : Reply) → P x y → y ≡ f x)
    → MatchResult r (λ x. IsOkAnd a (P x)) (λ e. a ≡ Err e) → a ≡ replied f r
mapped (Ok x) (Ok y) P f h p = ap Ok (h x y p)
mapped (Ok x) (Err e) P f h p = absurd p
mapped (Err e) a P f h p = p

-- ---- what becomes of a lease that is handed in

module _ {D : Type 0} (d : Ghosts D) (x y : Side D d) (l : Lease) where
  pub plays_accepted : (e : End) (h : Hand) (u : Unit {0}) → Handed (mark_of x) (hand_of h) x.lease l → Step (handed_in e l (Ok u)) (meaning d x.run) (meaning d y.run)
      → y.lease ≡ None → Plays d x (handing_in e h) (Ok Accepted) y
  plays_accepted Done h u a p i = record { event = handed_in Done l (Ok u); asks = dones (hand_of h) l (Ok u) a; does = p; leaves = i; answers = refl }
  plays_accepted Back h u a p i = record { event = handed_in Back l (Ok u); asks = backs (hand_of h) l (Ok u) a; does = p; leaves = i; answers = refl }

  pub plays_refused : (e : End) (h : Hand) (c : Refusal) (b : Lease) → Handed (mark_of x) (hand_of h) x.lease l
      → Step (handed_in e l (Err (c, b))) (meaning d x.run) (meaning d y.run) → y.lease ≡ x.lease → Plays d x (handing_in e h) (Err c) y
  plays_refused Done h c b a p i = record { event = handed_in Done l (Err (c, b)); asks = dones (hand_of h) l (Err (c, b)) a; does = p; leaves = i; answers = refl }
  plays_refused Back h c b a p i = record { event = handed_in Back l (Err (c, b)); asks = backs (hand_of h) l (Err (c, b)) a; does = p; leaves = i; answers = refl }

-- a refused lease leaves the run's meaning
pub kept_refused : (e : End) (l b : Lease) (c : Refusal) (s s' : State) → Step (handed_in e l (Err (c, b))) s s' → s' ≡ s
kept_refused Done l b c s s' p = p.leaves
kept_refused Back l b c s s' p = p.leaves

-- and a side that has its lease again carries it still
pub carried_again : {D : Type 0} (d : Ghosts D) (x : Side D d) (r : Run D d) (o : Option Lease) → meaning d r ≡ meaning d x.run → o ≡ x.lease → carries r.accounts o ≡ true
carried_again d x r o e f = ap (λ (s : State). carries s.accounts o) e ∙ ap (carries x.run.accounts) f ∙ x.carried
