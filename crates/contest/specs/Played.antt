-- What one call of a contest does to one run.
use Rattle.std.specs.Prelude.{◌≡◌, ℕ, Ok, Err, Result, MatchOption}
use Rattle.refusal.specs.declared.Refusal.{Refusal}
use Rattle.discipline.specs.declared.Discipline.{Ghosts}
use Rattle.run.specs.declared.run.Run.{Run}
use Rattle.run.specs.Runs.{meaning}
use Rattle.run.specs.Steps.{Backs}
use Rattle.run.specs.Histories.{Event, enter, take, done, back, pass, Step}
use Rattle.contest.specs.declared.calls.Hand.{Hand}
use Rattle.contest.specs.declared.calls.Hand.TheVariants.{Own, Stray}
use Rattle.contest.specs.declared.calls.Call.{Call}
use Rattle.contest.specs.declared.calls.Call.TheVariants.{Enter, Take, Done, Back, Pass}
use Rattle.contest.specs.declared.calls.Reply.{Reply}
use Rattle.contest.specs.declared.calls.Reply.TheVariants.{Entered, Leased, Accepted}
use Rattle.contest.specs.declared.side.Side.{Side}
use Rattle.run.specs.declared.ending.End.{End}
use Rattle.run.specs.declared.ending.End.TheVariants as Ends
use Rattle.contest.specs.Calls as C
use Rattle.contest.specs.Transcripts.{without_lease, lease_after}
use Rattle.contest.specs.Chains.{Asks}

-- ---- the calls of the program, as those of a list

abbrev pub hand_of : Hand → C.Hand
hand_of Own = C.own
hand_of Stray = C.stray

abbrev pub call_of : Call → C.Call
call_of (Enter name size) = C.Enter name.now size
call_of Take = C.Take
call_of (Done hand) = C.Done (hand_of hand)
call_of (Back hand) = C.Back (hand_of hand)
call_of Pass = C.Pass

-- The call that ends a tick.
abbrev pub handing_in : End → Hand → C.Call
handing_in Ends.Done hand = C.Done (hand_of hand)
handing_in Ends.Back hand = C.Back (hand_of hand)

-- What a run answers, as it is written down.
abbrev pub Answer : Type 0
Answer = Result Reply Refusal

-- The answer of a call, by the reply that its value makes where it is accepted.
abbrev pub replied : {T : Type 0} → (T → Reply) → Result T Refusal → Answer
replied f (Ok x) = Ok (f x)
replied f (Err e) = Err e

-- The answer that is written down for a call of a run.
abbrev pub answer_of : Event → Answer
answer_of (enter n z r) = replied Entered r
answer_of (take r) = replied (λ l. Leased l.job) r
answer_of (done l r) = replied (λ _. Accepted) (without_lease r)
answer_of (back l r) = replied (λ _. Accepted) (without_lease r)
answer_of (pass r) = replied (λ _. Accepted) r

-- ---- a call on one side

-- The mark of a side's run.
abbrev pub mark_of : {D : Type 0} {d : Ghosts D} → Side D d → ℕ
mark_of x = x.run.accounts.mark

-- The call c was made on the side x; it answered a and left y.
pub record Plays {D : Type 0} (d : Ghosts D) (x : Side D d) (c : C.Call) (a : Answer) (y : Side D d) : Type 0 where
  pub event : Event
  pub asks : Asks (mark_of x) x.lease c event
  pub does : Step event (meaning d x.run) (meaning d y.run)
  pub leaves : y.lease ≡ lease_after event x.lease
  pub answers : a ≡ answer_of event

-- The lease that the side x has out, if any, was handed back as a lost tick, which left the run r; and otherwise x's run is as it was.
abbrev pub HandedBack : {D : Type 0} → (d : Ghosts D) → Side D d → Run D d → Type 0
HandedBack d x r = MatchOption x.lease (meaning d r ≡ meaning d x.run) (λ l. Backs (meaning d x.run) l (Ok tt) (meaning d r))
