-- The rule for refusals, over what can be seen from outside a run.
use Rattle.std.specs.Prelude.{◌≡◌, ℕ, ◌-◌, Bool, not, List, [], ◌∷◌, is_some, Ok, Err, ◌==◌, nat_lt}
use Rattle.refusal.specs.declared.Refusal.TheVariants.{Size, Name, LeaseOut, BookFull, ClockEnd, Nobody, Somebody, NotTheLease}
use Rattle.refusal.specs.Answers.{provided}
use Rattle.job.specs.Rules.{good_size, good_name}
use Rattle.run.specs.Histories.{Event, ticks, units, sizes}
use Rattle.schedule.specs.Histories.{jobs}
use Rattle.contest.specs.Calls.{Hand, own, stray, Call, Enter, Take, Done, Back, Pass}
use Rattle.contest.specs.Transcripts.{Verdict, verdict, lease_out, history}

-- What can be seen from outside: whether a lease is out, how many jobs have entered, the clock, and the unfinished work.
pub record Seen : Type 0 where
  pub leased : Bool
  pub entered : ℕ
  pub clock : ℕ
  pub work : ℕ

-- It can be counted in the transcript: the clock is the number of accepted done, back and pass; the work is the sizes of the accepted
-- enters less the accepted done.
abbrev pub seen : List Event → Seen
seen es = record { leased = is_some (lease_out es); entered = jobs (history es); clock = ticks es; work = sizes es - units es }

-- A lease that is handed in is refused unless it is the run's own and out.
abbrev pub handing_in : Seen → Hand → Verdict
handing_in v own = provided v.leased NotTheLease (Ok tt)
handing_in v stray = Err NotTheLease

-- The verdict on each call.
abbrev pub rule : Seen → Call → Verdict
rule v (Enter name size) =
    provided (good_size size) Size
    (provided (good_name name) Name
    (provided (not v.leased) LeaseOut
    (provided (nat_lt v.entered 1024) BookFull
    (Ok tt))))
rule v Take =
    provided (not v.leased) LeaseOut
    (provided (nat_lt v.clock 16777215) ClockEnd
    (provided (nat_lt 0 v.work) Nobody
    (Ok tt)))
rule v (Done hand) = handing_in v hand
rule v (Back hand) = handing_in v hand
rule v Pass =
    provided (not v.leased) LeaseOut
    (provided (nat_lt v.clock 16777215) ClockEnd
    (provided (v.work == 0) Somebody
    (Ok tt)))

-- Every call got the verdict that the rule gives for what was seen before it.
abbrev pub Ruled : List Call → List Event → Type 0
Ruled [] [] = Unit {0}
Ruled [] (e ∷ es) = ⊥
Ruled (c ∷ cs) [] = ⊥
Ruled (c ∷ cs) (e ∷ es) = Ruled cs es × (verdict e ≡ rule (seen es) c)
