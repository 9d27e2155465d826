-- What is told of an answer when it is printed.
use Rattle.std.specs.Prelude.{ℕ, Some, None, Ok, Err, Option, Result}
use Rattle.refusal.specs.declared.Refusal.{Refusal}
use Rattle.contest.specs.declared.calls.Reply.{Reply}
use Rattle.contest.specs.declared.calls.Reply.TheVariants.{Entered, Leased, Accepted}
use Rattle.contest.specs.Played.{Answer}

-- The job that a reply names, if any.
abbrev pub job_named : Reply → Option ℕ
job_named (Entered k) = Some k
job_named (Leased k) = Some k
job_named Accepted = None

-- The number of a job, plain acceptance, or the refusal.
abbrev pub told_of : Answer → Result (Option ℕ) Refusal
told_of (Ok r) = Ok (job_named r)
told_of (Err e) = Err e
