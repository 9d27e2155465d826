-- The answers of calls, as they are shown.
use Rattle.std.specs.Prelude.{ℕ, Some, None, Ok, Err, Option, Result}
use Rattle.refusal.specs.declared.Refusal.{Refusal}

-- Of a call that answers a job's number.
abbrev pub with_number : Result ℕ Refusal → Result (Option ℕ) Refusal
with_number (Ok k) = Ok (Some k)
with_number (Err e) = Err e

-- Of a call that is only accepted or refused.
abbrev pub plain : Result (Unit {0}) Refusal → Result (Option ℕ) Refusal
plain (Ok _) = Ok None
plain (Err e) = Err e
