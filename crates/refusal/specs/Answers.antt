-- How a contract tells which refusal comes first, and what a refused call leaves.
use Rattle.std.specs.Prelude.{◌≡◌, Bool, cond, Ok, Err, Result}
use Rattle.refusal.specs.declared.Refusal.{Refusal}

-- The answer r, provided that a condition holds; otherwise a refusal. Nested, the outermost condition is tried first.
abbrev pub provided : {T : Type 0} → Bool → Refusal → Result T Refusal → Result T Refusal
provided b e r = cond b r (Err e)

-- The answer r, provided that a first answer is no refusal; otherwise that refusal.
abbrev pub and_then : {S T : Type 0} → Result S Refusal → Result T Refusal → Result T Refusal
and_then (Ok _) r = r
and_then (Err e) r = Err e

-- What stands after a call: x if it was accepted, y if it was refused.
abbrev pub if_accepted : {T E X : Type 0} → Result T E → X → X → X
if_accepted (Ok _) x y = x
if_accepted (Err _) x y = y

-- A call that was refused leaves x as it was; one that was accepted may leave any y.
abbrev pub KeptIfRefused : {T E X : Type 0} → Result T E → X → X → Type 0
KeptIfRefused (Ok _) x y = Unit {0}
KeptIfRefused (Err _) x y = y ≡ x
