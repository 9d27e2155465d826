-- What an accepted answer says of the conditions that it was provided with.
use Rattle.std.proofs.Common.{◌≡◌, ℕ, Bool, true, false, Ok, Err, Result, refl, arith}
use Rattle.refusal.specs.declared.Refusal.{Refusal}
use Rattle.refusal.specs.Answers.{provided, and_then}

-- no answer is both accepted and refused
pub ok_not_err : {T E : Type 0} (t : T) (e : E) → ◌≡◌ {A = Result T E} (Ok t) (Err e) → ⊥
ok_not_err t e h = let z : ◌≡◌ {A = ℕ} 0 1 = cc in omega arith

pub provided_ok : {T : Type 0} (b : Bool) (e : Refusal) (r : Result T Refusal) (t : T) → Ok t ≡ provided b e r → (b ≡ true) × (Ok t ≡ r)
provided_ok true e r t h = (refl, h)
provided_ok false e r t h = absurd (ok_not_err t e h)

pub and_then_ok : {S T : Type 0} (q : Result S Refusal) (r : Result T Refusal) (t : T) → Ok t ≡ and_then q r → ((x : S) × (Ok x ≡ q)) × (Ok t ≡ r)
and_then_ok (Ok x) r t h = ((x, refl), h)
and_then_ok (Err e) r t h = absurd (ok_not_err t e h)
