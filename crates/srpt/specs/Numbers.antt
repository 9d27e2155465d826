-- A ranking holds a key under its own job number, and none under a number above 1,023.
use Rattle.std.specs.Prelude.{◌≡◌, ℕ, zero, suc, ◌≤◌, List, [], ◌∷◌, Some, None}
use Rattle.std.proofs.Common.{arith}
use Rattle.std.proofs.lemmas.Bool.Decides.{nat_tests}
use Rattle.heap.specs.Held.{held}
use Rattle.heap.specs.Rankings.{keys_of}
use Rattle.heap.proofs.Handles.{held_none}
use Rattle.keys.specs.declared.left.LeftKey.{LeftKey}
use Rattle.keys.specs.Orders.{number_of}
use Rattle.srpt.specs.Ranked.{JobRanking}

pub own_number : (ks : List LeftKey) (n h : ℕ) (k : LeftKey) → held number_of ks n h ≡ Some k → k.number ≡ h
own_number ks zero h k e = cc
own_number [] (suc n) h k e = cc
own_number (x ∷ ks) (suc n) h k e = grind (arith, nat_tests, own_number ks n h k)

pub none_above : (r : JobRanking) (h : ℕ) → 1024 ≤ h → keys_of r h ≡ None
none_above r h g =
    let unused : LeftKey = record { left = 0; number = 0 } in
    held_none number_of r.keys r.len unused h r.order.fits (λ i l e. omega (arith, (r.order.low unused i l).0))
