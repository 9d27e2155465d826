-- A cause can be told from its number.
use Rattle.std.proofs.Common.{◌≡◌, ℕ, cond, eqb, sym, refl, ap, ◌∙◌}
use Rattle.refusal.specs.declared.Refusal.{Refusal}
use Rattle.refusal.specs.declared.Refusal.TheVariants.{Size, Name, LeaseOut, BookFull, ClockEnd, Nobody, Somebody, NotTheLease, OutOfRange, Held, NotHeld, Quantum, TraceTooLong, LineForm, TickOrder, BufferTooShort}
use Rattle.refusal.specs.Causes.{number_of, ToldApart}

abbrev cause_of : ℕ → Refusal
cause_of n =
    cond (eqb n 1) Size
    (cond (eqb n 2) Name
    (cond (eqb n 3) LeaseOut
    (cond (eqb n 4) BookFull
    (cond (eqb n 5) ClockEnd
    (cond (eqb n 6) Nobody
    (cond (eqb n 7) Somebody
    (cond (eqb n 8) NotTheLease
    (cond (eqb n 9) OutOfRange
    (cond (eqb n 10) Held
    (cond (eqb n 11) NotHeld
    (cond (eqb n 12) Quantum
    (cond (eqb n 13) TraceTooLong
    (cond (eqb n 14) LineForm
    (cond (eqb n 15) TickOrder
    BufferTooShort))))))))))))))

back : (c : Refusal) → cause_of (number_of c) ≡ c
back Size = refl
back Name = refl
back LeaseOut = refl
back BookFull = refl
back ClockEnd = refl
back Nobody = refl
back Somebody = refl
back NotTheLease = refl
back OutOfRange = refl
back Held = refl
back NotHeld = refl
back Quantum = refl
back TraceTooLong = refl
back LineForm = refl
back TickOrder = refl
back BufferTooShort = refl

pub told_apart : ToldApart
told_apart c d e = sym (back c) ∙ ap cause_of e ∙ back d
