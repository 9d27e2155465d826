-- The number and the text of each cause of a refusal.
use Rattle.std.specs.Prelude.{◌≡◌, ℕ, List, codes}
use Rattle.refusal.specs.declared.Refusal.{Refusal}
use Rattle.refusal.specs.declared.Refusal.TheVariants.{Size, Name, LeaseOut, BookFull, ClockEnd, Nobody, Somebody, NotTheLease, OutOfRange, Held, NotHeld, Quantum, TraceTooLong, LineForm, TickOrder, BufferTooShort}

-- The number under which a cause is reported.
abbrev pub number_of : Refusal → ℕ
number_of Size = 1
number_of Name = 2
number_of LeaseOut = 3
number_of BookFull = 4
number_of ClockEnd = 5
number_of Nobody = 6
number_of Somebody = 7
number_of NotTheLease = 8
number_of OutOfRange = 9
number_of Held = 10
number_of NotHeld = 11
number_of Quantum = 12
number_of TraceTooLong = 13
number_of LineForm = 14
number_of TickOrder = 15
number_of BufferTooShort = 16

-- Different causes have different numbers.
abbrev pub ToldApart : Type 0
ToldApart = (c d : Refusal) → number_of c ≡ number_of d → c ≡ d

-- The bytes of its text.
abbrev pub text_of : Refusal → List ℕ
text_of Size = codes "the size is 0 or above 10,000"
text_of Name = codes "the name is not 1 to 8 bytes of a-z, 0-9 and hyphen"
text_of LeaseOut = codes "a lease is out"
text_of BookFull = codes "the book has 1,024 jobs already"
text_of ClockEnd = codes "the clock is at its last tick"
text_of Nobody = codes "nobody is present"
text_of Somebody = codes "somebody is present"
text_of NotTheLease = codes "not the lease that is out"
text_of OutOfRange = codes "the number is out of range"
text_of Held = codes "the number is held already"
text_of NotHeld = codes "the number is not held"
text_of Quantum = codes "the quantum is 0 or above 10,000"
text_of TraceTooLong = codes "the trace has more than 65,536 bytes"
text_of LineForm = codes "the line has neither form or no end"
text_of TickOrder = codes "the tick is out of order"
text_of BufferTooShort = codes "the buffer has fewer than 65,536 bytes"
