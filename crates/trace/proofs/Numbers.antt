-- What a spelled number looks like, and that digits with no leading zero are one.
use Rattle.std.proofs.Common.{◌≡◌, ℕ, zero, suc, ◌<◌, ◌≤◌, List, length, get_or, take, decimal, sym, refl, ap, ◌∙◌, subst, arith, length-take-le}
use Rattle.std.specs.Int.{IsInRange}
use Rattle.std.specs.Char.{digit_value}
use Rattle.std.specs.Str.Parse.{AllDigits, digits_value}
use Rattle.std.proofs.lemmas.Str.{digit_value_digit}
use Rattle.std.proofs.lemmas.Str.Parse.{IsNumeralModel, digits_value_short, numerals_by_value, tells_digits, digit_at}
use Rattle.std.proofs.lemmas.Fmt.{decimal-digits_value, digits_value-decimal, digits_decimal, decimal_nonempty, decimal_digit, first_decimal, length-decimal-le}
use Rattle.std.proofs.ByRecursion.{All-from_get_or}
use Rattle.trace.specs.Inner.{IsShort}
use Rattle.trace.specs.Lines.{Spells, ByDigits, Lacks}

-- Decimal digits and their value, as the shelf's lemmas take them.
own : IsNumeralModel (AllDigits 10) (digits_value 10)
own = numerals_by_value (AllDigits 10) tells_digits

-- A spelled number has 1 to 6 bytes ..
pub spells_long : (bs : List ℕ) (v : ℕ) → Spells bs v → (0 < length bs) × (length bs ≤ 6)
spells_long bs v h = (
  subst (λ l. 0 < length l) (sym h.1) (decimal_nonempty v (omega arith)),
  subst (λ l. length l ≤ 6) (sym h.1) (length-decimal-le 6 v (omega arith) (omega arith) (omega arith)),
)

lead : (v : ℕ) → v < 1000000 → get_or (decimal v) 0 0 ≡ 48 → length (decimal v) ≡ 1
lead zero l e = ap length (decimal_digit 0 (omega arith))
lead (suc v) l e = absurd (omega (arith, first_decimal (suc v) (omega arith) (omega arith)))

-- .. of which the first is 0 only if it is alone ..
pub spells_lead : (bs : List ℕ) (v : ℕ) → Spells bs v → get_or bs 0 0 ≡ 48 → length bs ≡ 1
spells_lead bs v h e = ap length h.1 ∙ lead v h.0 (ap (λ l. get_or l 0 0) (sym h.1) ∙ e)

-- .. and all are digits,
pub spells_digit : (bs : List ℕ) (v i : ℕ) → Spells bs v → i < length bs → IsInRange 48 57 (get_or bs i 0)
spells_digit bs v i h l = digit_at bs i (subst (AllDigits 10) (sym h.1) (digits_decimal own v (omega arith))) l

-- .. each of which counts less than ten.
pub spells_below : (bs : List ℕ) (v i : ℕ) → Spells bs v → i < length bs → digit_value (get_or bs i 0) < 10
spells_below bs v i h l = let d = spells_digit bs v i h l in omega (arith, d.1, digit_value_digit (get_or bs i 0) d)

-- The value of what is read of short bytes before one of them.
pub small : (bs : List ℕ) (i : ℕ) → IsShort bs → i < length bs → AllDigits 10 (take i bs) → digits_value 10 (take i bs) < 100000
small bs i h l d =
    let long : length (take i bs) ≤ 5 = omega (arith, h.1, length-take-le i bs (omega arith)) in
    digits_value_short own (take i bs) 5 d long

-- Bytes that spell a number are short ..
pub spells_short : (bs : List ℕ) (n : ℕ) → Spells bs n → IsShort bs
spells_short bs n h = let long = spells_long bs n h in (long.0, long.1, spells_lead bs n h)

-- .. and short digits spell their value.
pub spells_value : (bs : List ℕ) → IsShort bs → AllDigits 10 bs → Spells bs (digits_value 10 bs)
spells_value bs h d =
    let few : digits_value 10 bs < 1000000 = digits_value_short own bs 6 d h.1 in
    (few, sym (decimal-digits_value own bs d h.0 h.2 (omega arith)))

pub by_digits : ByDigits
by_digits bs = (
  λ n h.
      let s = spells_short bs n h in
      ((s.0, s.1, subst (AllDigits 10) (sym h.1) (digits_decimal own n (omega arith)), s.2), sym (digits_value-decimal own n (omega arith)) ∙ ap (digits_value 10) (sym h.1)),
  λ h. spells_value bs (h.0, h.1, h.3) h.2,
)

-- A spelled number has no byte below its digits, as a space or an LF.
pub decimal_lacks : (b v : ℕ) → (b < 48) → v < 1000000 → Lacks b (decimal v)
decimal_lacks b v low l = All-from_get_or (λ x. x ≡ b → ⊥) (decimal v) 0 (λ i lt e. let d = spells_digit (decimal v) v i (l, refl) lt in omega arith)
