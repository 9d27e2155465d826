-- The order of names with numbers, over the bytes that spell them, however many there are.
use Rattle.std.specs.Prelude.{ℕ, Bool, true, false, ◌&&◌, ◌||◌, List, [], ◌∷◌, ◌==◌, nat_lt}

-- Byte by byte; the beginning of a longer name comes before it; of equal names that with the smaller number comes first.
abbrev pub earlier : List ℕ → List ℕ → ℕ → ℕ → Bool
earlier [] [] m n = nat_lt m n
earlier [] (b ∷ bs) m n = true
earlier (a ∷ us) [] m n = false
earlier (a ∷ us) (b ∷ bs) m n = nat_lt a b || (a == b && earlier us bs m n)
