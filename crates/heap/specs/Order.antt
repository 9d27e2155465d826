-- The order law that every kind of key keeps.
use Rattle.std.specs.Prelude.{◌≡◌, ℕ, Bool, true, false, not, ◌≢◌}

-- No key comes before itself; of two keys with different handles exactly one comes before the other; and what comes before a key comes before all that the key comes before.
pub record Ordered {K : Type 0} (handle : K → ℕ) (before : K → K → Bool) : Type 0 where
  pub never : (p : K) → before p p ≡ false
  pub one : (p q : K) → (handle p ≢ handle q) → before p q ≡ not (before q p)
  pub chain : (p q r : K) → before p q ≡ true → before q r ≡ true → before p r ≡ true
