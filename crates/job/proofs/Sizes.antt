-- What the rule of sizes says of a number.
use Rattle.std.proofs.Common.{◌≡◌, ℕ, ◌<◌, ◌≤◌, true, arith}
use Rattle.std.proofs.lemmas.Bool.Decides.{nat_tests}
use Rattle.job.specs.Rules.{good_size}

pub size_low : (z : ℕ) → good_size z ≡ true → 0 < z
size_low z e = grind (arith, nat_tests)

pub size_high : (z : ℕ) → good_size z ≡ true → z ≤ 10000
size_high z e = grind (arith, nat_tests)
