-- A name is spelled by the bytes that it was made of.
use Rattle.std.proofs.Common.{◌≡◌, ℕ, ◌-◌, ◌≤◌, min, Bool, true, ◌&&◌, leb, List, length, replicate, arith}
use Rattle.std.proofs.lemmas.List.{take_at}
use Rattle.std.proofs.lemmas.Bool.Decides.{nat_tests}
use Rattle.job.specs.Rules.{name_bytes, good_name}
use Rattle.job.specs.Names.{name_of, spelled}

short : (n : ℕ) (b : Bool) → (leb 1 n && (leb n 8 && b)) ≡ true → n ≤ 8
short n b e = grind (arith, nat_tests)

pub spelled-name_of : (bs : List ℕ) → good_name bs ≡ true → spelled (name_of bs) ≡ bs
spelled-name_of bs good =
    let few : length bs ≤ 8 = short (length bs) (name_bytes bs) good in
    let n : length bs ≡ min (length bs) 8 = omega arith in
    take_at bs (replicate (8 - length bs) 0) (min (length bs) 8) n
