-- The handles and the orders of the two kinds of key.
use Rattle.std.specs.Prelude.{ℕ, Bool, ◌&&◌, ◌||◌, ◌==◌, nat_lt}
use Rattle.job.specs.Names.{spelled}
use Rattle.keys.specs.declared.left.LeftKey.{LeftKey}
use Rattle.keys.specs.declared.named.NameKey.{NameKey}
use Rattle.keys.specs.Names.{earlier}

-- The handle of a key by left work is the job's number.
abbrev pub number_of : LeftKey → ℕ
number_of k = k.number

-- Less left work, or as much and the smaller number.
abbrev pub sooner : LeftKey → LeftKey → Bool
sooner p q = nat_lt p.left q.left || (p.left == q.left && nat_lt p.number q.number)

-- The handle of a key by name is the job's number.
abbrev pub job_of : NameKey → ℕ
job_of k = k.number

-- The name that comes first by its bytes, or the same name and the smaller number.
abbrev pub spelled_before : NameKey → NameKey → Bool
spelled_before p q = earlier (spelled p.name) (spelled q.name) p.number q.number
