use Rattle.std.proofs.Common.{ℕ, List, length, replicate, refl, ap}
use Rattle.queues.proofs.Admitted.{none_fits, none_once}
use Rattle.queues.proofs.jobs.Jobs.clear.Goals as goal

pub invariant_of-self : goal.invariant_of-self
invariant_of-self c =
    let left = replicate {A = ℕ} 1024 0 in
    let row = c.clear.new.self in
    record {
      long = refl;
      fits = none_fits left row refl c.clear.ensures;
      many = ap (λ (xs : List ℕ). length xs) c.clear.ensures;
      once = none_once left row refl c.clear.ensures;
    }
