use Rattle.std.proofs.Common.{ℕ, replicate, refl}
use Rattle.queues.proofs.Admitted.{none_fits, none_once}
use Rattle.queues.proofs.jobs.Jobs.new.Goals as goal

pub invariant_of-result-clause-fits : goal.invariant_of-result-clause-fits
invariant_of-result-clause-fits c = none_fits (replicate {A = ℕ} 1024 0) c.new.result refl c.new.ensures

pub invariant_of-result-clause-once : goal.invariant_of-result-clause-once
invariant_of-result-clause-once c = none_once (replicate {A = ℕ} 1024 0) c.new.result refl c.new.ensures
