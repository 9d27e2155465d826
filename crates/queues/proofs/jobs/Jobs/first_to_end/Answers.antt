use Rattle.std.proofs.Common.{ℕ, List, length, ap, ◌∙◌}
use Rattle.queues.specs.Rows.{times}
use Rattle.queues.proofs.Turning.{length-turned, times-turned}
use Rattle.queues.proofs.jobs.Jobs.first_to_end.Goals as goal

pub invariant_of-self-clause-many : goal.invariant_of-self-clause-many
invariant_of-self-clause-many c = ap length c.first_to_end.ensures ∙ length-turned c.args.self.now.row ∙ c.args.self.now.many

pub invariant_of-self-clause-once : goal.invariant_of-self-clause-once
invariant_of-self-clause-once c = λ k.
    ap (λ (xs : List ℕ). times k xs) c.first_to_end.ensures
    ∙ times-turned c.args.self.now.row k
    ∙ c.args.self.now.once k
