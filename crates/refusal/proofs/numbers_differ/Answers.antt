use Rattle.refusal.proofs.Apart.{told_apart}
use Rattle.refusal.proofs.numbers_differ.Goals as goal

pub returns : goal.returns
returns c = told_apart
