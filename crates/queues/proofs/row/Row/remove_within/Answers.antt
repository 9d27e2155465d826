use Rattle.std.proofs.Common.{sym, ◌∙◌}
use Rattle.queues.proofs.Found.{without_found, without_absent}
use Rattle.queues.proofs.row.Row.remove_within.Goals as goal

pub returns-in-Some : goal.returns-in-Some
returns-in-Some c = c.close.ensures ∙ sym (without_found c.args.number c.args.self.now c.in-Some.at (sym c.find.ensures ∙ c.in-Some.is))

pub returns-in_default : goal.returns-in_default
returns-in_default c = sym (without_absent c.args.number c.args.self.now (sym c.find.ensures ∙ c.in_default.is))
