use Rattle.std.proofs.Common.{◌≡◌, Some, sym, ◌∙◌, rules}
use Rattle.queues.specs.Standing.{without_last}
use Rattle.queues.proofs.row.Row.remove.Goals as goal

pub returns-then-eq-2 : goal.returns-then-eq-2
returns-then-eq-2 c =
    let e : c.last.result ≡ Some c.args.number = search rules in
    c.drop_last.ensures ∙ sym (without_last c.args.self.now c.args.number c.requires (sym c.last.ensures ∙ e))
