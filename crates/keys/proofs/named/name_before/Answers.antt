use Rattle.std.proofs.Common.{ap, ◌∙◌}
use Rattle.std.specs.Ordering.{is_lt}
use Rattle.keys.proofs.Compared.{earlier_cmp}
use Rattle.keys.proofs.named.name_before.Goals as goal

pub returns : goal.returns
returns c = c.is_lt.ensures ∙ ap is_lt c.then.ensures ∙ cc (c.cmp.ensures, c.cmp-2.ensures) ∙ earlier_cmp c.args.a.now c.args.b.now c.args.m c.args.n
