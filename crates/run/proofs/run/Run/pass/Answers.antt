use Rattle.run.proofs.Keeping.{later_lines}
use Rattle.run.proofs.Ended.{few_present, pass_clock, end_figures, end_lines, end_held}
use Rattle.run.proofs.run.Run.pass.Goals as goal

pub invariant_of-self : goal.invariant_of-self
invariant_of-self g c =
    let r = c.args.self.now in
    let p = g.D.Discipline.present r.discipline in
    let a = r.accounts in
    let a' = c.end.new.self in
    let n = c.present-present.result in
    let few = few_present p n (g.met.D.Discipline.sound r.discipline).long c.present-present.ensures in
    let e = c.end.ensures in
    record {
      agrees = r.agrees;
      long = r.long;
      many = r.many;
      lines = end_lines a a' n few e r.book (later_lines r.book a.clock r.lines);
      figures = end_figures a a' n few e (pass_clock a c.in_ok-may.field-0 c.in_ok-may.ensures) r.figures;
      held = end_held a a' n few e p;
    }
