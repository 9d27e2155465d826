use Rattle.std.proofs.Common.{◌≡◌, ◌+◌, ◌-◌, ◌≤◌, length, get_or, set, sym, ap, ◌∙◌, subst}
use Rattle.std.proofs.lemmas.List.{length-set}
use Rattle.run.specs.declared.book.Book.{Book}
use Rattle.run.specs.Lines.{unused, lefts, worked_line}
use Rattle.run.specs.Kept.{LinesKept}
use Rattle.run.specs.Steps.{may_answer, book_worked}
use Rattle.run.proofs.Keeping.{lefts_worked, worked_lines}
use Rattle.run.proofs.Ended.{few_present, hand_ours, hand_clock, hand_tick, end_figures, end_lines, end_held}
use Rattle.run.proofs.run.Run.done.Goals as goal

pub invariant_of-self : goal.invariant_of-self
invariant_of-self g c =
    let r = c.args.self.now in
    let b : Book = r.book in
    let p = g.D.Discipline.present r.discipline in
    let a = r.accounts in
    let a' = c.end.new.self in
    let l = c.args.lease in
    let n = c.present-present.result in
    let few = few_present p n (g.met.D.Discipline.sound r.discipline).long c.present-present.ensures in
    let ended = c.end.ensures in
    let ours = hand_ours a l.mark l.tick l.job c.in_default.field-0 (c.in_default.ensures ∙ ap (may_answer a) c.from.ensures) in
    let time = hand_clock a p l.mark l.tick l.job r.held ours in
    let e = sym (c.work.ensures ∙ ap (λ t. book_worked b l.job t) (sym (hand_tick a p l.mark l.tick l.job r.held ours))) in
    record {
      agrees = c.in-Ok.ensures.leaves ∙ ap (λ xs. set xs l.job (get_or xs l.job 0 - 1)) r.agrees ∙ sym (lefts_worked b.lines l.job a.clock) ∙ ap (λ (x : Book). lefts x.lines) e;
      long = subst (λ (x : Book). length x.lines ≡ 1024) e (length-set b.lines l.job (worked_line (get_or b.lines l.job unused) a.clock) ∙ r.long);
      many = subst (λ (x : Book). x.entered ≤ 1024) e r.many;
      lines = end_lines a a' n few ended c.work.new.self (subst (λ (x : Book). LinesKept x (a.clock + 1)) e (worked_lines b a.clock l.job r.lines));
      figures = end_figures a a' n few ended time r.figures;
      held = end_held a a' n few ended _;
    }
