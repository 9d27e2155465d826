use Rattle.std.proofs.Common.{◌≡◌, ℕ, ◌<◌, ◌≤◌, length, set, Ok, Result, sym, ap, ◌∙◌, subst, arith, rules}
use Rattle.std.proofs.lemmas.List.{length-set, map-set}
use Rattle.refusal.specs.declared.Refusal.{Refusal}
use Rattle.job.specs.declared.name.Name.{Name}
use Rattle.run.specs.declared.book.Book.{Book}
use Rattle.run.specs.declared.line.Line.{Line}
use Rattle.run.specs.Kept.{LinesKept}
use Rattle.run.specs.Lines.{new_line, lefts}
use Rattle.run.specs.States.{State}
use Rattle.run.specs.Steps.{enter_rule}
use Rattle.run.specs.Runs.{meaning}
use Rattle.refusal.proofs.Accepted.{provided_ok}
use Rattle.run.proofs.Keeping.{entered_lines}
use Rattle.run.proofs.Tying.{tied_run, free_held}
use Rattle.run.proofs.Accepting.{admits, made_good}
use Rattle.run.proofs.run.Run.enter.Goals as goal

-- The discipline takes in the job that the rules let in.
pub unreachable-requires : goal.unreachable-requires
unreachable-requires g c =
    let r = c.args.self.now in
    let s : State = meaning g.D.Discipline r in
    let k = r.book.entered in
    let rule : ◌≡◌ {A = Result ℕ Refusal} (Ok k) (enter_rule s c.args.name.now c.args.size) = search rules in
    c.in_default-admit.not-Ok tt (c.admit.ensures.answers ∙ admits s c.args.name.now c.args.size k (tied_run g.D.Discipline g.met.D.Discipline.sound r) rule)

pub invariant_of-self : goal.invariant_of-self
invariant_of-self g c =
    let r = c.args.self.now in
    let b : Book = r.book in
    let w : Name = c.in-Some.name in
    let t = r.accounts.clock in
    let z = c.args.size in
    let e = sym c.fill.ensures in
    let long = r.long in
    let room = c.if-number-ge-MAX_JOBS.false in
    let low : b.entered < length b.lines = omega arith in
    let size = sym c.if-not-is_size.ensures in
    let name = made_good c.args.name.now w c.in-Some.ensures.keeps c.in-Some.ensures.spells in record {
      agrees = c.in-Ok.ensures.leaves ∙ ap (λ xs. set xs b.entered z) r.agrees ∙ sym (map-set (λ (x : Line). x.left) b.lines b.entered (new_line w t z)) ∙ ap (λ (x : Book). lefts x.lines) e;
      long = subst (λ (x : Book). length x.lines ≡ 1024) e (length-set b.lines b.entered (new_line w t z) ∙ long);
      many = subst (λ (x : Book). x.entered ≤ 1024) e (omega arith);
      lines = subst (λ (x : Book). LinesKept x t) e (entered_lines b t z w low size name r.lines);
      figures = r.figures;
      held = free_held r.accounts.lease _ t (provided_ok _ _ _ _ c.in_ok-may.ensures).0;
    }
