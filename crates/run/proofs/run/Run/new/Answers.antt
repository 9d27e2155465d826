use Rattle.std.proofs.Common.{◌≡◌, ◌≤◌, length, sym, refl, ap, ◌∙◌, subst, arith}
use Rattle.std.proofs.lemmas.List.{length-replicate}
use Rattle.run.specs.declared.book.Book.{Book}
use Rattle.run.specs.Lines.{unused, lefts}
use Rattle.run.specs.Kept.{LinesKept}
use Rattle.discipline.specs.Meaning.{Sound}
use Rattle.run.specs.States.{State, Tied}
use Rattle.run.proofs.Keeping.{blank_lines}
use Rattle.run.proofs.Reached.{always_lawful}
use Rattle.run.proofs.Tying.{nobody, blank_lefts, made_state, made_tied}
use Rattle.run.proofs.run.Run.new.Goals as goal

pub invariant_of-result : goal.invariant_of-result
invariant_of-result g c =
    let e = sym c.blank.ensures in record {
      agrees = c.clear.ensures.empties ∙ sym blank_lefts ∙ ap (λ (b : Book). lefts b.lines) e;
      long = subst (λ (b : Book). length b.lines ≡ 1024) e (length-replicate 1024 unused);
      many = subst (λ (b : Book). b.entered ≤ 1024) e (omega arith);
      lines = subst (λ (b : Book). LinesKept b 0) e blank_lines;
      figures = (omega arith, omega arith, omega arith);
      held = refl;
    }

pub returns : goal.returns
returns g c =
    let d = g.D.Discipline in
    let x = c.clear.new.self in
    let empty = c.clear.ensures.empties in
    let sound = g.met.D.Discipline.sound x in
    let e = made_state (d.present x) (d.choice x) c.blank.result _ empty (nobody _ _ sound empty) c.blank.ensures in
    record {
      is = e;
      ties = subst Tied (sym e) (made_tied c.args.mark (subst (λ (s : State). Sound s.present s.choice) e sound));
      moves = c.clear.ensures.moved;
      lawful = always_lawful c.args.mark;
    }
