use Rattle.srpt.specs.Jobs.{enter_answers, enter_leaves}
use Rattle.srpt.proofs.srpt.Srpt.enter.Goals as goal

pub returns : goal.returns
returns c =
    let d = c.args.self.now in
    let k = c.args.key in
    let a = c.insert.result in
    record {
      answers = enter_answers d k a c.requires.0 c.insert.ensures.answers;
      leaves = enter_leaves d.ranking c.insert.new.self k a c.insert.ensures.holds;
    }
