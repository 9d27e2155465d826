use Rattle.run.proofs.Asking.{sojourn_fits}
use Rattle.run.proofs.run.Run.sojourn.Goals as goal

pub sojourn-requires : goal.sojourn-requires
sojourn-requires g c =
    let r = c.args.self.now in
    let found = c.in_ok-line.ensures in
    sojourn_fits r.book r.long r.many c.args.number r.accounts.clock r.lines r.figures.0 found.0 _ found.1
