use Rattle.std.proofs.Common.{◌<◌, max, length, ap, ◌∙◌, arith}
use Rattle.std.proofs.lemmas.List.Sums.{fold_more}
use Rattle.std.proofs.lemmas.Bool.Decides.{nat_tests}
use Rattle.run.specs.declared.line.Line.{Line}
use Rattle.run.specs.Lines.{sojourn_of}
use Rattle.run.proofs.Asking.{no_line, line_at, in_front, line_in_front, sojourn_fits}
use Rattle.run.proofs.run.Run.longest.Goals as goal

pub sojourn-requires : goal.sojourn-requires
sojourn-requires g c =
    let r = c.args.self.now in
    let k = c.loop-line.line-index in
    let lt : k < r.book.entered = in_front r.book r.long r.many k c.loop-line-test.true in
    sojourn_fits r.book r.long r.many k r.accounts.clock r.lines r.figures.0 lt _
    (line_in_front r.book r.long r.many k lt ∙ line_at r.book r.long r.many k lt)

pub loop-line-preserved : goal.loop-line-preserved
loop-line-preserved g c =
    let r = c.args.self.now in
    let k = c.loop-line.line-index in
    let long = r.long in
    let many = r.many in
    let lt : k < r.book.entered = in_front r.book long many k c.loop-line-test.true in
    let low : k < length r.book.lines = omega arith in
    let s = ap sojourn_of (line_in_front r.book long many k lt) in
    let f = fold_more (λ m (x : Line). max m (sojourn_of x)) 0 r.book.lines k no_line low in
    let h = c.max-longest.ensures in
    let e = c.sojourn.ensures in
    let n = c.loop-line.invariant in
    grind (arith, nat_tests, f, s, e, n, h)
