use Rattle.std.proofs.Common.{ℕ, ◌+◌, ◌<◌, ◌≤◌, List, length, get_or, sum_by, ap, ◌∙◌, arith}
use Rattle.std.proofs.lemmas.List.{take_all}
use Rattle.std.proofs.lemmas.List.Sums.{sum_by_more, sum_by-take-le}
use Rattle.run.specs.declared.line.Line.{Line}
use Rattle.run.specs.Lines.{unused}
use Rattle.run.proofs.Keeping.{left_small, sum_small}
use Rattle.run.proofs.Asking.{no_line}
use Rattle.run.proofs.run.Run.unfinished.Goals as goal

pub overflow_add-sum : goal.overflow_add-sum
overflow_add-sum g c =
    let r = c.args.self.now in
    let l = r.long in
    let i = c.loop-line.line-index in
    let lt : i < length r.book.lines = omega (arith, c.loop-line-test.true) in
    let small : (k : ℕ) → (get_or r.book.lines k unused).left ≤ 10000 = λ k. left_small r.book.entered r.accounts.clock k (get_or r.book.lines k unused) (r.lines k) in
    omega (arith, c.loop-line.invariant, sum_by_more (λ (x : Line). x.left) r.book.lines i no_line lt, sum_by-take-le (λ (x : Line). x.left) r.book.lines (i + 1), sum_small r.book.lines small)

pub loop-line-preserved : goal.loop-line-preserved
loop-line-preserved g c =
    let r = c.args.self.now in
    let l = r.long in
    let i = c.loop-line.line-index in
    let lt : i < length r.book.lines = omega (arith, c.loop-line-test.true) in
    omega (arith, c.loop-line.invariant, sum_by_more (λ (x : Line). x.left) r.book.lines i no_line lt)

pub returns : goal.returns
returns g c =
    let r = c.args.self.now in
    let l = r.long in
    c.loop-line.invariant ∙ ap (λ (xs : List Line). sum_by (λ x. x.left) xs) (take_all c.loop-line.line-index r.book.lines (omega (arith, c.loop-line-test.false)))
