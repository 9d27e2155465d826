use Rattle.std.proofs.Common.{rules, eqb-true}
use Rattle.trace.proofs.Cuts.{lacks_at_all, lacks_nowhere}
use Rattle.trace.proofs.span.Span.word.Goals as goal
use Rattle.trace.proofs.span.Span.word.Goals.{then-is_empty-via-then-is_empty, then-is_empty-via-else-is_empty+then-contains, then-is_empty-via-else-is_empty+else-contains+then-contains-2}

pub returns-then-is_empty : goal.returns-then-is_empty
returns-then-is_empty c = λ w. elim c.then-is_empty.branch [
  | then-is_empty-via-then-is_empty b ↦ search (rules, w)
  | then-is_empty-via-else-is_empty+then-contains b ↦ let h = b.if-contains.ensures.cases in lacks_nowhere 32 _ h.0 h.1 (eqb-true _ _ (h.2 0)) w.1
  | then-is_empty-via-else-is_empty+else-contains+then-contains-2 b ↦ let h = b.if-contains-2.ensures.cases in lacks_nowhere 10 _ h.0 h.1 (eqb-true _ _ (h.2 0)) w.2
]

pub returns : goal.returns
returns c = search (rules, lacks_at_all)
