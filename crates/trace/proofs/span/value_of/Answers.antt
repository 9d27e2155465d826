use Rattle.std.proofs.Common.{rules}
use Rattle.std.proofs.lemmas.List.{take_all}
use Rattle.std.proofs.lemmas.Int.Digits.{digits_value_more, digits_more}
use Rattle.trace.proofs.Numbers.{spells_short, spells_below, small, spells_value}
use Rattle.trace.proofs.span.value_of.Goals as goal

pub returns-then-not-is_short : goal.returns-then-not-is_short
returns-then-not-is_short c = search (rules, spells_short)

pub returns-in_err-value : goal.returns-in_err-value
returns-in_err-value c = search (rules, spells_below)

pub overflow_mul-value : goal.overflow_mul-value
overflow_mul-value c = search (rules, small)

pub overflow_add-value : goal.overflow_add-value
overflow_add-value c = search (rules, small)

pub loop-byte-preserved : goal.loop-byte-preserved
loop-byte-preserved c = search (rules, digits_more, digits_value_more)

pub returns : goal.returns
returns c = search (rules, take_all, spells_value)
