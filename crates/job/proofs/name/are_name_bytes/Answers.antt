use Rattle.std.proofs.Common.{sym, ◌∙◌}
use Rattle.job.proofs.Scanning.{stops, goes_on, ends}
use Rattle.job.proofs.name.are_name_bytes.Goals as goal

pub returns-then-not-is_name_byte : goal.returns-then-not-is_name_byte
returns-then-not-is_name_byte c = stops c.args.bytes.now c.loop-byte.byte-index c.loop-byte.invariant c.loop-byte-test.true (sym c.is_name_byte.ensures ∙ c.if-not-is_name_byte.true)

pub loop-byte-preserved : goal.loop-byte-preserved
loop-byte-preserved c = goes_on c.args.bytes.now c.loop-byte.byte-index c.loop-byte.invariant c.loop-byte-test.true (sym c.is_name_byte.ensures ∙ c.if-not-is_name_byte.false)

pub returns : goal.returns
returns c = ends c.args.bytes.now c.loop-byte.byte-index c.loop-byte.invariant c.loop-byte-test.false
