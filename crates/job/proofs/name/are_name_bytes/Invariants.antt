use Rattle.std.proofs.Common.{◌≡◌, drop}
use Rattle.job.specs.Rules.{name_bytes}
use Rattle.job.proofs.name.are_name_bytes.Given as goal

abbrev pub invariant-loop-byte : goal.invariant-loop-byte
invariant-loop-byte l = name_bytes (drop l.byte-index l.bytes) ≡ name_bytes l.bytes
