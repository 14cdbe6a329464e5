use Rattle.std.proofs.Common.{◌≡◌, drop}
use Rattle.comp_bytes.specs.Reading.{last_byte_of}
use Rattle.comp_bytes.proofs.number.last_byte_of.Given as goal

abbrev pub invariant-loop-byte : goal.invariant-loop-byte
invariant-loop-byte l = last_byte_of (drop l.byte-index l.bytes) ≡ last_byte_of l.bytes
