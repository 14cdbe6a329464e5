use Rattle.std.proofs.Common.{◌≡◌, ◌++◌, drop}
use Rattle.witc_run.specs.Hex.{hex_from, hex_text}
use Rattle.witc_run.proofs.hex.hex_lines.Given as goal

abbrev pub invariant-loop-number : goal.invariant-loop-number
invariant-loop-number l = l.text.items ++ hex_from l.number (drop l.number l.fn.bytes) ≡ hex_text l.fn.bytes
