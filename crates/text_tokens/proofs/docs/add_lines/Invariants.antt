use Rattle.std.proofs.Common.{◌≡◌, ◌++◌, map, string_bytes}
use Rattle.text_tokens.specs.{Documentation.without_returns, Gathered.written}
use Rattle.text_tokens.proofs.docs.add_lines.Given as goal

abbrev pub invariant-loop-line : goal.invariant-loop-line
invariant-loop-line l = string_bytes l.lines ≡ string_bytes l.fn.lines ++ written (map (λ line. without_returns line.now) l.yielded)
