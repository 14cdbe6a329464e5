use Rattle.std.proofs.Common.{◌≡◌, ◌++◌, ◌*◌}
use Rattle.std.specs.{Prelude.replicate, String.string_bytes}
use Rattle.print_calls.proofs.rendering.push_indentation.Given as goal

abbrev pub invariant-loop : goal.invariant-loop
invariant-loop l = string_bytes l.text ≡ string_bytes l.initial.text ++ replicate (2 * l.counter) 32
