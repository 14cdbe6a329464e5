-- After some turns the text has two spaces for each of them, and there is room for the rest.
use Rattle.std.proofs.Common.{◌≡◌, ◌+◌, ◌*◌, ◌≤◌, ◌++◌}
use Rattle.std.specs.String.{string_bytes, string_len, string_capacity}
use Rattle.print_output.specs.Render.{indentation}
use Rattle.witc_within.proofs.bounded.push_indentation.Given as goal

abbrev pub invariant-loop : goal.invariant-loop
invariant-loop l = record {
  bytes : string_bytes l.text ≡ string_bytes l.fn.text ++ indentation l.counter;
  len : string_len l.text ≡ string_len l.fn.text + 2 * l.counter;
  grown : string_capacity l.fn.text ≤ string_capacity l.text;
  turns : l.counter ≤ l.level;
}
