-- After some turns the text has two spaces for each of them, and there is room for the rest.
use Rattle.std.proofs.Common.{◌≡◌, ◌+◌, ◌*◌, ◌≤◌, ◌++◌}
use Rattle.std.specs.String.{string_bytes, string_len, string_capacity}
use Rattle.print_output.specs.Render.{indentation}
use Rattle.print_output.proofs.output_to_string.push_indentation.Given as goal

abbrev pub invariant-loop : goal.invariant-loop
invariant-loop l = record {
  bytes : string_bytes l.output ≡ string_bytes l.fn.output ++ indentation l.counter;
  len : string_len l.output ≡ string_len l.fn.output + 2 * l.counter;
  grown : string_capacity l.fn.output ≤ string_capacity l.output;
  turns : l.counter ≤ l.level;
}
