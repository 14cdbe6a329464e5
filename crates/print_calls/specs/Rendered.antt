-- A text that comes of calls, as it grows.
use Rattle.std.specs.String.{string_bytes}
use Rattle.print_output.specs.{OutputCall.OutputView, Render.Written}
use Rattle.print_calls.specs.declared.rendering.Rendering.{Rendering}

abbrev pub written : Rendering → OutputView Written
written it = record { line_begun = it.line_begun; kept = record { text = string_bytes it.text; level = it.level } }
