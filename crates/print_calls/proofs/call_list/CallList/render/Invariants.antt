use Rattle.std.proofs.Common.{◌≡◌, ◌≤◌, drop}
use Rattle.print_output.specs.{OutputCall.after_all, Render.blank, Render.writes}
use Rattle.print_calls.specs.{Listed.calls_of, Rendered.written}
use Rattle.print_calls.proofs.call_list.CallList.render.Given as goal

abbrev pub invariant-loop-call : goal.invariant-loop-call
invariant-loop-call l = record {
  rest : after_all writes (written l.rendering) (calls_of (drop l.call-index l.fn.self.calls.items)) ≡ after_all writes blank (calls_of l.fn.self.calls.items);
  level : l.rendering.level ≤ l.call-index;
}
