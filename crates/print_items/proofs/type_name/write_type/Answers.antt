use Rattle.std.proofs.Common.{ap, ◌∙◌}
use Rattle.print_output.specs.OutputCall.{lines_begun_after}
use Rattle.print_items.specs.Shown.{shown_type}
use Rattle.print_grammar.specs.Calls.{type_calls}
use Rattle.print_items.proofs.{TypeParts.type_stays, TypeParts.well_in_range, Driven.line_driven, Driven.free_before}
use Rattle.print_items.proofs.type_name.write_type.Goals as goal

pub write_type_name-requires-clause-in_range : goal.write_type_name-requires-clause-in_range
write_type_name-requires-clause-in_range g c = well_in_range c.args.resolve.now c.args.ty.now c.requires.well

pub returns-clause-line : goal.returns-clause-line
returns-clause-line g c free =
    let d = c.write_type_name.ensures.calls in
    let tree = shown_type c.args.resolve.now c.args.ty.now in
    line_driven d free ∙ ap (λ b. lines_begun_after b (type_calls tree)) (c.requires.same_line (free_before d free)) ∙ type_stays tree
