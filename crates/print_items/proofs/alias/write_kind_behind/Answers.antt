use Rattle.std.proofs.Common.{ap, ◌∙◌}
use Rattle.print_output.specs.OutputCall.{lines_begun_after}
use Rattle.print_items.specs.TypeParts.{kind_calls}
use Rattle.print_items.proofs.{Declared.kind_stays, Driven.line_driven, Driven.free_before}
use Rattle.print_items.proofs.alias.write_kind_behind.Goals as goal

pub returns-clause-line : goal.returns-clause-line
returns-clause-line g c free =
    let d = c.write_unnamed.ensures.calls in
    line_driven d free ∙ ap (λ b. lines_begun_after b (kind_calls c.args.resolve.now c.args.id)) (c.requires.same_line (free_before d free)) ∙ kind_stays c.args.resolve.now c.args.id
