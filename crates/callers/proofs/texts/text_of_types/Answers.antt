use Rattle.std.proofs.{Common.◌∙◌, Common.refl, Common.ap, Common.subst, Common.ℕ, lemmas.Option.slice_get_read}
use Rattle.std.specs.Prelude.{Vec}
use Rattle.std.specs.declared.alloc.Global.{Global}
use Rattle.print_output.specs.OutputCall.{Moves, OutputView}
use Rattle.wit_component.specs.Render.{Written, writes}
use Rattle.callers.specs.Printed.{calls_of_types}
use Rattle.callers.proofs.Printing.{types-printed}
use Rattle.callers.proofs.texts.text_of_types.Goals as goal

pub print_types_of-requires-clause-there : goal.print_types_of-requires-clause-there
print_types_of-requires-clause-there c = slice_get_read c.args.resolve.now.interfaces.items _ c.args.id.0 c.index-interface.result.now refl c.requires.in_range c.index-interface.ensures

pub returns-clause-text : goal.returns-clause-text
returns-clause-text c =
    let r = c.args.resolve.now in
    let own = c.index-interface.result.now in
    let after = c.print_types_of.new.printer.output in
    let calls = calls_of_types r c.args.id own in
    λ i there. types-printed r c.args.id own i c.into_bytes.result.items after (slice_get_read r.interfaces.items _ c.args.id.0 own refl c.requires.in_range c.index-interface.ensures) there
    (subst (λ (v : OutputView Written). Moves writes v calls after) (c.new-printer.ensures.output ∙ c.new.ensures) c.in_ok-print_types_of.ensures.ok)
    (ap (λ (v : Vec ℕ Global). v.items) c.into_bytes.ensures.value ∙ c.from.ensures)
