use Rattle.std.proofs.Common.{◌∙◌, refl, sym}
use Rattle.print_output.specs.OutputCall.Moves.{nothing_moved}
use Rattle.print_packages.proofs.{PrintableItems.import_shown, ValidWorlds.function_import}
use Rattle.print_packages.proofs.items.print_imported_function.Goals as goal

pub returns-then-not-is_freestanding-clause-ok : goal.returns-then-not-is_freestanding-clause-ok
returns-then-not-is_freestanding-clause-ok g c = rw (sym c.is_freestanding.ensures ∙ c.if-not-is_freestanding.true) (nothing_moved refl)

pub print_item-requires-clause-printable : goal.print_item-requires-clause-printable
print_item-requires-clause-printable g c =
    import_shown c.args.resolve.now c.args.here c.args.key.now c.args.item.now c.requires.printable (function_import c.args.item.now (sym c.is_freestanding.ensures ∙ c.if-not-is_freestanding.false))
