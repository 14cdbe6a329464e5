use Rattle.std.proofs.Common.{◌++◌, ◌∙◌, ◌||◌, ap}
use Rattle.std.specs.List.{flat_map}
use Rattle.print_grammar.specs.Calls.{members_calls, printed_after}
use Rattle.print_uses.specs.Printable.{function_entry_calls, imports_interfaces, world_type_members}
use Rattle.print_items.proofs.Moves.{Moves-append, Begins-append, Begins-more}
use Rattle.print_packages.proofs.items.print_imports.Goals as goal
use Rattle.base_lemmas.proofs.Options.{at_err}

pub returns-in_err-print_imported_interfaces-clause-err : goal.returns-in_err-print_imported_interfaces-clause-err
returns-in_err-print_imported_interfaces-clause-err g c =
    let w = c.args.world.now in
    let types = members_calls c.args.emits_docs (imports_interfaces w.imports.entries) (world_type_members c.args.resolve.now c.args.here c.args.id w) in
    let called = flat_map (function_entry_calls c.args.emits_docs c.args.resolve.now c.args.here) w.imports.entries in
    at_err c.from_residual.result (Begins-more g.O.Output.keeps (types ++ called) c.in_err-print_imported_interfaces.ensures.err)

pub returns-in_err-has_types-clause-err : goal.returns-in_err-has_types-clause-err
returns-in_err-has_types-clause-err g c =
    let called = flat_map (function_entry_calls c.args.emits_docs c.args.resolve.now c.args.here) c.args.world.now.imports.entries in
    at_err c.from_residual-in_err-has_types.result (Begins-append g.O.Output.keeps c.in_ok-print_imported_interfaces.ensures.ok
    (Begins-more g.O.Output.keeps called (rw c.has_interfaces-is_begun.ensures at c.in_err-has_types.ensures.err)))

pub returns-in_err-print_imported_functions-clause-err : goal.returns-in_err-print_imported_functions-clause-err
returns-in_err-print_imported_functions-clause-err g c = at_err c.from_residual-in_err-print_imported_functions.result (Begins-append g.O.Output.keeps c.in_ok-print_imported_interfaces.ensures.ok
    (Begins-append g.O.Output.keeps (rw c.has_interfaces-is_begun.ensures at c.in_ok-has_types.ensures.ok) c.in_err-print_imported_functions.ensures.err))

pub returns-clause-ok : goal.returns-clause-ok
returns-clause-ok g c = Moves-append g.O.Output.keeps c.in_ok-print_imported_interfaces.ensures.ok
    (Moves-append g.O.Output.keeps (rw c.has_interfaces-is_begun.ensures at c.in_ok-has_types.ensures.ok) c.in_ok-print_imported_functions.ensures.ok)

pub returns-clause-printed : goal.returns-clause-printed
returns-clause-printed g c =
    let w = c.args.world.now in
    let members = world_type_members c.args.resolve.now c.args.here c.args.id w in
    c.either.ensures ∙ ap (λ b. b || c.has_functions-has_called.result) (c.in_ok-has_types.ensures.printed ∙ ap (λ b. printed_after b members) c.has_interfaces-is_begun.ensures)
    ∙ ap (λ b. printed_after (imports_interfaces w.imports.entries) members || b) c.has_functions-has_called.ensures

pub print_imported_interfaces-requires-clause-printable : goal.print_imported_interfaces-requires-clause-printable
print_imported_interfaces-requires-clause-printable g c = c.requires.world.imports

pub print_imported_functions-requires-clause-printable : goal.print_imported_functions-requires-clause-printable
print_imported_functions-requires-clause-printable g c = c.requires.world.imports

pub print_world_types-requires : goal.print_world_types-requires
print_world_types-requires g c = record { valid = c.requires.valid; known = c.requires.world.types; functions = c.requires.world.functions }
