use Rattle.std.proofs.{Common.◌++◌, Common.◌∙◌, Common.ap, Common.false, lemmas.Result.on_err_weaker as on_err, lemmas.Result.on_ok_weaker as on_ok}
use Rattle.print_grammar.specs.Calls.{members_calls, printed_after}
use Rattle.print_uses.specs.{Printable.shown_functions, UseGroups.type_members}
use Rattle.print_items.specs.Shown.{listed_functions, listed_types}
use Rattle.print_items.proofs.Moves.{begun_first, begun_on, moved_on}
use Rattle.print_uses.proofs.Declarations.{interface_calls, placed_here}
use Rattle.print_packages.proofs.Functions.{functions_printable}
use Rattle.base_lemmas.proofs.Options.{at_err}
use Rattle.wit_model.specs.declared.model.TypeOwner.TheVariants as owner
use Rattle.print_packages.proofs.interface.print_interface_body.Goals as goal

pub returns-in-None-clause-ok : goal.returns-in-None-clause-ok
returns-in-None-clause-ok g c = absurd (placed_here c.args.resolve.now c.requires.valid c.args.id c.args.interface.now c.requires.at c.in-None.is)

pub returns-in_err-has_printed-clause-err : goal.returns-in_err-has_printed-clause-err
returns-in_err-has_printed-clause-err g c =
    let r = c.args.resolve.now in
    let i = c.args.interface.now in
    let types = type_members r c.in-Some.here (owner.Interface c.args.id) (listed_functions i) (listed_types i) in
    at_err c.from_residual.result (begun_first (members_calls c.args.emits_docs (printed_after false types) (shown_functions r i.functions.entries)) c.in_err-has_printed.ensures.err
    (interface_calls r c.requires.valid c.args.id i c.requires.at c.args.emits_docs c.in-Some.here c.in-Some.is))

pub print_functions-requires-clause-printable : goal.print_functions-requires-clause-printable
print_functions-requires-clause-printable g c = functions_printable c.args.resolve.now c.args.id c.args.interface.now c.requires.valid c.requires.at

pub returns : goal.returns
returns g c =
    let r = c.args.resolve.now in
    let i = c.args.interface.now in
    let types = type_members r c.in-Some.here (owner.Interface c.args.id) (listed_functions i) (listed_types i) in
    let same = ap (λ b. members_calls c.args.emits_docs false types ++ members_calls c.args.emits_docs b (shown_functions r i.functions.entries)) c.in_ok-has_printed.ensures.printed
    ∙ interface_calls r c.requires.valid c.args.id i c.requires.at c.args.emits_docs c.in-Some.here c.in-Some.is in
    record {
      ok = on_ok c.print_functions.result (λ m. moved_on c.in_ok-has_printed.ensures.ok m same) c.print_functions.ensures.ok;
      err = on_err c.print_functions.result (λ b. begun_on c.in_ok-has_printed.ensures.ok b same) c.print_functions.ensures.err;
      memory = c.print_functions.ensures.memory;
    }
