use Rattle.std.proofs.Common.{[], ◌∷◌, ◌++◌, ◌∙◌, false, append_assoc}
use Rattle.std.proofs.lemmas.Result.{on_err_weaker as on_err, on_ok_weaker as on_ok}
use Rattle.print_output.specs.OutputCall.OutputCall.{IndentEnd, Keyword}
use Rattle.print_grammar.specs.Calls.{members_calls, prefix_calls, space}
use Rattle.print_items.specs.{ItemCalls.inline_start_calls, Shown.shown_interface, Shown.shown_prefix}
use Rattle.print_items.proofs.Moves.{Moves-append, Begins-append, Begins-more, begun_first, begun_on, moved_on}
use Rattle.base_lemmas.proofs.Options.{at_err}
use Rattle.print_packages.proofs.extern_item.print_inline.Goals as goal

pub returns-in_err-print_inline_start-clause-err : goal.returns-in_err-print_inline_start-clause-err
returns-in_err-print_inline_start-clause-err g c =
    let prefix = shown_prefix c.args.docs.now c.args.stability.now c.args.external_id.now in
    let front = prefix_calls c.args.emits_docs prefix in
    let word = Keyword c.args.word.now ∷ space ∷ [] in
    let label = inline_start_calls c.args.label.now in
    let rest = members_calls c.args.emits_docs false (shown_interface c.args.resolve.now c.args.id c.args.interface.now) ++ (IndentEnd ∷ []) in
    at_err c.from_residual.result (begun_first rest c.in_err-print_inline_start.ensures.err (append_assoc (front ++ word) label rest ∙ append_assoc front word (label ++ rest)))

pub returns-in_err-print_interface_body-clause-err : goal.returns-in_err-print_interface_body-clause-err
returns-in_err-print_interface_body-clause-err g c =
    let prefix = shown_prefix c.args.docs.now c.args.stability.now c.args.external_id.now in
    let front = prefix_calls c.args.emits_docs prefix in
    let word = Keyword c.args.word.now ∷ space ∷ [] in
    let label = inline_start_calls c.args.label.now in
    let rest = members_calls c.args.emits_docs false (shown_interface c.args.resolve.now c.args.id c.args.interface.now) ++ (IndentEnd ∷ []) in
    at_err c.from_residual-in_err-print_interface_body.result (begun_on c.in_ok-print_inline_start.ensures.ok (Begins-more g.O.Output.keeps (IndentEnd ∷ []) c.in_err-print_interface_body.ensures.err)
    (append_assoc (front ++ word) label rest ∙ append_assoc front word (label ++ rest)))

pub returns : goal.returns
returns g c =
    let prefix = shown_prefix c.args.docs.now c.args.stability.now c.args.external_id.now in
    let front = prefix_calls c.args.emits_docs prefix in
    let word = Keyword c.args.word.now ∷ space ∷ [] in
    let label = inline_start_calls c.args.label.now in
    let rest = members_calls c.args.emits_docs false (shown_interface c.args.resolve.now c.args.id c.args.interface.now) ++ (IndentEnd ∷ []) in
    let whole = append_assoc (front ++ word) label rest ∙ append_assoc front word (label ++ rest) in
    record {
      ok = on_ok c.print_block_end.result
          (λ m. moved_on c.in_ok-print_inline_start.ensures.ok (Moves-append g.O.Output.keeps c.in_ok-print_interface_body.ensures.ok m) whole) c.print_block_end.ensures.ok;
      err = on_err c.print_block_end.result
          (λ b. begun_on c.in_ok-print_inline_start.ensures.ok (Begins-append g.O.Output.keeps c.in_ok-print_interface_body.ensures.ok b) whole) c.print_block_end.ensures.err;
      memory = c.print_block_end.ensures.memory;
    }
