use Rattle.std.proofs.Common.{[], ◌∷◌, ◌++◌, false, refl, append_assoc}
use Rattle.print_output.specs.OutputCall.OutputCall.{IndentEnd, IndentStart}
use Rattle.print_grammar.specs.Calls.{line_after_calls, members_calls}
use Rattle.print_packages.specs.Heads.{head_calls}
use Rattle.print_items.specs.Shown.{shown_interface}
use Rattle.print_items.proofs.Moves.{Begins-more, begun_first, begun_on, going, made_on, made_last, refused_last}
use Rattle.print_packages.proofs.package.print_interface.Goals as goal
use Rattle.base_lemmas.proofs.Options.{at_err}
use Rattle.std.proofs.lemmas.Result.{on_err_weaker as on_err, on_ok_weaker as on_ok}

pub returns-in_err-print_interface_start-clause-err : goal.returns-in_err-print_interface_start-clause-err
returns-in_err-print_interface_start-clause-err g c =
    let rest = members_calls c.args.emits_docs false (shown_interface c.args.resolve.now c.args.id c.args.interface.now) ++ (IndentEnd ∷ line_after_calls c.args.is_main) in
    at_err c.from_residual.result
    (begun_first rest c.in_err-print_interface_start.ensures.err (append_assoc (head_calls c.args.emits_docs c.args.interface.now c.args.name.now) (IndentStart ∷ []) rest))

pub returns-in_err-print_interface_body-clause-err : goal.returns-in_err-print_interface_body-clause-err
returns-in_err-print_interface_body-clause-err g c =
    let end = IndentEnd ∷ line_after_calls c.args.is_main in
    let rest = members_calls c.args.emits_docs false (shown_interface c.args.resolve.now c.args.id c.args.interface.now) ++ end in
    at_err c.from_residual-in_err-print_interface_body.result (begun_on c.in_ok-print_interface_start.ensures.ok (Begins-more g.O.Output.keeps end c.in_err-print_interface_body.ensures.err)
    (append_assoc (head_calls c.args.emits_docs c.args.interface.now c.args.name.now) (IndentStart ∷ []) rest))

pub returns : goal.returns
returns g c =
    let head = head_calls c.args.emits_docs c.args.interface.now c.args.name.now in
    let body = members_calls c.args.emits_docs false (shown_interface c.args.resolve.now c.args.id c.args.interface.now) in
    let end = IndentEnd ∷ line_after_calls c.args.is_main in
    let start = going ((head ++ IndentStart ∷ []) ++ (body ++ end)) _ (g.O.Output.view c.args.output.now) (append_assoc head (IndentStart ∷ []) (body ++ end)) in
    let inside = made_on body end (made_on (head ++ IndentStart ∷ []) (body ++ end) start refl c.in_ok-print_interface_start.ensures.ok) refl c.in_ok-print_interface_body.ensures.ok in
    record {
      ok = on_ok c.print_interface_end.result (λ m. made_last end inside m) c.print_interface_end.ensures.ok;
      err = on_err c.print_interface_end.result (λ b. refused_last end inside b) c.print_interface_end.ensures.err;
      memory = c.print_interface_end.ensures.memory;
    }
