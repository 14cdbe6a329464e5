use Rattle.std.proofs.Common.{◌≡◌, ◌++◌, ◌∙◌, ap, subst, sym, IfOk, OnErr}
use Rattle.wit_model.specs.declared.model.PackageId.{PackageId}
use Rattle.print_output.specs.OutputCall.{Begins}
use Rattle.print_grammar.specs.Calls.{members_calls, printed_after}
use Rattle.print_uses.specs.UseGroups.{listed_of, use_members}
use Rattle.print_packages.specs.GivenTypes.{given_declarations}
use Rattle.print_uses.proofs.Declarations.{members_append, printed_append}
use Rattle.print_packages.proofs.GivenSteps.{under_known}
use Rattle.print_items.proofs.Moves.{begun_first, begun_on, moved_on}
use Rattle.print_packages.proofs.given_types.print_given_types.Goals as goal
use Rattle.base_lemmas.proofs.Options.{at_err}
use Rattle.std.proofs.lemmas.Result.{on_err_weaker as on_err, on_ok_weaker as on_ok}

pub returns-in_err-has_used-clause-err : goal.returns-in_err-has_used-clause-err
returns-in_err-has_used-clause-err g c =
    let uses = λ (h : PackageId). use_members c.args.resolve.now h c.args.owner (listed_of c.args.types.now) in
    let declared = given_declarations c.args.resolve.now c.args.owner c.args.functions.now.entries (listed_of c.args.types.now) in
    subst (λ h. OnErr c.from_residual.result (Begins g.O.Output.keeps (g.O.Output.view c.args.output.now) (members_calls c.args.emits_docs c.args.has_printed (uses h ++ declared))
    (g.O.Output.view c.print_uses.new.output))) c.here_of-here.ensures (at_err c.from_residual.result
    (begun_first (members_calls c.args.emits_docs (printed_after c.args.has_printed (uses c.here_of-here.result)) declared) c.in_err-has_used.ensures.err
    (sym (members_append c.args.emits_docs c.args.has_printed (uses c.here_of-here.result) declared))))

pub returns : goal.returns
returns g c =
    let uses = λ (h : PackageId). use_members c.args.resolve.now h c.args.owner (listed_of c.args.types.now) in
    let here = uses c.here_of-here.result in
    let declared = given_declarations c.args.resolve.now c.args.owner c.args.functions.now.entries (listed_of c.args.types.now) in
    let same = ap (λ b. members_calls c.args.emits_docs c.args.has_printed here ++ members_calls c.args.emits_docs b declared) c.in_ok-has_used.ensures.printed ∙ sym
    (members_append c.args.emits_docs c.args.has_printed here declared) ∙ ap (λ h. members_calls c.args.emits_docs c.args.has_printed (uses h ++ declared)) c.here_of-here.ensures in
    record {
      ok = on_ok c.print_declarations.result (λ m. moved_on c.in_ok-has_used.ensures.ok m same) c.print_declarations.ensures.ok;
      err = on_err c.print_declarations.result (λ b. begun_on c.in_ok-has_used.ensures.ok b same) c.print_declarations.ensures.err;
      printed = subst (λ y. IfOk c.print_declarations.result (λ x. x ≡ y)) (ap (λ b. printed_after b declared) c.in_ok-has_used.ensures.printed
          ∙ sym (printed_append c.args.has_printed here declared) ∙ ap (λ h. printed_after c.args.has_printed (uses h ++ declared)) c.here_of-here.ensures) c.print_declarations.ensures.printed;
      memory = c.print_declarations.ensures.memory;
    }

pub print_declarations-requires-clause-functions : goal.print_declarations-requires-clause-functions
print_declarations-requires-clause-functions g c = λ id. under_known c.args.resolve.now c.args.owner id c.args.functions.now.entries c.requires.functions
