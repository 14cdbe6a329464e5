use Rattle.std.proofs.Common.{◌≡◌, ◌++◌, ◌∙◌, ap, map, refl, subst, sym, IfOk}
use Rattle.print_output.specs.OutputCall.Begins.{nothing_begun}
use Rattle.print_grammar.specs.Calls.{members_calls, printed_after}
use Rattle.print_packages.specs.GivenTypes.{given_declarations}
use Rattle.print_items.specs.Shown.{belongs_to}
use Rattle.print_uses.specs.UseGroups.{declared_members, is_listed_function, listed_of, use_members}
use Rattle.print_packages.proofs.ByResource.{all_of_some, declared_by_resource}
use Rattle.print_uses.proofs.Declarations.{members_append, printed_append}
use Rattle.print_items.proofs.Moves.{begun_first, begun_on, moved_on}
use Rattle.print_packages.proofs.types.print_owned_types.Goals as goal
use Rattle.base_lemmas.proofs.Options.{at_err}
use Rattle.std.proofs.lemmas.Result.{on_err_weaker as on_err, on_ok_weaker as on_ok}

pub returns-in_err-grouped-clause-err : goal.returns-in_err-grouped-clause-err
returns-in_err-grouped-clause-err g c = at_err c.from_residual.result (nothing_begun refl)

pub returns-in_err-has_used-clause-err : goal.returns-in_err-has_used-clause-err
returns-in_err-has_used-clause-err g c =
    let types = listed_of c.args.types.now in
    let uses = use_members c.args.resolve.now c.args.here c.args.owner types in
    let declared = declared_members c.args.resolve.now c.args.owner (map (λ f. f.now) c.args.functions.now) types in
    at_err c.from_residual-in_err-has_used.result (begun_first (members_calls c.args.emits_docs (printed_after c.args.has_printed uses) declared) c.in_err-has_used.ensures.err
    (sym (members_append c.args.emits_docs c.args.has_printed uses declared)))

pub print_declarations-requires-clause-functions : goal.print_declarations-requires-clause-functions
print_declarations-requires-clause-functions g c = λ id. rw (c.in_ok-grouped.ensures id)
    (all_of_some (belongs_to id) (is_listed_function c.args.resolve.now c.args.owner) (map (λ f. f.now) c.args.functions.now) c.requires.functions)

pub returns : goal.returns
returns g c =
    let r = c.args.resolve.now in
    let types = listed_of c.args.types.now in
    let uses = use_members r c.args.here c.args.owner types in
    let declared = given_declarations r c.args.owner c.in_ok-grouped.grouped.entries types in
    let all = declared_by_resource r c.args.owner c.in_ok-grouped.grouped.entries (map (λ f. f.now) c.args.functions.now) c.in_ok-grouped.ensures types in
    let same = ap (λ b. members_calls c.args.emits_docs c.args.has_printed uses ++ members_calls c.args.emits_docs b declared) c.in_ok-has_used.ensures.printed
    ∙ sym (members_append c.args.emits_docs c.args.has_printed uses declared) ∙ ap (λ ms. members_calls c.args.emits_docs c.args.has_printed (uses ++ ms)) all in
    record {
      ok = on_ok c.print_declarations.result (λ m. moved_on c.in_ok-has_used.ensures.ok m same) c.print_declarations.ensures.ok;
      err = on_err c.print_declarations.result (λ b. begun_on c.in_ok-has_used.ensures.ok b same) c.print_declarations.ensures.err;
      printed = subst (λ y. IfOk c.print_declarations.result (λ x. x ≡ y))
          (ap (λ b. printed_after b declared) c.in_ok-has_used.ensures.printed ∙ sym (printed_append c.args.has_printed uses declared) ∙ ap (λ ms. printed_after c.args.has_printed (uses ++ ms)) all)
          c.print_declarations.ensures.printed;
      memory = c.print_declarations.ensures.memory;
    }
