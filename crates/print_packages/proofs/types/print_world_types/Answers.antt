use Rattle.std.proofs.Common.{◌≡◌, ◌∙◌, ap, map, refl, subst, IfOk, OnOk, OnErr}
use Rattle.print_output.specs.{OutputCall.Moves, OutputCall.Begins, OutputCall.Begins.nothing_begun}
use Rattle.print_grammar.specs.Calls.{members_calls, printed_after}
use Rattle.print_items.specs.Shown.{listed_imports}
use Rattle.print_uses.specs.UseGroups.{listed_of, type_members}
use Rattle.base_lemmas.proofs.Options.{at_err}
use Rattle.wit_model.specs.declared.model.TypeOwner.TheVariants as owner
use Rattle.print_packages.proofs.types.print_world_types.Goals as goal

pub returns-in_err-types-clause-err : goal.returns-in_err-types-clause-err
returns-in_err-types-clause-err g c = at_err c.from_residual.result (nothing_begun refl)

pub returns-in_err-functions-clause-err : goal.returns-in_err-functions-clause-err
returns-in_err-functions-clause-err g c = at_err c.from_residual-in_err-functions.result (nothing_begun refl)

pub print_owned_types-requires-clause-known : goal.print_owned_types-requires-clause-known
print_owned_types-requires-clause-known g c = rw (ap listed_of c.deref.ensures.value ∙ c.in_ok-types.ensures) c.requires.known

pub print_owned_types-requires-clause-functions : goal.print_owned_types-requires-clause-functions
print_owned_types-requires-clause-functions g c = rw (ap (map (λ f. f.now)) c.deref-2.ensures.value ∙ c.in_ok-functions.ensures) c.requires.functions

pub returns : goal.returns
returns g c =
    let own = owner.World c.args.id in
    let members = type_members c.args.resolve.now c.args.here own in
    let same = ap (members (map (λ f. f.now) c.deref-2.result.now)) (ap listed_of c.deref.ensures.value ∙ c.in_ok-types.ensures)
    ∙ ap (λ fs. members fs (listed_imports c.args.world.now)) (ap (map (λ f. f.now)) c.deref-2.ensures.value ∙ c.in_ok-functions.ensures) in
    record {
      ok = subst (λ ms. OnOk c.print_owned_types.result (Moves g.O.Output.keeps (g.O.Output.view c.args.output.now) (members_calls c.args.emits_docs c.args.has_printed ms)
          (g.O.Output.view c.print_owned_types.new.output))) same c.print_owned_types.ensures.ok;
      err = subst (λ ms. OnErr c.print_owned_types.result (Begins g.O.Output.keeps (g.O.Output.view c.args.output.now) (members_calls c.args.emits_docs c.args.has_printed ms)
          (g.O.Output.view c.print_owned_types.new.output))) same c.print_owned_types.ensures.err;
      printed = subst (λ y. IfOk c.print_owned_types.result (λ x. x ≡ y)) (ap (printed_after c.args.has_printed) same) c.print_owned_types.ensures.printed;
      memory = c.print_owned_types.ensures.memory;
    }
