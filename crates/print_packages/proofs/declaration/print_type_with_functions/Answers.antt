use Rattle.std.proofs.Common.{◌≡◌, ◌==◌, ◌∙◌, [], ap, map, sym, subst, Some, None, List, true, OnOk, OnErr, IfOk}
use Rattle.std.specs.{List.list_all, Map.lookup, Option.option_copied, Option.option_map_or}
use Rattle.wit_model.specs.declared.model.Function.{Function}
use Rattle.print_output.specs.OutputCall.{Moves, Begins}
use Rattle.print_grammar.specs.Calls.{members_calls, printed_after}
use Rattle.print_packages.specs.GivenTypes.{behind}
use Rattle.print_uses.specs.UseGroups.{is_listed_function, listed_declaration}
use Rattle.print_packages.proofs.declaration.print_type_with_functions.Goals as goal

pub returns-in-None : goal.returns-in-None
returns-in-None g c =
    let none : lookup (λ k. c.args.listed.1.0 == k.0) c.args.functions.now.entries ≡ None = sym c.get.ensures.value ∙ ap option_copied c.in-None.is in
    let same = sym (ap (λ o. option_map_or behind o []) none) in
    let shown = λ (fs : List Function). listed_declaration c.args.resolve.now c.args.owner fs (record { name = c.args.listed.0.now; id = c.args.listed.1 }) in
    record {
      ok = subst (λ fs. OnOk c.print_listed_type.result (Moves g.O.Output.keeps (g.O.Output.view c.args.output.now)
          (members_calls c.args.emits_docs c.args.has_printed (shown fs)) (g.O.Output.view c.print_listed_type.new.output))) same c.print_listed_type.ensures.ok;
      err = subst (λ fs. OnErr c.print_listed_type.result (Begins g.O.Output.keeps (g.O.Output.view c.args.output.now)
          (members_calls c.args.emits_docs c.args.has_printed (shown fs)) (g.O.Output.view c.print_listed_type.new.output))) same c.print_listed_type.ensures.err;
      printed = subst (λ fs. IfOk c.print_listed_type.result (λ b. b ≡ printed_after c.args.has_printed (shown fs))) same c.print_listed_type.ensures.printed;
      memory = c.print_listed_type.ensures.memory;
    }

pub print_listed_type-requires-2-clause-functions : goal.print_listed_type-requires-2-clause-functions
print_listed_type-requires-2-clause-functions g c =
    let found : lookup (λ k. c.args.listed.1.0 == k.0) c.args.functions.now.entries ≡ Some c.in-Some.found.now = sym c.get.ensures.value ∙ ap option_copied c.in-Some.is in
    let same = ap (λ o. option_map_or behind o []) found ∙ sym (ap (map (λ f. f.now)) c.deref.ensures.value) in
    subst (λ fs. list_all (is_listed_function c.args.resolve.now c.args.owner) fs ≡ true) same c.requires.functions

pub returns : goal.returns
returns g c =
    let found : lookup (λ k. c.args.listed.1.0 == k.0) c.args.functions.now.entries ≡ Some c.in-Some.found.now = sym c.get.ensures.value ∙ ap option_copied c.in-Some.is in
    let same = ap (map (λ f. f.now)) c.deref.ensures.value ∙ sym (ap (λ o. option_map_or behind o []) found) in
    let shown = λ (fs : List Function). listed_declaration c.args.resolve.now c.args.owner fs (record { name = c.args.listed.0.now; id = c.args.listed.1 }) in
    record {
      ok = subst (λ fs. OnOk c.print_listed_type-2.result (Moves g.O.Output.keeps (g.O.Output.view c.args.output.now)
          (members_calls c.args.emits_docs c.args.has_printed (shown fs)) (g.O.Output.view c.print_listed_type-2.new.output))) same c.print_listed_type-2.ensures.ok;
      err = subst (λ fs. OnErr c.print_listed_type-2.result (Begins g.O.Output.keeps (g.O.Output.view c.args.output.now)
          (members_calls c.args.emits_docs c.args.has_printed (shown fs)) (g.O.Output.view c.print_listed_type-2.new.output))) same c.print_listed_type-2.ensures.err;
      printed = subst (λ fs. IfOk c.print_listed_type-2.result (λ b. b ≡ printed_after c.args.has_printed (shown fs))) same c.print_listed_type-2.ensures.printed;
      memory = c.print_listed_type-2.ensures.memory;
    }
