use Rattle.std.proofs.Common.{◌∙◌, ap, map, refl, subst, sym}
use Rattle.wit_model.specs.Rules.{in_list}
use Rattle.print_output.specs.{OutputCall.Moves, OutputCall.Begins, OutputCall.Moves.nothing_moved}
use Rattle.print_grammar.specs.Calls.{members_calls, printed_after}
use Rattle.print_items.proofs.TypeParts.{read_at}
use Rattle.print_uses.proofs.Listed.{declaration_printable, declaration_printed, nothing_declared, something_declared}
use Rattle.base_lemmas.proofs.{Bools.left_of, Options.at_err}
use Rattle.print_packages.proofs.declaration.print_listed_type.Goals as goal

pub returns-then-is_some : goal.returns-then-is_some
returns-then-is_some g c =
    let at = read_at _ _ _ (left_of (in_list c.args.resolve.now.types.items c.args.listed.1.0) _ c.requires.known) c.index-def.ensures in
    let none = nothing_declared c.args.resolve.now c.args.owner c.args.listed.0.now c.args.listed.1 c.index-def.result.now at c.requires.known (map (λ f. f.now) c.args.functions.now) c.use_of.result
    c.use_of.ensures.used (sym c.is_some.ensures ∙ c.if-is_some.true) in
    record {
      ok = subst (λ ms. Moves g.O.Output.keeps (g.O.Output.view c.args.output.now) (members_calls c.args.emits_docs c.args.has_printed ms) (g.O.Output.view c.args.output.now)) (sym none)
          (nothing_moved refl);
      err = tt;
      printed = sym (ap (printed_after c.args.has_printed) none);
      memory = tt;
    }

pub print_owned-requires-clause-printable : goal.print_owned-requires-clause-printable
print_owned-requires-clause-printable g c =
    let at = read_at _ _ _ (left_of (in_list c.args.resolve.now.types.items c.args.listed.1.0) _ c.requires.known) c.index-def.ensures in
    declaration_printable c.args.resolve.now c.args.owner c.args.listed.0.now c.args.listed.1 c.index-def.result.now at c.requires.known c.requires.valid (map (λ f. f.now) c.args.functions.now)
    c.requires.functions

pub returns-in_err-print_owned-clause-err : goal.returns-in_err-print_owned-clause-err
returns-in_err-print_owned-clause-err g c =
    let at = read_at _ _ _ (left_of (in_list c.args.resolve.now.types.items c.args.listed.1.0) _ c.requires.known) c.index-def.ensures in
    let some = something_declared c.args.resolve.now c.args.owner c.args.listed.0.now c.args.listed.1 c.index-def.result.now at c.requires.known (map (λ f. f.now) c.args.functions.now) c.use_of.result
    c.use_of.ensures.used (sym c.is_some.ensures ∙ c.if-is_some.false) in
    at_err c.from_residual.result (subst (λ ms. Begins g.O.Output.keeps (g.O.Output.view c.args.output.now) (members_calls c.args.emits_docs c.args.has_printed ms)
    (g.O.Output.view c.print_owned.new.output)) (sym some) c.in_err-print_owned.ensures.err)

pub returns : goal.returns
returns g c =
    let at = read_at _ _ _ (left_of (in_list c.args.resolve.now.types.items c.args.listed.1.0) _ c.requires.known) c.index-def.ensures in
    let fs = map (λ f. f.now) c.args.functions.now in
    let some = something_declared c.args.resolve.now c.args.owner c.args.listed.0.now c.args.listed.1 c.index-def.result.now at c.requires.known fs c.use_of.result c.use_of.ensures.used
    (sym c.is_some.ensures ∙ c.if-is_some.false) in
    record {
      ok = subst (λ ms. Moves g.O.Output.keeps (g.O.Output.view c.args.output.now) (members_calls c.args.emits_docs c.args.has_printed ms) (g.O.Output.view c.print_owned.new.output)) (sym some)
          c.in_ok-print_owned.ensures.ok;
      err = tt;
      printed = sym (ap (printed_after c.args.has_printed) some ∙ declaration_printed c.args.resolve.now c.args.owner c.args.listed.0.now c.args.listed.1 c.index-def.result.now at c.requires.known
          c.args.has_printed fs);
      memory = tt;
    }
