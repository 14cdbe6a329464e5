use Rattle.std.proofs.Common.{◌∙◌, ap, refl, sym, subst}
use Rattle.std.specs.Prelude.{option_map}
use Rattle.wit_model.specs.Rules.{in_list}
use Rattle.print_output.specs.{OutputCall.Moves, OutputCall.Begins, OutputCall.Moves.nothing_moved}
use Rattle.print_items.specs.Shown.{shown_path}
use Rattle.print_items.proofs.TypeParts.{read_at}
use Rattle.print_uses.specs.UseGroups.{listed_use_calls, shown_use, use_after}
use Rattle.print_uses.proofs.Listed.{listed_use_at, use_printable}
use Rattle.base_lemmas.proofs.{Bools.left_of, Options.at_err}
use Rattle.print_uses.proofs.use_group.print_listed_use.Goals as goal

pub print_use-requires-clause-printable : goal.print_use-requires-clause-printable
print_use-requires-clause-printable g c =
    let at = read_at _ _ _ (left_of (in_list c.args.resolve.now.types.items c.args.listed.1.0) _ c.requires.known) c.index-def.ensures in
    use_printable c.args.resolve.now c.args.owner c.args.listed.0.now c.args.listed.1 c.index-def.result.now at c.requires.known c.requires.valid c.args.here c.requires.placed c.in-Some.used
    (rw c.in-Some.is at c.use_of.ensures.same) (rw c.in-Some.is at c.use_of.ensures.own) (sym c.use_of.ensures.used ∙ ap (option_map shown_use) c.in-Some.is)

pub returns-in-None : goal.returns-in-None
returns-in-None g c =
    let at = read_at _ _ _ (left_of (in_list c.args.resolve.now.types.items c.args.listed.1.0) _ c.requires.known) c.index-def.ensures in
    let shown = listed_use_at c.args.resolve.now c.args.owner c.args.listed.0.now c.args.listed.1 c.index-def.result.now at c.requires.known ∙ sym c.use_of.ensures.used
    ∙ ap (option_map shown_use) c.in-None.is in
    record {
      ok = subst (λ o. Moves g.O.Output.keeps (g.O.Output.view c.args.output.now) (listed_use_calls (shown_path c.args.resolve.now c.args.here) (option_map shown_use c.args.before) o)
          (g.O.Output.view c.args.output.now)) (sym shown) (nothing_moved refl);
      err = tt;
      after = sym (ap (use_after (option_map shown_use c.args.before)) shown);
      printable = c.requires.before;
      memory = tt;
    }

pub returns-in_err-print_use-clause-err : goal.returns-in_err-print_use-clause-err
returns-in_err-print_use-clause-err g c =
    let at = read_at _ _ _ (left_of (in_list c.args.resolve.now.types.items c.args.listed.1.0) _ c.requires.known) c.index-def.ensures in
    let shown = listed_use_at c.args.resolve.now c.args.owner c.args.listed.0.now c.args.listed.1 c.index-def.result.now at c.requires.known ∙ sym c.use_of.ensures.used
    ∙ ap (option_map shown_use) c.in-Some.is in
    at_err c.from_residual.result (subst (λ o. Begins g.O.Output.keeps (g.O.Output.view c.args.output.now)
    (listed_use_calls (shown_path c.args.resolve.now c.args.here) (option_map shown_use c.args.before) o) (g.O.Output.view c.print_use.new.output)) (sym shown) c.in_err-print_use.ensures.err)

pub returns : goal.returns
returns g c =
    let at = read_at _ _ _ (left_of (in_list c.args.resolve.now.types.items c.args.listed.1.0) _ c.requires.known) c.index-def.ensures in
    let shown = listed_use_at c.args.resolve.now c.args.owner c.args.listed.0.now c.args.listed.1 c.index-def.result.now at c.requires.known ∙ sym c.use_of.ensures.used
    ∙ ap (option_map shown_use) c.in-Some.is in
    record {
      ok = subst (λ o. Moves g.O.Output.keeps (g.O.Output.view c.args.output.now) (listed_use_calls (shown_path c.args.resolve.now c.args.here) (option_map shown_use c.args.before) o)
          (g.O.Output.view c.print_use.new.output)) (sym shown) c.in_ok-print_use.ensures.ok;
      err = tt;
      after = sym (ap (use_after (option_map shown_use c.args.before)) shown);
      printable = use_printable c.args.resolve.now c.args.owner c.args.listed.0.now c.args.listed.1 c.index-def.result.now at c.requires.known c.requires.valid c.args.here c.requires.placed
          c.in-Some.used (rw c.in-Some.is at c.use_of.ensures.same) (rw c.in-Some.is at c.use_of.ensures.own) (sym c.use_of.ensures.used ∙ ap (option_map shown_use) c.in-Some.is);
      memory = tt;
    }
