use Rattle.std.proofs.Common.{◌||◌, ◌∙◌, [], append-nil, ap, filter_map, refl, subst, sym}
use Rattle.std.proofs.lemmas.List.{drop_all}
use Rattle.std.specs.Prelude.{is_some, option_map}
use Rattle.wit_model.specs.Rules.{has_items}
use Rattle.print_items.specs.Shown.{shown_path}
use Rattle.print_uses.specs.UseGroups.{listed_of, listed_use, open_end_calls, shown_use, uses_calls}
use Rattle.print_output.specs.OutputCall.{Moves, Begins}
use Rattle.print_uses.proofs.Listed.{all_printed, all_uses, some_mapped, known_after, known_here, use_made, use_refused, uses_some}
use Rattle.print_items.proofs.Moves.{going, made_all, made_on, refused_in}
use Rattle.base_lemmas.proofs.{Bools.or_false, Options.at_err}
use Rattle.print_uses.proofs.use_group.print_uses.Goals as goal

pub loop-listed-init : goal.loop-listed-init
loop-listed-init g c = record { going = going _ _ _ refl; printed = refl; known = c.requires.known; printable = refl }

pub print_listed_use-requires-clause-known : goal.print_listed_use-requires-clause-known
print_listed_use-requires-clause-known g c = known_here c.args.types.now c.loop-listed.listed-index _ c.loop-listed-test.true c.args.resolve.now c.args.owner c.loop-listed.invariant.known

pub returns-in_err-next-clause-err : goal.returns-in_err-next-clause-err
returns-in_err-next-clause-err g c = at_err c.from_residual.result (subst (λ calls. Begins g.O.Output.keeps (g.O.Output.view c.args.output.now) calls (g.O.Output.view c.print_listed_use.new.output))
    (all_uses c.args.resolve.now c.args.owner c.args.emits_docs c.args.has_printed c.args.here (listed_of c.args.types.now))
    (use_refused c.args.types.now c.loop-listed.listed-index _ c.loop-listed-test.true c.args.resolve.now c.args.owner (shown_path c.args.resolve.now c.args.here)
    (option_map shown_use c.loop-listed.last) c.loop-listed.invariant.going c.in_err-next.ensures.err))

pub loop-listed-preserved : goal.loop-listed-preserved
loop-listed-preserved g c =
    let r = c.args.resolve.now in
    let before = option_map shown_use c.loop-listed.last in
    record {
      going = use_made c.args.types.now c.loop-listed.listed-index _ c.loop-listed-test.true r c.args.owner (shown_path r c.args.here) before (option_map shown_use c.in_ok-next.next)
          c.loop-listed.invariant.going c.in_ok-next.ensures.after c.in_ok-next.ensures.ok;
      printed = uses_some c.args.types.now c.loop-listed.listed-index _ c.loop-listed-test.true r c.args.owner before (option_map shown_use c.in_ok-next.next) _ c.loop-listed.invariant.printed
          c.in_ok-next.ensures.after;
      known = known_after c.args.types.now c.loop-listed.listed-index c.loop-listed-test.true r c.args.owner c.loop-listed.invariant.known;
      printable = c.in_ok-next.ensures.printable;
    }

pub returns-in_err-print_open_end-clause-err : goal.returns-in_err-print_open_end-clause-err
returns-in_err-print_open_end-clause-err g c =
    let r = c.args.resolve.now in
    let path = shown_path r c.args.here in
    let before = option_map shown_use c.loop-listed.last in
    let none = drop_all c.loop-listed.listed-index c.args.types.now c.loop-listed-test.false in
    at_err c.from_residual-in_err-print_open_end.result (subst (λ calls. Begins g.O.Output.keeps (g.O.Output.view c.args.output.now) calls (g.O.Output.view c.print_open_end.new.output))
    (all_uses r c.args.owner c.args.emits_docs c.args.has_printed c.args.here (listed_of c.args.types.now))
    (refused_in (open_end_calls before) [] c.loop-listed.invariant.going (ap (λ ts. uses_calls path before (filter_map (listed_use r c.args.owner) (listed_of ts))) none
    ∙ sym (append-nil (open_end_calls before)))
    c.in_err-print_open_end.ensures.err))

pub returns : goal.returns
returns g c =
    let r = c.args.resolve.now in
    let path = shown_path r c.args.here in
    let before = option_map shown_use c.loop-listed.last in
    let none = drop_all c.loop-listed.listed-index c.args.types.now c.loop-listed-test.false in
    record {
      ok = subst (λ calls. Moves g.O.Output.keeps (g.O.Output.view c.args.output.now) calls (g.O.Output.view c.print_open_end.new.output))
          (all_uses r c.args.owner c.args.emits_docs c.args.has_printed c.args.here (listed_of c.args.types.now))
          (made_all (made_on (open_end_calls before) [] c.loop-listed.invariant.going
          (ap (λ ts. uses_calls path before (filter_map (listed_use r c.args.owner) (listed_of ts))) none ∙ sym (append-nil (open_end_calls before))) c.in_ok-print_open_end.ensures.ok) refl);
      err = tt;
      printed = c.either.ensures ∙ ap (λ b. c.args.has_printed || b) (c.is_some.ensures ∙ sym (some_mapped c.loop-listed.last) ∙ sym (or_false (is_some before))
          ∙ ap (λ ts. is_some before || has_items (filter_map (listed_use r c.args.owner) (listed_of ts))) (sym none) ∙ c.loop-listed.invariant.printed)
          ∙ sym (all_printed r c.args.owner c.args.has_printed c.args.here (listed_of c.args.types.now));
      memory = tt;
    }
