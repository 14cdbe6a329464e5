use Rattle.std.proofs.{Common.◌∙◌, Common.ap, Common.refl, Common.sym, lemmas.List.drop_all}
use Rattle.print_grammar.specs.Calls.{members_calls, printed_after}
use Rattle.print_packages.specs.GivenTypes.{given_declarations}
use Rattle.print_uses.specs.UseGroups.{listed_of}
use Rattle.print_packages.proofs.GivenSteps.{given_made, given_refused, given_some}
use Rattle.print_uses.proofs.Listed.{known_after, known_here}
use Rattle.print_items.proofs.Moves.{going, made_all}
use Rattle.base_lemmas.proofs.Options.{at_err}
use Rattle.print_packages.proofs.declaration.print_declarations.Goals as goal

pub loop-listed-init : goal.loop-listed-init
loop-listed-init g c = record { going = going _ _ _ refl; printed = refl; known = c.requires.known }

pub print_type_with_functions-requires-clause-known : goal.print_type_with_functions-requires-clause-known
print_type_with_functions-requires-clause-known g c = known_here c.args.types.now c.loop-listed.listed-index _ c.loop-listed-test.true c.args.resolve.now c.args.owner c.loop-listed.invariant.known

pub returns-in_err-printed-clause-err : goal.returns-in_err-printed-clause-err
returns-in_err-printed-clause-err g c = at_err c.from_residual.result (given_refused c.args.types.now c.loop-listed.listed-index _ c.loop-listed-test.true c.args.resolve.now c.args.owner
    c.args.functions.now.entries c.loop-listed.has_printed _ c.args.emits_docs refl c.loop-listed.invariant.going c.in_err-printed.ensures.err)

pub loop-listed-preserved : goal.loop-listed-preserved
loop-listed-preserved g c =
    let r = c.args.resolve.now in
    record {
      going = given_made c.args.types.now c.loop-listed.listed-index _ c.loop-listed-test.true r c.args.owner c.args.functions.now.entries c.loop-listed.has_printed _ c.args.emits_docs
          c.in_ok-printed.printed refl c.loop-listed.invariant.going c.in_ok-printed.ensures.printed c.in_ok-printed.ensures.ok;
      printed = given_some c.args.types.now c.loop-listed.listed-index _ c.loop-listed-test.true r c.args.owner c.args.functions.now.entries c.loop-listed.has_printed _ c.in_ok-printed.printed _ refl
          c.loop-listed.invariant.printed c.in_ok-printed.ensures.printed;
      known = known_after c.args.types.now c.loop-listed.listed-index c.loop-listed-test.true r c.args.owner c.loop-listed.invariant.known;
    }

pub returns-clause-ok : goal.returns-clause-ok
returns-clause-ok g c =
    let none = drop_all c.loop-listed.listed-index c.args.types.now c.loop-listed-test.false in
    made_all c.loop-listed.invariant.going (ap (λ ts. members_calls c.args.emits_docs c.loop-listed.has_printed
    (given_declarations c.args.resolve.now c.args.owner c.args.functions.now.entries (listed_of ts))) none)

pub returns-clause-printed : goal.returns-clause-printed
returns-clause-printed g c =
    let none = drop_all c.loop-listed.listed-index c.args.types.now c.loop-listed-test.false in
    sym (ap (λ ts. printed_after c.loop-listed.has_printed (given_declarations c.args.resolve.now c.args.owner c.args.functions.now.entries (listed_of ts))) none) ∙ c.loop-listed.invariant.printed
