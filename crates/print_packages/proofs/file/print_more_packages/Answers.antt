use Rattle.std.proofs.{Common.◌+◌, Common.drop, Common.get_or, Common.refl, lemmas.Bool.ltb-true}
use Rattle.wit_model.specs.Rules.{in_list}
use Rattle.print_items.proofs.{Moves.underway, Moves.run_made, Moves.run_begun, Runs.drop_next, Runs.item_same, Runs.passes_at}
use Rattle.base_lemmas.proofs.Options.{at_err}
use Rattle.print_packages.proofs.file.print_more_packages.Goals as goal

pub loop-id-init : goal.loop-id-init
loop-id-init g c = underway _ _ _ refl

pub print_next_package-requires-clause-in_range : goal.print_next_package-requires-clause-in_range
print_next_package-requires-clause-in_range g c =
    ltb-true _ _ (passes_at (λ id. in_list c.args.resolve.now.packages.items id.0) c.args.ids.now c.loop-id.id-index (get_or c.args.ids.now c.loop-id.id-index (record { 0 = 0 })) c.requires.in_range
    c.loop-id-test.true (item_same c.args.ids.now c.loop-id.id-index (record { 0 = 0 })))

pub loop-id-preserved : goal.loop-id-preserved
loop-id-preserved g c =
    run_made (get_or c.args.ids.now c.loop-id.id-index (record { 0 = 0 })) (drop (c.loop-id.id-index + 1) c.args.ids.now) c.loop-id.invariant
    (drop_next c.args.ids.now c.loop-id.id-index (get_or c.args.ids.now c.loop-id.id-index (record { 0 = 0 })) c.loop-id-test.true (item_same c.args.ids.now c.loop-id.id-index (record { 0 = 0 })))
    c.in_ok-print_next_package.ensures.ok

pub returns-in_err-print_next_package-clause-err : goal.returns-in_err-print_next_package-clause-err
returns-in_err-print_next_package-clause-err g c =
    at_err c.from_residual.result (run_begun (get_or c.args.ids.now c.loop-id.id-index (record { 0 = 0 })) (drop (c.loop-id.id-index + 1) c.args.ids.now) c.loop-id.invariant
    (drop_next c.args.ids.now c.loop-id.id-index (get_or c.args.ids.now c.loop-id.id-index (record { 0 = 0 })) c.loop-id-test.true (item_same c.args.ids.now c.loop-id.id-index (record { 0 = 0 })))
    c.in_err-print_next_package.ensures.err)
