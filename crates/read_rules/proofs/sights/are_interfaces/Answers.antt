use Rattle.std.proofs.{Common.sym, Common.◌∙◌, lemmas.List.Folds.list_all-map}
use Rattle.read_rules.specs.Sights.{numbered_sight, shows_interface}
use Rattle.read_rules.proofs.AllLaws.{all_pass, one_fails, one_passes}
use Rattle.read_rules.proofs.sights.are_interfaces.Goals as goal

pub loop-sight-init : goal.loop-sight-init
loop-sight-init c = sym (list_all-map (shows_interface c.args.tables.now) numbered_sight c.args.sights.now)

pub returns-then-not-branch : goal.returns-then-not-branch
returns-then-not-branch c = one_fails (λ s. shows_interface c.args.tables.now (numbered_sight s)) c.args.sights.now c.loop-sight.sight-index c.loop-sight.invariant _ c.loop-sight-test.true
    (sym c.in_ok-shows_interface.ensures ∙ c.if-not-branch.true)

pub loop-sight-preserved : goal.loop-sight-preserved
loop-sight-preserved c = one_passes (λ s. shows_interface c.args.tables.now (numbered_sight s)) c.args.sights.now c.loop-sight.sight-index c.loop-sight.invariant _ c.loop-sight-test.true
    (sym c.in_ok-shows_interface.ensures ∙ c.if-not-branch.false)

pub returns : goal.returns
returns c = all_pass (λ s. shows_interface c.args.tables.now (numbered_sight s)) c.args.sights.now c.loop-sight.sight-index c.loop-sight.invariant c.loop-sight-test.false
