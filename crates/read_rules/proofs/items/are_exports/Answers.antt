use Rattle.std.proofs.{Common.sym, Common.◌∙◌, lemmas.List.Folds.list_all-map}
use Rattle.read_rules.specs.{Scopes.numbered_seen, Worlds.may_be_exported}
use Rattle.read_rules.proofs.AllLaws.{all_pass, one_fails, one_passes}
use Rattle.read_rules.proofs.items.are_exports.Goals as goal

pub loop-export-init : goal.loop-export-init
loop-export-init c = sym (list_all-map (may_be_exported c.args.tables.now c.args.home) numbered_seen c.args.exports.now)

pub returns-then-not-branch : goal.returns-then-not-branch
returns-then-not-branch c = one_fails (λ s. may_be_exported c.args.tables.now c.args.home (numbered_seen s)) c.args.exports.now c.loop-export.export-index c.loop-export.invariant _
    c.loop-export-test.true (sym c.in_ok-may_be_exported.ensures ∙ c.if-not-branch.true)

pub loop-export-preserved : goal.loop-export-preserved
loop-export-preserved c = one_passes (λ s. may_be_exported c.args.tables.now c.args.home (numbered_seen s)) c.args.exports.now c.loop-export.export-index c.loop-export.invariant _
    c.loop-export-test.true (sym c.in_ok-may_be_exported.ensures ∙ c.if-not-branch.false)

pub returns : goal.returns
returns c = all_pass (λ s. may_be_exported c.args.tables.now c.args.home (numbered_seen s)) c.args.exports.now c.loop-export.export-index c.loop-export.invariant c.loop-export-test.false
