use Rattle.std.proofs.Common.{arith, ap, length}
use Rattle.base_lemmas.proofs.Options.{passed}
use Rattle.text_names.specs.Tables.{FailsPackages}
use Rattle.text_names.proofs.TableLaws.{packages_fail, packages_turn}
use Rattle.text_names.proofs.sources.Sources.add_nested.Goals as goal

pub returns-in_err-add_package-clause-err : goal.returns-in_err-add_package-clause-err
returns-in_err-add_package-clause-err c = passed (FailsPackages c.args.self.now c.args.number c.args.trees.now.items) c.from_residual.result c.in_err-add_package.field-0.0 c.from_residual.ensures.1
    (packages_fail c.args.self.now c.loop-tree.self c.args.number c.args.trees.now.items c.loop-tree.tree-index c.tree-item.result c.in_err-add_package.field-0.0
    (omega (arith, ap length c.deref-tree-items.ensures.value, c.loop-tree-test.true)) (cc (c.tree-item.is, c.deref-tree-items.ensures.value)) c.loop-tree.invariant c.in_err-add_package.ensures.err)

pub loop-tree-preserved : goal.loop-tree-preserved
loop-tree-preserved c = packages_turn c.args.self.now c.loop-tree.self c.add_package.new.self c.args.number c.args.trees.now.items c.loop-tree.tree-index c.tree-item.result
    (omega (arith, ap length c.deref-tree-items.ensures.value, c.loop-tree-test.true)) (cc (c.tree-item.is, c.deref-tree-items.ensures.value)) c.loop-tree.invariant c.in_ok-add_package.ensures.ok
