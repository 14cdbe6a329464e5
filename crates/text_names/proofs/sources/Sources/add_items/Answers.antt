use Rattle.std.proofs.Common.{arith, ap, length}
use Rattle.base_lemmas.proofs.Options.{passed}
use Rattle.text_names.specs.Tables.{FailsItems}
use Rattle.text_names.proofs.TableLaws.{items_fail, items_turn}
use Rattle.text_names.proofs.sources.Sources.add_items.Goals as goal

pub returns-in_err-add_item-clause-err : goal.returns-in_err-add_item-clause-err
returns-in_err-add_item-clause-err c = passed (FailsItems c.args.self.now c.args.home c.args.number c.args.items.now.items) c.from_residual.result c.in_err-add_item.field-0.0 c.from_residual.ensures.1
    (items_fail c.args.self.now c.loop-item.self c.args.home c.args.number c.args.items.now.items c.loop-item.item-index c.item-item.result c.in_err-add_item.field-0.0
    (omega (arith, ap length c.deref-item-items.ensures.value, c.loop-item-test.true)) (cc (c.item-item.is, c.deref-item-items.ensures.value)) c.loop-item.invariant c.in_err-add_item.ensures.err)

pub loop-item-preserved : goal.loop-item-preserved
loop-item-preserved c = items_turn c.args.self.now c.loop-item.self c.add_item.new.self c.args.home c.args.number c.args.items.now.items c.loop-item.item-index c.item-item.result
    (omega (arith, ap length c.deref-item-items.ensures.value, c.loop-item-test.true)) (cc (c.item-item.is, c.deref-item-items.ensures.value)) c.loop-item.invariant c.in_ok-add_item.ensures.ok
