use Rattle.std.proofs.Common.{sym}
use Rattle.read_rules.specs.Tables.{numbered_tables}
use Rattle.read_rules.proofs.WorldLaws.{use_fails, use_passes, uses_end}
use Rattle.read_rules.proofs.uses.stand_behind.Goals as goal

pub returns-then-not-item_stands : goal.returns-then-not-item_stands
returns-then-not-item_stands c = λ rest. use_fails (numbered_tables c.args.tables.now) c.args.items.now c.loop-item.item-index c.loop-item.earlier.keys rest (c.loop-item.invariant rest) _
    c.loop-item-test.true (sym c.if-not-item_stands.ensures)

pub loop-item-preserved : goal.loop-item-preserved
loop-item-preserved c = λ rest. use_passes (numbered_tables c.args.tables.now) c.args.items.now c.loop-item.item-index c.loop-item.earlier.keys rest (c.loop-item.invariant rest) _
    c.loop-item-test.true (sym c.if-not-item_stands.ensures) c.add_item.new.earlier.keys c.in_ok-add_item.ensures

pub returns : goal.returns
returns c = λ rest. uses_end (numbered_tables c.args.tables.now) c.args.items.now c.loop-item.item-index c.loop-item.earlier.keys rest (c.loop-item.invariant rest) c.loop-item-test.false
