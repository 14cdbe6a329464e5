use Rattle.std.proofs.Common.{◌≡◌, ◌+◌, ◌<◌, ◌-◌, sym, arith, [], length, rules}
use Rattle.read_rules.specs.{Tables.numbered_tables, Views.numbered_view}
use Rattle.read_rules.proofs.ReachedLaws.{all_reached, import_missed, import_reached, none_behind}
use Rattle.read_rules.proofs.reached.are_reached.Goals as goal

pub returns : goal.returns
returns c = all_reached (numbered_tables c.args.tables.now) (numbered_view c.args.exported) c.args.imports.now c.back.left c.back-test.false c.back.invariant.reached

pub back-init : goal.back-init
back-init c =
    let none : c.new-used.result.keys ≡ [] = search rules in
    let behind = none_behind (numbered_tables c.args.tables.now) (numbered_view c.args.exported) c.args.imports.now c.add_used.new.used.keys c.new-used.result.keys none c.in_ok-add_used.ensures in
    record { within = omega arith; used = behind.0; reached = behind.1 }

pub returns-then-not-is_reached : goal.returns-then-not-is_reached
returns-then-not-is_reached c =
    let some : 0 < c.back.left = c.back-test.true in
    let next : c.back.left ≡ (c.back.left - 1) + 1 = omega arith in
    let more : c.back.left - 1 < length c.args.imports.now = omega (arith, c.back.invariant.within) in
    import_missed (numbered_tables c.args.tables.now) (numbered_view c.args.exported) c.args.imports.now (c.back.left - 1) c.back.left next _ more c.back.used.keys c.back.invariant.used
    c.back.invariant.reached (sym c.if-not-is_reached.ensures)

pub back-preserved : goal.back-preserved
back-preserved c =
    let some : 0 < c.back.left = c.back-test.true in
    let next : c.back.left ≡ (c.back.left - 1) + 1 = omega arith in
    let more : c.back.left - 1 < length c.args.imports.now = omega (arith, c.back.invariant.within) in
    let turn = import_reached (numbered_tables c.args.tables.now) (numbered_view c.args.exported) c.args.imports.now (c.back.left - 1) c.back.left next _ more c.back.used.keys c.back.invariant.used
    c.back.invariant.reached (sym c.if-not-is_reached.ensures)
    c.add_import.new.used.keys c.in_ok-add_import.ensures in
    record { within = omega (arith, more); used = turn.0; reached = turn.1 }
