use Rattle.std.proofs.Common.{◌≡◌, [], map, rules}
use Rattle.read_rules.specs.{Scopes.numbered_seen, Tables.numbered_tables}
use Rattle.read_rules.proofs.WorldLaws.{exports_decide, imports_late}
use Rattle.read_rules.proofs.uses.stand_earlier.Goals as goal

pub returns-then-not-branch : goal.returns-then-not-branch
returns-then-not-branch c =
    let none : c.new-earlier.result.keys ≡ [] = search rules in
    imports_late (numbered_tables c.args.tables.now) c.new-earlier.result.keys c.stand_behind.new.earlier.keys [] none (map numbered_seen c.args.imports.now) (map numbered_seen c.args.exports.now) _
    c.in_ok-stand_behind.ensures c.if-not-branch.true

pub returns : goal.returns
returns c =
    let none : c.new-earlier.result.keys ≡ [] = search rules in
    exports_decide (numbered_tables c.args.tables.now) c.new-earlier.result.keys c.stand_behind.new.earlier.keys c.stand_behind-2.new.earlier.keys none (map numbered_seen c.args.imports.now)
    (map numbered_seen c.args.exports.now) _ c.in_ok-stand_behind.ensures c.if-not-branch.false
    c.stand_behind-2.result c.stand_behind-2.ensures
