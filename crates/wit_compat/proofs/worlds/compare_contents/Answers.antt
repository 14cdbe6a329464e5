use Rattle.std.proofs.{Common.true, Common.false, lemmas.Result.on_ok_weaker as ok_then}
use Rattle.compat_meaning.specs.{Flat.things_of, Walk.pairs_shared}
use Rattle.wit_compat.proofs.Signatures.{among_two, reached_first, reached_two}
use Rattle.wit_compat.proofs.worlds.compare_contents.Goals as goal

pub returns-in-Err-clause-reached : goal.returns-in-Err-clause-reached
returns-in-Err-clause-reached c =
    let r = c.args.resolve.now in
    let imports = pairs_shared r false (things_of r c.args.prev.now.imports.entries) (things_of r c.args.new.now.imports.entries) in
    let exports = pairs_shared r true (things_of r c.args.new.now.exports.entries) (things_of r c.args.prev.now.exports.entries) in
    reached_first r c.args.pairs.now.keys imports exports c.compare_sides-imports.new.pairs.keys c.compare_sides-imports.ensures.reached

pub returns-clause-holds : goal.returns-clause-holds
returns-clause-holds c =
    let r = c.args.resolve.now in
    let exports = pairs_shared r true (things_of r c.args.new.now.exports.entries) (things_of r c.args.prev.now.exports.entries) in
    ok_then c.compare_sides.result (among_two r (pairs_shared r false (things_of r c.args.prev.now.imports.entries) (things_of r c.args.new.now.imports.entries)) exports
    c.compare_sides-imports.new.pairs.keys c.compare_sides.new.pairs.keys c.in_default.ensures.holds c.compare_sides.ensures.kept) c.compare_sides.ensures.holds

pub returns-clause-reached : goal.returns-clause-reached
returns-clause-reached c =
    let r = c.args.resolve.now in
    let imports = pairs_shared r false (things_of r c.args.prev.now.imports.entries) (things_of r c.args.new.now.imports.entries) in
    let exports = pairs_shared r true (things_of r c.args.new.now.exports.entries) (things_of r c.args.prev.now.exports.entries) in
    reached_two r c.args.pairs.now.keys imports exports c.compare_sides-imports.new.pairs.keys c.compare_sides.new.pairs.keys c.compare_sides-imports.ensures.reached c.compare_sides.ensures.reached
