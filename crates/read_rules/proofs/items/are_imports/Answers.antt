use Rattle.std.proofs.Common.{sym, ◌∙◌, map}
use Rattle.read_rules.specs.Tables.{now_of}
use Rattle.read_rules.proofs.WorldLaws.{import_fails, import_passes, imports_end}
use Rattle.read_rules.proofs.items.are_imports.Goals as goal

pub returns-then-not-branch : goal.returns-then-not-branch
returns-then-not-branch c = import_fails c.args.tables.now c.args.home c.args.imports.now c.loop-import.import-index _ c.loop-import-test.true (map now_of c.loop-import.resources.keys)
    c.loop-import.invariant.seen c.loop-import.invariant.kept (sym c.in_ok-may_be_imported.ensures ∙ c.if-not-branch.true)

pub loop-import-preserved : goal.loop-import-preserved
loop-import-preserved c =
    let turn =
    import_passes c.args.tables.now c.args.home c.args.imports.now c.loop-import.import-index _ c.loop-import-test.true (map now_of c.loop-import.resources.keys) c.loop-import.invariant.seen
    c.loop-import.invariant.kept (sym c.in_ok-may_be_imported.ensures ∙ c.if-not-branch.false) (map now_of c.add_import.new.resources.keys) c.in_ok-add_import.ensures in
    record { seen = turn.0; kept = turn.1 }

pub returns : goal.returns
returns c = imports_end c.args.tables.now c.args.home c.args.imports.now c.loop-import.import-index c.loop-import-test.false c.loop-import.invariant.kept
