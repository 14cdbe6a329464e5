use Rattle.std.proofs.Common.{◌≡◌, [], rules}
use Rattle.read_rules.specs.Scopes.{numbered_seen}
use Rattle.read_rules.proofs.WorldLaws.{no_resources}
use Rattle.read_rules.proofs.items.may_be_exported.Goals as goal

pub returns : goal.returns
returns c =
    let none : c.with_hasher-resources.result.keys ≡ [] = search rules in
    no_resources c.args.tables.now c.args.home c.with_hasher-resources.result.keys none (numbered_seen c.args.export) c.may_be_imported.result c.may_be_imported.ensures
