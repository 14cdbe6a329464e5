use Rattle.std.proofs.Common.{◌∙◌, sym}
use Rattle.text_trees.specs.TreesSeen.{declared_of}
use Rattle.text_types.specs.Scopes.{text_in}
use Rattle.text_types.proofs.DeclaredLaws.{declared_added, plain_name}
use Rattle.text_types.proofs.declared.add_declared.Goals as goal

pub returns-clause-added : goal.returns-clause-added
returns-clause-added c =
    declared_added c.args.scope.now.owner _ c.in_ok-docs.docs c.add_named.result c.add_named.ensures.grows c.in_ok-docs.ensures.docs
    c.in_ok-kind.ensures.is c.in_ok-kind.ensures.own
    (c.name_of.ensures.name (text_in c.args.scope.now) ∙ sym (plain_name (declared_of (text_in c.args.scope.now) c.args.declared.now)))
    c.add_named.ensures.added
