use Rattle.std.proofs.Common.{ap}
use Rattle.text_trees.specs.TreesSeen.{extern_of, prefix_of}
use Rattle.wit_text.proofs.FrontLaws.{adds_import, adds_other, is_path_tree}
use Rattle.wit_text.proofs.externs.state_extern.Goals as goal

pub returns-in-NamedFunction-clause-export : goal.returns-in-NamedFunction-clause-export
returns-in-NamedFunction-clause-export c =
    adds_other (prefix_of c.args.text.now.text.now c.args.prefix.now) (extern_of c.args.text.now.text.now c.args.tree.now)
    (ap (λ t. is_path_tree (extern_of c.args.text.now.text.now t)) c.in-NamedFunction.is)

pub returns-in-NamedPath-clause-export : goal.returns-in-NamedPath-clause-export
returns-in-NamedPath-clause-export c =
    adds_other (prefix_of c.args.text.now.text.now c.args.prefix.now) (extern_of c.args.text.now.text.now c.args.tree.now)
    (ap (λ t. is_path_tree (extern_of c.args.text.now.text.now t)) c.in-NamedPath.is)

pub returns-in-NamedInterface-clause-export : goal.returns-in-NamedInterface-clause-export
returns-in-NamedInterface-clause-export c =
    adds_other (prefix_of c.args.text.now.text.now c.args.prefix.now) (extern_of c.args.text.now.text.now c.args.tree.now)
    (ap (λ t. is_path_tree (extern_of c.args.text.now.text.now t)) c.in-NamedInterface.is)

pub returns-in-NamedPath-clause-import : goal.returns-in-NamedPath-clause-import
returns-in-NamedPath-clause-import c =
    adds_import (prefix_of c.args.text.now.text.now c.args.prefix.now) (extern_of c.args.text.now.text.now c.args.tree.now)
    (ap (λ t. is_path_tree (extern_of c.args.text.now.text.now t)) c.in-NamedPath.is)

pub returns-in-NamedInterface-clause-import : goal.returns-in-NamedInterface-clause-import
returns-in-NamedInterface-clause-import c =
    adds_import (prefix_of c.args.text.now.text.now c.args.prefix.now) (extern_of c.args.text.now.text.now c.args.tree.now)
    (ap (λ t. is_path_tree (extern_of c.args.text.now.text.now t)) c.in-NamedInterface.is)
