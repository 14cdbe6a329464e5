use Rattle.std.proofs.Common.{◌∷◌, [], map, subst, sym, List}
use Rattle.std.specs.List.{filter_map}
use Rattle.print_grammar.specs.Tree.{ExternTree.NamedInterface, WorldMember.WorldImport}
use Rattle.text_trees.specs.declared.tree.MemberTree.{MemberTree}
use Rattle.text_trees.specs.{Seen.cut, TreesSeen.extern_of, TreesSeen.member_of, TreesSeen.prefix_of}
use Rattle.text_shown.specs.ShowsWorlds.{import_of}
use Rattle.wit_text.specs.Sides.{imports_in, one_stated, text_of_world, AreAmong}
use Rattle.wit_text.proofs.imports.import_extern.Goals as goal

pub import_path-requires-clause-among : goal.import_path-requires-clause-among
import_path-requires-clause-among c =
    let text = text_of_world c.args.given.now in
    subst (λ t. AreAmong (filter_map import_of (WorldImport (prefix_of text c.args.prefix.now) (extern_of text t) ∷ [])) (imports_in c.args.given.now).all)
    c.in-Path.is c.requires.among

pub import_label-requires-clause-among : goal.import_label-requires-clause-among
import_label-requires-clause-among c =
    let text = text_of_world c.args.given.now in
    subst (λ t. AreAmong (filter_map import_of (WorldImport (prefix_of text c.args.prefix.now) (extern_of text t) ∷ [])) (imports_in c.args.given.now).all)
    c.in-NamedPath.is c.requires.among

pub import_inline-requires-clause-among : goal.import_inline-requires-clause-among
import_inline-requires-clause-among c =
    let text = text_of_world c.args.given.now in
    subst (λ (ms : List MemberTree). AreAmong (one_stated (prefix_of text c.args.prefix.now) (NamedInterface (cut text c.in-NamedInterface.name)
    (map (member_of text) ms))) (imports_in c.args.given.now).all) (sym c.as_slice-members.ensures.value)
    (subst (λ t. AreAmong (filter_map import_of (WorldImport (prefix_of text c.args.prefix.now) (extern_of text t) ∷ [])) (imports_in c.args.given.now).all)
    c.in-NamedInterface.is c.requires.among)
