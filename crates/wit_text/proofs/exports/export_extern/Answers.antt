use Rattle.base_lemmas.proofs.Options.{at_ok}
use Rattle.std.proofs.Common.{◌∷◌, [], ap, map, subst, sym, List}
use Rattle.std.specs.List.{filter_map}
use Rattle.print_grammar.specs.Tree.{ExternTree.NamedInterface, WorldMember.WorldExport}
use Rattle.text_trees.specs.declared.tree.MemberTree.{MemberTree}
use Rattle.text_trees.specs.{Seen.cut, TreesSeen.extern_of, TreesSeen.member_of, TreesSeen.prefix_of}
use Rattle.text_shown.specs.ShowsWorlds.{export_of}
use Rattle.wit_text.specs.Sides.{exports_in, one_stated, text_of_world, AreAmong}
use Rattle.text_types.specs.{Scopes.text_in}
use Rattle.text_types.specs.declared.texts.Text.{Text}
use Rattle.wit_text.proofs.{SideLaws.inline_none, Walking.on_ok, WorldLaws.exports_function}
use Rattle.wit_text.proofs.exports.export_extern.Goals as goal

pub export_path-requires-clause-among : goal.export_path-requires-clause-among
export_path-requires-clause-among c =
    let text = text_of_world c.args.given.now in
    subst (λ t. AreAmong (filter_map export_of (WorldExport (prefix_of text c.args.prefix.now) (extern_of text t) ∷ [])) (exports_in c.args.given.now).all)
    c.in-Path.is c.requires.among

pub export_label-requires-clause-among : goal.export_label-requires-clause-among
export_label-requires-clause-among c =
    let text = text_of_world c.args.given.now in
    subst (λ t. AreAmong (filter_map export_of (WorldExport (prefix_of text c.args.prefix.now) (extern_of text t) ∷ [])) (exports_in c.args.given.now).all)
    c.in-NamedPath.is c.requires.among

pub export_inline-requires-clause-among : goal.export_inline-requires-clause-among
export_inline-requires-clause-among c =
    let text = text_of_world c.args.given.now in
    subst (λ (ms : List MemberTree). AreAmong (one_stated (prefix_of text c.args.prefix.now) (NamedInterface (cut text c.in-NamedInterface.name)
    (map (member_of text) ms))) (exports_in c.args.given.now).all) (sym c.as_slice-members.ensures.value)
    (subst (λ t. AreAmong (filter_map export_of (WorldExport (prefix_of text c.args.prefix.now) (extern_of text t) ∷ [])) (exports_in c.args.given.now).all)
    c.in-NamedInterface.is c.requires.among)

pub returns-in-NamedFunction-clause-keeps : goal.returns-in-NamedFunction-clause-keeps
returns-in-NamedFunction-clause-keeps c = at_ok c.add_extern.result (inline_none _)

pub returns-in-NamedFunction-clause-adds : goal.returns-in-NamedFunction-clause-adds
returns-in-NamedFunction-clause-adds c =
    on_ok _ _ c.add_extern.result
    (λ calls. exports_function c.args.interfaces.now (text_in c.args.scope.now) c.args.prefix.now c.args.tree.now c.in-NamedFunction.field-0
    c.in-NamedFunction.field-1 (ap (λ (t : Text). t.text.now) c.requires.text) c.in-NamedFunction.is c.requires.among c.add_extern.ensures.grows.defs calls)
    c.add_extern.ensures.adds
