use Rattle.std.proofs.Common.{◌∙◌, ◌<◌, refl, ap, arith, subst, length, map, Some, List}
use Rattle.std.proofs.lemmas.{Option.slice_get_read, Option.slice_get_within}
use Rattle.base_lemmas.proofs.Options.{on_ok}
use Rattle.text_trees.specs.TreesSeen.{used_name_of, world_member_of}
use Rattle.text_trees.specs.declared.tree.WorldMember.{WorldMember as CodeMember}
use Rattle.text_plain.specs.Expanding.{AddsRenamed}
use Rattle.text_plain.proofs.ExpandLaws.{taken_one}
use Rattle.text_plain.proofs.expand.include.Goals as goal

pub index-requires : goal.index-requires
index-requires c = omega (arith, slice_get_within c.args.worlds.now.worlds.items c.in_ok-number.field-0 c.in_ok-number.ensures.world_ c.in_ok-number.ensures.stands, c.args.worlds.now.worlds.ok)

pub returns-in-Some : goal.returns-in-Some
returns-in-Some c =
    let below : c.in_ok-number.field-0 < length c.args.worlds.now.worlds.items =
    slice_get_within c.args.worlds.now.worlds.items c.in_ok-number.field-0 c.in_ok-number.ensures.world_ c.in_ok-number.ensures.stands in
    on_ok c.include_members.result _ _ c.include_members.ensures
    (λ adds. taken_one c.args.worlds.now c.args.done.now c.args.scope.now c.args.merged.now c.include_members.new.merged c.args.path c.args.names.now c.in_ok-number.field-0 c.in-Some.its
    c.index.result.now
    c.requires c.in_ok-number.ensures
    (slice_get_read c.args.worlds.now.worlds.items (length c.args.worlds.now.worlds.items) c.in_ok-number.field-0 c.index.result.now refl below c.index.ensures)
    (slice_get_read c.args.done.now (length c.args.done.now) c.in_ok-number.field-0 c.index-done-number.result refl (omega (arith, below, c.requires.expanded.many)) c.index-done-number.is
    ∙ ap Some c.in-Some.is)
    (subst (λ (l : List CodeMember). AddsRenamed (map (used_name_of c.args.scope.now.place.from.now) c.args.names.now) c.index.result.now.scope.now.heading.head
    (map (world_member_of c.args.scope.now.place.whole.now) l) c.args.merged.now c.include_members.new.merged)
    c.deref.ensures.value adds))
