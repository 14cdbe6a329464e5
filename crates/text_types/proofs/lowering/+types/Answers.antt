use Rattle.std.proofs.Common.{rules, refl, ap, ◌∙◌}
use Rattle.text_trees.specs.TreesSeen.{type_of}
use Rattle.text_types.specs.declared.lowering.Form.TheVariants as form
use Rattle.text_types.specs.{Forms.IsForm, Scopes.text_in, Stands.FormIs}
use Rattle.text_types.proofs.Growth.{named, placed, stands_on, grows_none, grows_join}
use Rattle.text_types.proofs.FormLaws.{seen, seen_as, form_along, along, all_along, map_along}
use Rattle.text_types.proofs.FormLaws.{all_none, all_more, from_plain, from_name, handle_named, handle_own, added_kind}
use Rattle.text_types.proofs.Rows.{tuple_trees}
use Rattle.text_types.proofs.lowering.+types.Goals as goal

-- ---- what a tree is

pub form_of-lowered-requires-in-ResultOf-2 : goal.form_of-lowered-requires-in-ResultOf-2
form_of-lowered-requires-in-ResultOf-2 t c = (search rules, placed c.in_ok-lowered-in-ResultOf.ensures.grows c.requires)

pub form_of-returns-in-PrimitiveType-clause-is : goal.form_of-returns-in-PrimitiveType-clause-is
form_of-returns-in-PrimitiveType-clause-is t c = seen (text_in c.args.scope.now) c.in-PrimitiveType.is (form_along (ap form.Plain
    c.primitive_of.ensures.value) (IsForm.plain _))

pub form_of-returns-in_ok-id_of-in-Name-clause-is : goal.form_of-returns-in_ok-id_of-in-Name-clause-is
form_of-returns-in_ok-id_of-in-Name-clause-is t c = seen (text_in c.args.scope.now) c.in-Name.is (IsForm.a_name (c.requires.names _ _
    c.in_ok-id_of-in-Name.ensures.found))

pub form_of-returns-in_ok-resource_of-in-Own-clause-is : goal.form_of-returns-in_ok-resource_of-in-Own-clause-is
form_of-returns-in_ok-resource_of-in-Own-clause-is t c = seen (text_in c.args.scope.now) c.in-Own.is (IsForm.own (named c.requires
    c.in_ok-resource_of-in-Own.ensures.found))

pub form_of-returns-in_ok-id-in-Borrow-clause-is : goal.form_of-returns-in_ok-id-in-Borrow-clause-is
form_of-returns-in_ok-id-in-Borrow-clause-is t c =
    seen (text_in c.args.scope.now) c.in-Borrow.is (IsForm.a_kind (FormIs.a_borrow (named c.requires c.in_ok-id-in-Borrow.ensures.found)) refl)

pub form_of-returns-in_ok-types-in-TupleOf-clause-is : goal.form_of-returns-in_ok-types-in-TupleOf-clause-is
form_of-returns-in_ok-types-in-TupleOf-clause-is t c =
    seen_as (ap (type_of (text_in c.args.scope.now)) c.in-TupleOf.is ∙ tuple_trees (text_in c.args.scope.now) c.in-TupleOf.trees)
    (IsForm.a_kind (FormIs.a_tuple (all_along (text_in c.args.scope.now) c.deref.ensures.value c.in_ok-types-in-TupleOf.ensures.stand)) refl)

pub form_of-returns-in_ok-ty-in-OptionOf-clause-is : goal.form_of-returns-in_ok-ty-in-OptionOf-clause-is
form_of-returns-in_ok-ty-in-OptionOf-clause-is t c =
    seen (text_in c.args.scope.now) c.in-OptionOf.is (IsForm.a_kind (FormIs.an_option (along (text_in c.args.scope.now) c.deref-in-OptionOf.ensures
    c.in_ok-ty-in-OptionOf.ensures.stands)) refl)

pub form_of-returns-in_ok-ty-in-ListOf-clause-is : goal.form_of-returns-in_ok-ty-in-ListOf-clause-is
form_of-returns-in_ok-ty-in-ListOf-clause-is t c =
    seen (text_in c.args.scope.now) c.in-ListOf.is (IsForm.a_kind (FormIs.a_list (along (text_in c.args.scope.now) c.deref-in-ListOf.ensures
    c.in_ok-ty-in-ListOf.ensures.stands)) refl)

pub form_of-returns-in_ok-length-in-FixedListOf-clause-is : goal.form_of-returns-in_ok-length-in-FixedListOf-clause-is
form_of-returns-in_ok-length-in-FixedListOf-clause-is t c =
    rw c.in_ok-length-in-FixedListOf.ensures.value
    (seen (text_in c.args.scope.now) c.in-FixedListOf.is (IsForm.a_kind (FormIs.a_fixed_list _ (along (text_in c.args.scope.now)
    c.deref-in-FixedListOf.ensures c.in_ok-ty-in-FixedListOf.ensures.stands)) refl))

pub form_of-returns-in_ok-kind-in-MapOf-clause-is : goal.form_of-returns-in_ok-kind-in-MapOf-clause-is
form_of-returns-in_ok-kind-in-MapOf-clause-is t c =
    seen (text_in c.args.scope.now) c.in-MapOf.is (IsForm.a_kind (map_along (text_in c.args.scope.now) c.deref-in-MapOf.ensures c.deref-in-MapOf-2.ensures
    c.in_ok-kind-in-MapOf.ensures.is) refl)

pub form_of-returns-in_ok-below-in-Result-clause-is : goal.form_of-returns-in_ok-below-in-Result-clause-is
form_of-returns-in_ok-below-in-Result-clause-is t c = seen (text_in c.args.scope.now) c.in-Result.is (IsForm.a_kind FormIs.a_result refl)

pub form_of-returns-in_ok-lowered-in-ResultOk-clause-is : goal.form_of-returns-in_ok-lowered-in-ResultOk-clause-is
form_of-returns-in_ok-lowered-in-ResultOk-clause-is t c =
    seen (text_in c.args.scope.now) c.in-ResultOk.is (IsForm.a_kind (FormIs.a_result_ok (along (text_in c.args.scope.now) c.deref-in-ResultOk.ensures
    c.in_ok-lowered-in-ResultOk.ensures.stands)) refl)

pub form_of-returns-in_ok-lowered-in-ResultErr-clause-is : goal.form_of-returns-in_ok-lowered-in-ResultErr-clause-is
form_of-returns-in_ok-lowered-in-ResultErr-clause-is t c =
    seen (text_in c.args.scope.now) c.in-ResultErr.is (IsForm.a_kind (FormIs.a_result_err (along (text_in c.args.scope.now) c.deref-in-ResultErr.ensures
    c.in_ok-lowered-in-ResultErr.ensures.stands)) refl)

pub form_of-returns-in_ok-lowered-in-ResultOf-2-clause-is : goal.form_of-returns-in_ok-lowered-in-ResultOf-2-clause-is
form_of-returns-in_ok-lowered-in-ResultOf-2-clause-is t c =
    seen (text_in c.args.scope.now) c.in-ResultOf.is
    (IsForm.a_kind
    (FormIs.a_result_of
    (stands_on c.in_ok-lowered-in-ResultOf-2.ensures.grows (along (text_in c.args.scope.now) c.deref-in-ResultOf.ensures
    c.in_ok-lowered-in-ResultOf.ensures.stands))
    (along (text_in c.args.scope.now) c.deref-in-ResultOf-2.ensures c.in_ok-lowered-in-ResultOf-2.ensures.stands))
    refl)

pub form_of-returns-in_ok-below-in-Future-clause-is : goal.form_of-returns-in_ok-below-in-Future-clause-is
form_of-returns-in_ok-below-in-Future-clause-is t c = seen (text_in c.args.scope.now) c.in-Future.is (IsForm.a_kind FormIs.a_future refl)

pub form_of-returns-in_ok-ty-in-FutureOf-clause-is : goal.form_of-returns-in_ok-ty-in-FutureOf-clause-is
form_of-returns-in_ok-ty-in-FutureOf-clause-is t c =
    seen (text_in c.args.scope.now) c.in-FutureOf.is (IsForm.a_kind (FormIs.a_future_of (along (text_in c.args.scope.now) c.deref-in-FutureOf.ensures
    c.in_ok-ty-in-FutureOf.ensures.stands)) refl)

pub form_of-returns-in_ok-below-in-Stream-clause-is : goal.form_of-returns-in_ok-below-in-Stream-clause-is
form_of-returns-in_ok-below-in-Stream-clause-is t c = seen (text_in c.args.scope.now) c.in-Stream.is (IsForm.a_kind FormIs.a_stream refl)

pub form_of-returns-in_ok-ty-in-StreamOf-clause-is : goal.form_of-returns-in_ok-ty-in-StreamOf-clause-is
form_of-returns-in_ok-ty-in-StreamOf-clause-is t c =
    seen (text_in c.args.scope.now) c.in-StreamOf.is (IsForm.a_kind (FormIs.a_stream_of (along (text_in c.args.scope.now) c.deref-in-StreamOf.ensures
    c.in_ok-ty-in-StreamOf.ensures.stands)) refl)

-- ---- where it is used

pub lowered-returns-in-Plain-clause-stands : goal.lowered-returns-in-Plain-clause-stands
lowered-returns-in-Plain-clause-stands t c = from_plain c.in_ok-form.ensures.is c.in-Plain.is

pub lowered-returns-then-not-is_resource-clause-stands : goal.lowered-returns-then-not-is_resource-clause-stands
lowered-returns-then-not-is_resource-clause-stands t c = from_name c.in_ok-form.ensures.is c.in-Name.is

pub lowered-returns-else-room-eq0-clause-stands : goal.lowered-returns-else-room-eq0-clause-stands
lowered-returns-else-room-eq0-clause-stands t c =
    handle_named c.add_handle.result c.add_handle.ensures.grows c.in_ok-form.ensures.is c.in-Name.is c.add_handle.ensures.added

pub lowered-returns-in-Own-clause-stands : goal.lowered-returns-in-Own-clause-stands
lowered-returns-in-Own-clause-stands t c =
    handle_own c.add_handle-in-Own.result c.add_handle-in-Own.ensures.grows c.in_ok-form.ensures.is c.in-Own.is c.add_handle-in-Own.ensures.added

pub lowered-returns-in-Kind-clause-stands : goal.lowered-returns-in-Kind-clause-stands
lowered-returns-in-Kind-clause-stands t c =
    added_kind c.add_unnamed.result c.add_unnamed.ensures.grows c.in_ok-form.ensures.is c.in-Kind.is c.add_unnamed.ensures.added

-- ---- the types of a tuple

pub lowered_all-lowered-requires : goal.lowered_all-lowered-requires
lowered_all-lowered-requires t c = (search rules, placed c.loop-tree.invariant.grows c.requires)

pub lowered_all-loop-tree-init : goal.lowered_all-loop-tree-init
lowered_all-loop-tree-init t c = record { grows = grows_none _; stand = all_none c.in_ok-all.ensures.items }

pub lowered_all-loop-tree-preserved : goal.lowered_all-loop-tree-preserved
lowered_all-loop-tree-preserved t c = record {
  grows = grows_join c.loop-tree.invariant.grows c.in_ok-lowered.ensures.grows;
  stand = all_more (text_in c.args.scope.now) c.args.trees.now c.loop-tree.tree-index c.tree-item.result c.in_ok-lowered.ensures.grows
      c.loop-tree.invariant.stand c.loop-tree-test.true c.tree-item.is
      c.in_ok-lowered.ensures.stands c.in_ok-push.ensures.items;
}

-- ---- maps

pub map_of-lowered-requires-2 : goal.map_of-lowered-requires-2
map_of-lowered-requires-2 t c = (search rules, placed c.in_ok-key.ensures.grows c.requires)

pub map_of-returns-clause-is : goal.map_of-returns-clause-is
map_of-returns-clause-is t c = FormIs.a_map (stands_on c.in_ok-value.ensures.grows c.in_ok-key.ensures.stands) c.in_ok-value.ensures.stands
