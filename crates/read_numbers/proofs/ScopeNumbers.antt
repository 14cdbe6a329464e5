-- Scopes in numbers.
use Rattle.std.proofs.Common.{rules as std_rules, ◌≡◌, refl, sym, ap, ◌∙◌, ℕ, zero, suc, List, [], ◌∷◌, map, Option, Some, None, option_map, slice_get, unwrap_or}
use Rattle.std.specs.List.{AllByRecursion}
use Rattle.wit_model.specs.{Text.Text, Meaning.Signature, Tree.Tree}
use Rattle.comp_bytes.specs.RawOf.{text_of}
use Rattle.comp_meaning.specs.Follow.{instance_place, Shown as MeantShown}
use Rattle.plan_meaning.specs.NumberedViews.{declaration_of, path_at, place_at, slot_of, view_of, Tables}
use Rattle.plan_meaning.specs.NumberedWorlds.{key_of, instance_of, seen_of, shown_of}
use Rattle.plan_meaning.specs.Shapes.{Shape, shape_trees}
use Rattle.read_follow.specs.declared.{instance_keys.InstanceKey.InstanceKey, scopes.Shown.Shown, views.ShownFunction.ShownFunction, views.ShownType.ShownType}
use Rattle.read_follow.specs.declared.{scopes.Instance.Instance, scopes.Seen.Seen, slots.Slot.Slot, views.View.View}
use Rattle.read_follow.specs.{Following.declared_in, Following.shown_function, Following.shown_type, Following.IsShownIn, Following.IsTypeSlot, Places.key_at}
use Rattle.read_follow.specs.{Functions.functions_in, Functions.signature_in, Functions.FunctionShape, Slots.no_signature, Slots.resource_slot, Slots.slot_in}
use Rattle.read_follow.specs.Scopes.{instance_in, path_of, seen_in, shown_in, shown_text, view_in, viewed, IsInstanceIn}
use Rattle.read_follow.proofs.{DefiningLaws.all_at, SlotLaws.mapped_none}
use Rattle.read_numbers.specs.NumberedParts.{numbered_function, numbered_instance, numbered_key, numbered_seen, numbered_shown, numbered_shown_function, numbered_slot, numbered_type, numbered_view, instance_view, name_in, no_view, tables_in, text_in}
use Rattle.read_numbers.specs.NumberLaws.{KeysInNumbers, ScopesInNumbers}
use Rattle.base_lemmas.proofs.Lists.{mapped_get}
use Rattle.comp_meaning.specs.Follow as follow
use Rattle.plan_meaning.specs.NumberedViews as views
use Rattle.read_follow.specs.declared.scopes.Shown.TheVariants as shown

-- ---- places

pub path_back : (o : Option Text) → path_of (instance_place o) ≡ o
path_back x = search std_rules

-- ---- resources

same_resource : (t : Tree) → resource_slot t ≡ views.resource_slot t
same_resource x = search std_rules

module _ (shapes : List Shape) (fs : List FunctionShape) (paths : List (Option Text)) where
  abbrev t : Tables
  t = tables_in shapes fs paths

  abbrev T : List Tree
  T = shape_trees (place_at t) shapes

  abbrev F : List Signature
  F = functions_in T fs

  -- ---- types of functions

  signature_same : (f : FunctionShape) → signature_in T f ≡ views.signature_over (views.tree_at t) (numbered_function f)
  unfolding signature_in
  signature_same f = refl

  signatures_same : (gs : List FunctionShape) (n : ℕ)
      → unwrap_or (slice_get (functions_in T gs) n) no_signature ≡ views.signature_over (views.tree_at t) (unwrap_or (slice_get (map numbered_function gs) n) views.no_function)
  signatures_same [] n = refl
  signatures_same (g ∷ gs) zero = signature_same g
  signatures_same (g ∷ gs) (suc n) = signatures_same gs n

  -- ---- views

  slot_same : (s : Slot) → IsTypeSlot s → slot_in T F s ≡ slot_of t (numbered_slot s)
  slot_same x h = search std_rules

  declared_same : (d : Option ℕ) → declared_in T d ≡ declaration_of t d
  declared_same x = search std_rules

  types_same : (xs : List ShownType) → AllByRecursion (IsShownIn shapes fs) xs → map (shown_type T F) xs ≡ map (views.shown_type t) (map numbered_type xs)
  types_same [] h = refl
  types_same (x ∷ xs) h = search (std_rules, declared_same, slot_same, types_same xs h.1)

  functions_same : (gs : List ShownFunction) → map (shown_function F) gs ≡ map (views.shown_function t) (map numbered_shown_function gs)
  functions_same [] = refl
  functions_same (g ∷ gs) = λ i. (g.name.now, record { signature = signatures_same fs g.function i; external_id = option_map text_of g.external_id }) ∷ functions_same gs i

  view_same : (v : View) → AllByRecursion (IsShownIn shapes fs) v.types.items → view_in T F v ≡ view_of t (numbered_view v)
  view_same v h = λ i. record { types = types_same v.types.items h i; functions = functions_same v.functions.items i }

  -- ---- scopes

  instances_same : (is : List Instance) → AllByRecursion (IsInstanceIn shapes fs paths) is → map (instance_in (place_at t) T F) is ≡ map (instance_of t) (map numbered_instance is)
  instances_same [] h = refl
  instances_same (x ∷ is) h = λ i. record { interface = path_back (path_at t x.place) i; view = view_same x.view h.0.types i } ∷ instances_same is h.1 i

  key_same : (key : InstanceKey) → key_at (place_at t) key ≡ key_of t (numbered_key key)
  key_same x = search std_rules

  key_text_same : (key : InstanceKey) → follow.text_of_key (key_at (place_at t) key) ≡ text_in paths key
  key_text_same x = search std_rules

  module _ (is : List Instance) (inside : AllByRecursion (IsInstanceIn shapes fs paths) is) where
    viewed_same : (n : ℕ) → viewed T F (slice_get is n) ≡ view_of t (unwrap_or (slice_get (map instance_view is) n) no_view)
    viewed_same n = by (slice_get is n) refl
      where
        by : (o : Option Instance) → slice_get is n ≡ o → viewed T F o ≡ view_of t (unwrap_or (slice_get (map instance_view is) n) no_view)
        by None e = ap (λ q. view_of t (unwrap_or q no_view)) (sym (mapped_none instance_view is n e))
        by (Some x) e = view_same x.view (all_at (IsInstanceIn shapes fs paths) is n x inside e).types ∙ ap (λ q. view_of t (unwrap_or q no_view)) (sym (mapped_get instance_view is n x e))

    shown_same : (s : Shown) → shown_in (place_at t) T F is s ≡ shown_of t (numbered_shown (map instance_view is) s)
    shown_same (shown.Instance key n) = λ i. MeantShown.instance (key_same key i) (viewed_same n i)
    shown_same (shown.Function name f) = ap MeantShown.function (signatures_same fs f)
    shown_same (shown.Type name part d) = ap MeantShown.declares (declared_same d)

    text_same : (s : Shown) → shown_text (place_at t) s ≡ name_in paths s
    text_same (shown.Instance key n) = key_text_same key
    text_same (shown.Function name f) = refl
    text_same (shown.Type name part d) = refl

    seen_same : (ss : List Seen) → map (seen_in (place_at t) T F is) ss ≡ map (seen_of t) (map (numbered_seen paths (map instance_view is)) ss)
    seen_same [] = refl
    seen_same (s ∷ ss) = λ i. record { key = text_same s.shown i; shown = shown_same s.shown i; external_id = option_map text_of s.external_id } ∷ seen_same ss i

pub scopes_in_numbers : ScopesInNumbers
scopes_in_numbers shapes fs paths scope st = record {
  imports = seen_same shapes fs paths scope.instances.items st.instances scope.imports.items;
  exports = seen_same shapes fs paths scope.instances.items st.instances scope.exports.items;
  instances = instances_same shapes fs paths scope.instances.items st.instances;
}

pub keys_in_numbers : KeysInNumbers
keys_in_numbers shapes fs paths x h = search std_rules
