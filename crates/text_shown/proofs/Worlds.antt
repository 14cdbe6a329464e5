-- What is shown of a world is the members that it has. Serves laws.
use Rattle.std.proofs.Common.{◌≡◌, refl, sym, ap, subst, ◌∙◌, ℕ, Bool, true, false, cond, List, [], ◌∷◌, ◌++◌, map, filter, filter_map, flat_map}
use Rattle.std.proofs.Common.{Some, None, String, inl, inr}
use Rattle.std.proofs.lemmas.Option.{same_Some}
use Rattle.std.specs.{List.IsDistinct, List.list_all, Map.keys_of, Option.option_map_or}
use Rattle.std.specs.declared.alloc.Global.{Global}
use Rattle.wit_model.specs.declared.model.{Resolve.Resolve, Package.Package, PackageId.PackageId, TypeId.TypeId, TypeOwner.TypeOwner, InterfaceId.InterfaceId}
use Rattle.wit_model.specs.declared.model.{World.World, WorldId.WorldId, WorldItem.WorldItem as Item, Function.Function}
use Rattle.wit_model.specs.declared.model.TypeOwner.TheVariants as owner
use Rattle.wit_model.specs.declared.model.WorldItem.TheVariants as item
use Rattle.wit_model.specs.{Text.Text, Lookup.package_at, Rules.is_freestanding, Valid.IsValid, Valid.item_function, Valid.key_eq}
use Rattle.print_grammar.specs.Tree.{Gates.Ungated, PackageHead, PathTree, Prefix, ExternTree, WorldMember}
use Rattle.print_grammar.specs.Tree.ExternTree.{Path, NamedFunction, NamedPath, NamedInterface}
use Rattle.print_grammar.specs.Tree.WorldMember.{WorldUse, WorldType, WorldImport, WorldExport}
use Rattle.print_items.specs.Shown.{is_freestanding_item, is_interface_item, shown_declarations, shown_export, shown_function, shown_head, shown_import}
use Rattle.print_items.specs.Shown.{shown_path, shown_uses, shown_world, shown_world_in, type_of_entry, DeclaredWith, Used, WorldEntry}
use Rattle.text_types.proofs.MadeLaws.{order_weaker, type_carried}
use Rattle.base_lemmas.proofs.{Elements.all_pass, Elements.contains-map, Elements.filter_map_from, Elements.map_from, Lists.append_none}
use Rattle.text_shown.specs.{Means.TargetIs, Means.PathIs, Members.IsForeign, Same.plain_members, Same.Shuffled}
use Rattle.text_shown.specs.ShowsWorlds.{export_of, import_of, world_functions, world_types, ExternIs, IsBare, IsFrontOf, IsInline, IsOneOf, Stated, StatedIs}
use Rattle.text_shown.specs.SameWorlds.{imported_function, AreSame, IsBareImport, SameStated, SameWorlds}
use Rattle.text_shown.specs.WorldMembers.{HasWorldMembers, ShowsWorldMembers}
use Rattle.text_shown.proofs.{Externs.extern_same, Externs.shown_stated, Targets.used_is_foreign}
use Rattle.text_shown.proofs.Owners.{Owns, functions_shown, types_shown}
use Rattle.text_shown.proofs.Parts.{plain_declarations, plain_uses}
use Rattle.text_shown.proofs.WorldEntries.{as_entry, entries_of, listed_entry, listed_free, listed_functions, listed_interfaces, listed_types}
use Rattle.text_shown.proofs.WorldEntries.{types_apart as names_apart}
use Rattle.text_shown.proofs.WorldParts.{all_members, exports_apart, functions_apart, imports_apart, resource_of_members}
use Rattle.text_shown.proofs.WorldParts.{stated_functions, types_apart}
use Rattle.text_types.proofs.MakingLaws.{nothing_shown}

-- ---- imports and exports

-- whether it is no function
abbrev no_function : ExternTree → Bool
no_function (NamedFunction name signature) = false
no_function (Path path) = true
no_function (NamedPath name path) = true
no_function (NamedInterface name members) = true

import_no_function : (member : WorldMember) (one : Stated) → import_of member ≡ Some one → no_function one.extern ≡ true
import_no_function (WorldUse prefix path names) one e = absurd cc
import_no_function (WorldType prefix declared) one e = absurd cc
import_no_function (WorldImport prefix (NamedFunction name signature)) one e = absurd cc
import_no_function (WorldImport prefix (Path path)) one e = ap (λ (s : Stated). no_function s.extern) (sym (same_Some _ one e))
import_no_function (WorldImport prefix (NamedPath name path)) one e = ap (λ (s : Stated). no_function s.extern) (sym (same_Some _ one e))
import_no_function (WorldImport prefix (NamedInterface name members)) one e = ap (λ (s : Stated). no_function s.extern) (sym (same_Some _ one e))
import_no_function (WorldExport prefix extern) one e = absurd cc

is_item : (prefix : Prefix) (id : InterfaceId) (what : Item) → IsFrontOf prefix id what → is_interface_item what ≡ true
is_item prefix id (item.Interface own gates docs external_id) front = refl
is_item prefix id (item.Function f) front = absurd front
is_item prefix id (item.Type_ t) front = absurd front

extern_item : (r : Resolve) (home : ℕ) (prefix : Prefix) (extern : ExternTree) (entry : WorldEntry) → no_function extern ≡ true
    → ExternIs r.types.items (PathIs r home) (IsInline r home) prefix extern entry → is_interface_item entry.1 ≡ true
extern_item r home prefix extern entry h (ExternIs.by_path {id = id} {what = what} means front) = is_item prefix id what front
extern_item r home prefix extern entry h (ExternIs.by_label {id = id} {what = what} named means front) = is_item prefix id what front
extern_item r home prefix extern entry h (ExternIs.inline {id = id} {what = what} named has front) = is_item prefix id what front
extern_item r home prefix extern entry h (ExternIs.a_function named stands) = absurd cc

filter_seconds : {A B : Type 0} (p : B → Bool) (es : List (A × B)) → map (λ e. e.1) (filter (λ e. p e.1) es) ≡ filter p (map (λ e. e.1) es)
filter_seconds p [] = refl
filter_seconds p (e ∷ es) = go (p e.1) (filter_seconds p es)
  where
    go : (b : Bool) → map (λ x. x.1) (filter (λ x. p x.1) es) ≡ filter p (map (λ x. x.1) es)
        → map (λ x. x.1) (cond b (e ∷ filter (λ x. p x.1) es) (filter (λ x. p x.1) es))
        ≡ cond b (e.1 ∷ filter p (map (λ x. x.1) es)) (filter p (map (λ x. x.1) es))
    go true rest = ap (λ xs. e.1 ∷ xs) rest
    go false rest = rest

module _ (r : Resolve) (valid : IsValid r) (home : PackageId) (p : Package) (at : package_at r home.0 ≡ Some p) (id : WorldId) (w : World)
    (members : List WorldMember)
    (h : HasWorldMembers r home id w members) where
  abbrev here : PackageHead
  here = shown_head p

  abbrev of_world : TypeOwner
  of_world = owner.World id

  abbrev path : InterfaceId → PathTree
  path other = shown_path r home other

  -- ---- imports that are interfaces

  item_of : (entry : WorldEntry) → IsOneOf (StatedIs r home.0) (filter_map import_of members) entry → is_interface_item entry.1 ≡ true
  item_of entry k =
      let from = filter_map_from import_of members k.one k.stated in
      extern_item r home.0 k.one.prefix k.one.extern entry (import_no_function from.1 k.one from.3) k.is

  bare_item : (entry : WorldEntry) → IsBare entry → is_interface_item entry.1 ≡ true
  bare_item entry (IsBare.bare id none) = refl

  are_interfaces : list_all (λ e. is_interface_item e.1) h.imports.interfaces ≡ true
  are_interfaces = all_pass (λ e. is_interface_item e.1) h.imports.interfaces
      (λ entry has. elim (h.imports.has_interfaces.only entry has) [ inl k ↦ item_of entry k | inr k ↦ bare_item entry k ])

  same_stated : (one : Stated) (entry : WorldEntry) → StatedIs r home.0 one entry → SameStated here (shown_stated r home entry) one
  same_stated one entry k = extern_same r valid home p at one entry k

  bare_import : (entry : WorldEntry) → IsBare entry → IsBareImport (shown_stated r home entry)
  bare_import entry (IsBare.bare id {docs = docs} none) =
      subst (λ ls. IsBareImport (record { prefix = record { docs = ls; gates = Ungated; external_id = None }; extern = Path (shown_path r home id) }))
      (sym (nothing_shown docs none))
      (IsBareImport.bare_import (shown_path r home id))

  imports_same : AreSame here IsBareImport (map (shown_stated r home) h.imports.interfaces) (filter_map import_of members)
  imports_same = record {
    stated_shown = λ one has. let k = h.imports.has_interfaces.stated one has in
        record {
          one = shown_stated r home k.entry;
          there = contains-map (shown_stated r home) h.imports.interfaces k.entry k.there;
          same =
              same_stated one k.entry k.is;
        };
    shown_stated = λ one has. let from = map_from (shown_stated r home) h.imports.interfaces one has in
        elim (h.imports.has_interfaces.only from.0 from.1) [
          | inl k ↦ inl (record {
            one = k.one;
            there = k.stated;
            same =
                subst (λ s. SameStated here s k.one) from.2 (same_stated k.one from.0 k.is);
          })
          | inr k ↦ inr (subst IsBareImport from.2 (bare_import from.0 k))
        ];
  }

  exports_same : AreSame here (λ one. ⊥) (map (shown_stated r home) w.exports.entries) (filter_map export_of members)
  exports_same = record {
    stated_shown = λ one has. let k = h.exports.stated one has in
        record {
          one = shown_stated r home k.entry;
          there = contains-map (shown_stated r home) w.exports.entries k.entry k.there;
          same =
              same_stated one k.entry k.is;
        };
    shown_stated = λ one has. let from = map_from (shown_stated r home) w.exports.entries one has in
        let k = h.exports.only from.0 from.1 in
        inl (record {
          one = k.one;
          there = k.stated;
          same = subst (λ s. SameStated here s k.one) from.2
              (same_stated k.one from.0 k.is);
        });
  }

  -- ---- the entries of imports

  imports_are : w.imports.entries ≡ h.imports.interfaces ++ h.imports.types ++ map as_entry (entries_of h.imports.has_functions).functions
  imports_are = h.imports.are ∙ ap (λ es. h.imports.interfaces ++ h.imports.types ++ es) (entries_of h.imports.has_functions).are

  -- ---- types and functions

  foreign : (other : PathTree) (name : Text) (target : TypeId) → TargetIs r home.0 other name target → IsForeign r here of_world (Some home) other name target
  foreign other name target k = used_is_foreign r valid home p at of_world other name target (record { is = k; apart = refl })

  owns : Owns r here of_world (Some home) (flat_map world_types members) (flat_map world_functions members) h.imports.own
      (entries_of h.imports.has_functions).functions
  owns = record {
    has_types = order_weaker (type_carried {old = r.types.items} (record { more = []; is = sym (append_none r.types.items) }) foreign) h.imports.has_types;
    has_functions = (entries_of h.imports.has_functions).each;
    distinct = names_apart h.imports.interfaces h.imports.types h.imports.functions h.imports.types_are
        (subst (λ es. IsDistinct key_eq (keys_of es)) h.imports.are (valid.distinct_keys.worlds id.0 w h.there).0);
    resources = λ name. resource_of_members name members;
  }

  module _ (fs : List (String Global × Function)) (are : w.imports.entries ≡ h.imports.interfaces ++ h.imports.types ++ map as_entry fs)
      (o : Owns r here of_world (Some home) (flat_map world_types members) (flat_map world_functions members) h.imports.own fs) where
    abbrev entries : List (String Global × TypeId)
    entries = h.imports.own.entries

    abbrev all_functions : List Function
    all_functions = map (λ e. e.1) fs

    abbrev free : List (String Global × Function)
    free = filter (λ e. is_freestanding e.1.kind) fs

    abbrev uses : List Used
    uses = shown_uses r of_world (map listed_entry entries)

    abbrev declarations : List DeclaredWith
    declarations = shown_declarations r of_world all_functions (map listed_entry entries)

    abbrev members_shown : List WorldMember
    members_shown = all_members r home here h.imports.interfaces are_interfaces uses declarations free w.exports.entries

    -- what is shown, by the entries of imports
    abbrev by_entries : List WorldEntry → List WorldMember
    by_entries es =
        map (shown_import r home) (filter (λ e. is_interface_item e.1) es)
        ++ map (λ used. WorldUse used.prefix (shown_path r home used.interface) used.names) (shown_uses r of_world (filter_map (λ e. type_of_entry e.0 e.1) es))
        ++ map (λ d. WorldType d.prefix d.declared)
        (shown_declarations r of_world (filter_map (λ e. item_function e.1) es) (filter_map (λ e. type_of_entry e.0 e.1) es))
        ++ map (shown_import r home) (filter (λ e. is_freestanding_item e.1) es)
        ++ map (shown_export r home) w.exports.entries

    types_are : filter_map (λ e. type_of_entry e.0 e.1) (h.imports.interfaces ++ h.imports.types ++ map as_entry fs) ≡ map listed_entry entries
    types_are = listed_types h.imports.interfaces h.imports.types entries fs are_interfaces h.imports.types_are

    functions_are : filter_map (λ e. item_function e.1) (h.imports.interfaces ++ h.imports.types ++ map as_entry fs) ≡ all_functions
    functions_are = listed_functions h.imports.interfaces h.imports.types entries fs are_interfaces h.imports.types_are

    interfaces_are : filter (λ e. is_interface_item e.1) (h.imports.interfaces ++ h.imports.types ++ map as_entry fs) ≡ h.imports.interfaces
    interfaces_are = listed_interfaces h.imports.interfaces h.imports.types entries fs are_interfaces h.imports.types_are

    free_are : filter (λ e. is_freestanding_item e.1) (h.imports.interfaces ++ h.imports.types ++ map as_entry fs) ≡ map as_entry free
    free_are = listed_free h.imports.interfaces h.imports.types entries fs are_interfaces h.imports.types_are

    world_is : shown_world r id w ≡ members_shown
    world_is = ap (λ o. option_map_or (shown_world_in r id w) o []) h.placed ∙ ap by_entries are
        ∙ (λ i. map (shown_import r home) (interfaces_are i)
        ++ map (λ used. WorldUse used.prefix (shown_path r home used.interface) used.names) (shown_uses r of_world (types_are i))
        ++ map (λ d. WorldType d.prefix d.declared) (shown_declarations r of_world (functions_are i) (types_are i))
        ++ map (shown_import r home) (free_are i)
        ++ map (shown_export r home) w.exports.entries)

    types_same : Shuffled (flat_map (plain_members here) (flat_map world_types members_shown)) (flat_map (plain_members here) (flat_map world_types members))
    types_same = subst (λ ms. Shuffled ms (flat_map (plain_members here) (flat_map world_types members)))
        (sym (types_apart r home here h.imports.interfaces are_interfaces uses declarations free w.exports.entries
        ∙ (λ i. plain_uses here r of_world path all_functions entries i ++ plain_declarations here r of_world path all_functions entries i)))
        (types_shown r valid here of_world (Some home) (flat_map world_types members) (flat_map world_functions members) h.imports.own fs o)

    functions_same : flat_map imported_function members_shown ≡ flat_map imported_function members
    functions_same = functions_apart r home here h.imports.interfaces are_interfaces uses declarations free w.exports.entries
        ∙ ap (flat_map (λ f. plain_members here (shown_function r f))) (filter_seconds (λ f. is_freestanding f.kind) fs)
        ∙ functions_shown r valid here of_world (Some home) (flat_map world_types members) (flat_map world_functions members) h.imports.own fs o
        ∙ sym (stated_functions members)

    all_same : SameWorlds here members_shown members
    all_same = record {
      types = types_same;
      functions = functions_same;
      imports = subst (λ ss. AreSame here IsBareImport ss (filter_map import_of members))
          (sym (imports_apart r home here h.imports.interfaces are_interfaces uses declarations free w.exports.entries)) imports_same;
      exports = subst (λ ss. AreSame here (λ one. ⊥) ss (filter_map export_of members))
          (sym (exports_apart r home here h.imports.interfaces are_interfaces uses declarations free w.exports.entries)) exports_same;
    }

    same_shown : SameWorlds here (shown_world r id w) members
    same_shown = subst (λ ms. SameWorlds here ms members) (sym world_is) all_same

  all_shown : SameWorlds here (shown_world r id w) members
  all_shown = same_shown (entries_of h.imports.has_functions).functions imports_are owns

-- What is shown of a world is the members that it has.
pub world_shown : ShowsWorldMembers
world_shown r valid home p at id w members h = all_shown r valid home p at id w members h
