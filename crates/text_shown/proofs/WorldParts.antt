-- What is shown of a world, taken apart. Serves Worlds.
use Rattle.std.proofs.Common.{◌≡◌, refl, sym, ap, ◌∙◌, Bool, true, false, List, [], ◌∷◌, ◌++◌, map, filter_map, flat_map, Option, Some, None, String}
use Rattle.std.proofs.lemmas.{Grind.flat_map-append, List.Elements.filter_map-append, List.Folds.flat_map-map}
use Rattle.std.specs.{Prelude.if◌then◌else◌, Prelude.is_some, List.cons_option, List.list_all, Option.option_map_or}
use Rattle.std.specs.declared.alloc.Global.{Global}
use Rattle.wit_model.specs.declared.model.{Resolve.Resolve, PackageId.PackageId, InterfaceId.InterfaceId, Function.Function}
use Rattle.wit_model.specs.declared.model.WorldKey.TheVariants as key
use Rattle.wit_model.specs.declared.model.WorldItem.TheVariants as item
use Rattle.wit_model.specs.{Text.Text, Text.text_of, Lookup.interface_at}
use Rattle.print_grammar.specs.Tree.{PathTree, PackageHead, MemberTree, MemberTree.UseMember, MemberTree.TypeMember, WorldMember}
use Rattle.print_grammar.specs.Tree.ExternTree.{Path, NamedFunction, NamedPath, NamedInterface}
use Rattle.print_grammar.specs.Tree.WorldMember.{WorldUse, WorldType, WorldImport, WorldExport}
use Rattle.print_items.specs.Shown.{extern_prefix, is_interface_item, shown_export, shown_function, shown_import, shown_interface, shown_path}
use Rattle.print_items.specs.Shown.{DeclaredWith, Used, WorldEntry}
use Rattle.base_lemmas.proofs.{Bools.left_of, Bools.right_of, Lists.append_none}
use Rattle.text_shown.specs.{Same.plain_members, SameWorlds.extern_function, SameWorlds.imported_function}
use Rattle.text_shown.specs.{ShowsWorlds.export_of, ShowsWorlds.import_of, ShowsWorlds.world_functions, ShowsWorlds.world_types}
use Rattle.text_shown.proofs.{Externs.shown_stated, Uses.member_of_use, WorldEntries.as_entry}
use Rattle.text_shown.proofs.Parts.{declared_none, use_singles}
use Rattle.text_shown.proofs.Resources.{free_member, functions_named, of_member, own_functions}

-- ---- lists of five parts

module _ {X Z : Type 0} (h : List X → List Z) (joins : (xs ys : List X) → h (xs ++ ys) ≡ h xs ++ h ys) where
  pub five_parts : (a b c d e : List X) → h (a ++ b ++ c ++ d ++ e) ≡ h a ++ h b ++ h c ++ h d ++ h e
  five_parts a b c d e = joins (a ++ b ++ c ++ d) e
      ∙ (λ i. joins (a ++ b ++ c) d i ++ h e) ∙ (λ i. joins (a ++ b) c i ++ h d ++ h e) ∙ (λ i. joins a b i ++ h c ++ h d ++ h e)

none_made : {X Y Z : Type 0} (f : Y → List Z) (g : X → Y) → ((x : X) → f (g x) ≡ []) → (xs : List X) → flat_map f (map g xs) ≡ []
none_made f g none [] = refl
none_made f g none (x ∷ xs) = λ i. none x i ++ none_made f g none xs i

none_given : {X Y Z : Type 0} (f : Y → Option Z) (g : X → Y) → ((x : X) → f (g x) ≡ None) → (xs : List X) → filter_map f (map g xs) ≡ []
none_given f g none [] = refl
none_given f g none (x ∷ xs) = ap (λ o. cons_option o (filter_map f (map g xs))) (none x) ∙ none_given f g none xs

all_given : {X Y Z : Type 0} (f : Y → Option Z) (g : X → Y) (k : X → Z) (xs : List X) (p : X → Bool) → ((x : X) → p x ≡ true → f (g x) ≡ Some (k x))
    → list_all p xs ≡ true
    → filter_map f (map g xs) ≡ map k xs
all_given f g k [] p same h = refl
all_given f g k (x ∷ xs) p same h = ap (λ o. cons_option o (filter_map f (map g xs))) (same x (left_of _ _ h))
    ∙ ap (λ zs. k x ∷ zs) (all_given f g k xs p same (right_of (p x) _ h))

nested : {X Y W Z : Type 0} (k : X → Y) (f : Y → List W) (g : W → List Z) (l : X → List Z) → ((x : X) → flat_map g (f (k x)) ≡ l x) → (xs : List X)
    → flat_map g (flat_map f (map k xs)) ≡ flat_map l xs
nested k f g l same [] = refl
nested k f g l same (x ∷ xs) = flat_map-append g (f (k x)) (flat_map f (map k xs)) ∙ (λ i. same x i ++ nested k f g l same xs i)

-- ---- what is stated

stated_free : (member : WorldMember) → imported_function member ≡ flat_map free_member (world_functions member)
stated_free (WorldUse prefix path names) = refl
stated_free (WorldType prefix declared) = sym (declared_none declared)
stated_free (WorldImport prefix (NamedFunction name signature)) = refl
stated_free (WorldImport prefix (Path path)) = refl
stated_free (WorldImport prefix (NamedPath name path)) = refl
stated_free (WorldImport prefix (NamedInterface name members)) = refl
stated_free (WorldExport prefix extern) = refl

-- the functions that members import
pub stated_functions : (members : List WorldMember) → flat_map imported_function members ≡ flat_map free_member (flat_map world_functions members)
stated_functions [] = refl
stated_functions (m ∷ ms) = (λ i. stated_free m i ++ stated_functions ms i)
    ∙ sym (flat_map-append free_member (world_functions m) (flat_map world_functions ms))

module _ (name : Text) where
  resource_of_member : (member : WorldMember) → flat_map (functions_named name) (world_functions member) ≡ flat_map (own_functions name) (world_types member)
  resource_of_member (WorldUse prefix path names) = of_member name (UseMember prefix path names)
  resource_of_member (WorldType prefix declared) = of_member name (TypeMember prefix declared)
  resource_of_member (WorldImport prefix (NamedFunction own signature)) = refl
  resource_of_member (WorldImport prefix (Path path)) = refl
  resource_of_member (WorldImport prefix (NamedPath own path)) = refl
  resource_of_member (WorldImport prefix (NamedInterface own members)) = refl
  resource_of_member (WorldExport prefix extern) = refl

  -- the functions of a resource are those of its declaration
  pub resource_of_members : (members : List WorldMember) → flat_map (functions_named name) (flat_map world_functions members)
      ≡ flat_map (own_functions name) (flat_map world_types members)
  resource_of_members [] = refl
  resource_of_members (m ∷ ms) = flat_map-append (functions_named name) (world_functions m) (flat_map world_functions ms)
      ∙ (λ i. resource_of_member m i ++ resource_of_members ms i) ∙ sym (flat_map-append (own_functions name) (world_types m) (flat_map world_types ms))

-- ---- what is shown of imports and exports

module _ (r : Resolve) (home : PackageId) where
  import_shown : (e : WorldEntry) → is_interface_item e.1 ≡ true → import_of (shown_import r home e) ≡ Some (shown_stated r home e)
  import_shown (key.Interface id, it) h = refl
  import_shown (key.Name s, item.Interface id gates docs external_id) h = go (option_map_or (λ i. is_some i.name) (interface_at r id.0) false)
    where
      go : (b : Bool) → import_of (WorldImport (extern_prefix r (key.Name s) (item.Interface id gates docs external_id))
          (if b then NamedPath (text_of s) (shown_path r home id) else NamedInterface (text_of s)
          (option_map_or (shown_interface r id) (interface_at r id.0) [])))
          ≡ Some (record {
            prefix = extern_prefix r (key.Name s) (item.Interface id gates docs external_id);
            extern = if b then NamedPath (text_of s) (shown_path r home id) else NamedInterface (text_of s)
                (option_map_or (shown_interface r id) (interface_at r id.0) []);
          })
      go true = refl
      go false = refl
  import_shown (key.Name s, item.Function f) h = absurd cc
  import_shown (key.Name s, item.Type_ id) h = absurd cc

  no_function : (e : WorldEntry) → is_interface_item e.1 ≡ true → imported_function (shown_import r home e) ≡ []
  no_function (key.Interface id, it) h = refl
  no_function (key.Name s, item.Interface id gates docs external_id) h = go (option_map_or (λ i. is_some i.name) (interface_at r id.0) false)
    where
      go : (b : Bool) → extern_function (extern_prefix r (key.Name s) (item.Interface id gates docs external_id))
          (if b then NamedPath (text_of s) (shown_path r home id) else NamedInterface (text_of s)
          (option_map_or (shown_interface r id) (interface_at r id.0) [])) ≡ []
      go true = refl
      go false = refl
  no_function (key.Name s, item.Function f) h = absurd cc
  no_function (key.Name s, item.Type_ id) h = absurd cc

  no_functions : (es : List WorldEntry) → list_all (λ e. is_interface_item e.1) es ≡ true → flat_map imported_function (map (shown_import r home) es) ≡ []
  no_functions [] h = refl
  no_functions (e ∷ es) h = λ i. no_function e (left_of _ _ h) i ++ no_functions es (right_of (is_interface_item e.1) _ h) i

  free_functions : (here : PackageHead) (fs : List (String Global × Function))
      → flat_map imported_function (map (shown_import r home) (map as_entry fs)) ≡ flat_map (λ f. plain_members here (shown_function r f)) (map (λ e. e.1) fs)
  free_functions here [] = refl
  free_functions here (f ∷ fs) = ap (λ ms. plain_members here (shown_function r f.1) ++ ms) (free_functions here fs)

  no_imports : (fs : List (String Global × Function)) → filter_map import_of (map (shown_import r home) (map as_entry fs)) ≡ []
  no_imports [] = refl
  no_imports (f ∷ fs) = no_imports fs

  exported : (es : List WorldEntry) → filter_map export_of (map (shown_export r home) es) ≡ map (shown_stated r home) es
  exported [] = refl
  exported (e ∷ es) = ap (λ ss. shown_stated r home e ∷ ss) (exported es)

  -- ---- the parts of a world

  module _ (here : PackageHead) (interfaces : List WorldEntry) (are_interfaces : list_all (λ e. is_interface_item e.1) interfaces ≡ true)
      (uses : List Used) (declarations : List DeclaredWith)
      (free : List (String Global × Function)) (exports : List WorldEntry) where
    abbrev pub path : InterfaceId → PathTree
    path id = shown_path r home id

    abbrev pub shown_uses : List WorldMember
    shown_uses = map (λ used. WorldUse used.prefix (path used.interface) used.names) uses

    abbrev pub shown_types : List WorldMember
    shown_types = map (λ d. WorldType d.prefix d.declared) declarations

    abbrev pub all_members : List WorldMember
    all_members = map (shown_import r home) interfaces ++ shown_uses ++ shown_types ++ map (shown_import r home) (map as_entry free)
        ++ map (shown_export r home) exports

    -- the types, one by one
    pub types_apart : flat_map (plain_members here) (flat_map world_types all_members)
        ≡ flat_map (plain_members here) (map (member_of_use here path) uses)
        ++ flat_map (plain_members here) (map (λ d. TypeMember d.prefix d.declared) declarations)
    types_apart = five_parts (λ ms. flat_map (plain_members here) (flat_map world_types ms))
        (λ xs ys. ap (flat_map (plain_members here)) (flat_map-append world_types xs ys)
        ∙ flat_map-append (plain_members here) (flat_map world_types xs) (flat_map world_types ys))
        (map (shown_import r home) interfaces) shown_uses shown_types (map (shown_import r home) (map as_entry free)) (map (shown_export r home) exports)
        ∙ (λ i. flat_map (plain_members here) (none_made world_types (shown_import r home) (λ e. refl) interfaces i)
        ++ used_types i ++ declared_types i
        ++ flat_map (plain_members here) (none_made world_types (shown_import r home) (λ e. refl) (map as_entry free) i)
        ++ flat_map (plain_members here) (none_made world_types (shown_export r home) (λ e. refl) exports i))
        ∙ append_none (both ++ []) ∙ append_none both
      where
        used_types : flat_map (plain_members here) (flat_map world_types shown_uses) ≡ flat_map (plain_members here) (map (member_of_use here path) uses)
        used_types = nested (λ used. WorldUse used.prefix (path used.interface) used.names) world_types (plain_members here)
            (λ u. plain_members here (member_of_use here path u))
            (λ u. use_singles here u.prefix (path u.interface) u.names) uses ∙ sym (flat_map-map (plain_members here) (member_of_use here path) uses)

        declared_types : flat_map (plain_members here) (flat_map world_types shown_types)
            ≡ flat_map (plain_members here) (map (λ d. TypeMember d.prefix d.declared) declarations)
        declared_types = nested (λ d. WorldType d.prefix d.declared) world_types (plain_members here)
            (λ d. plain_members here (TypeMember d.prefix d.declared)) (λ d. refl) declarations
            ∙ sym (flat_map-map (plain_members here) (λ d. TypeMember d.prefix d.declared) declarations)

        both : List MemberTree
        both = flat_map (plain_members here) (map (member_of_use here path) uses)
            ++ flat_map (plain_members here) (map (λ d. TypeMember d.prefix d.declared) declarations)

    -- the functions
    pub functions_apart : flat_map imported_function all_members ≡ flat_map (λ f. plain_members here (shown_function r f)) (map (λ e. e.1) free)
    functions_apart = five_parts (flat_map imported_function) (flat_map-append imported_function)
        (map (shown_import r home) interfaces) shown_uses shown_types (map (shown_import r home) (map as_entry free)) (map (shown_export r home) exports)
        ∙ (λ i. no_functions interfaces are_interfaces i
        ++ none_made imported_function (λ used. WorldUse used.prefix (path used.interface) used.names) (λ u. refl) uses i
        ++ none_made imported_function (λ d. WorldType d.prefix d.declared) (λ d. refl) declarations i
        ++ free_functions here free i
        ++ none_made imported_function (shown_export r home) (λ e. refl) exports i)
        ∙ append_none (flat_map (λ f. plain_members here (shown_function r f)) (map (λ e. e.1) free))

    -- the imported interfaces
    pub imports_apart : filter_map import_of all_members ≡ map (shown_stated r home) interfaces
    imports_apart = five_parts (filter_map import_of) (filter_map-append import_of)
        (map (shown_import r home) interfaces) shown_uses shown_types (map (shown_import r home) (map as_entry free)) (map (shown_export r home) exports)
        ∙ (λ i. all_given import_of (shown_import r home) (shown_stated r home) interfaces (λ e. is_interface_item e.1) import_shown are_interfaces i
        ++ none_given import_of (λ used. WorldUse used.prefix (path used.interface) used.names) (λ u. refl) uses i
        ++ none_given import_of (λ d. WorldType d.prefix d.declared) (λ d. refl) declarations i
        ++ no_imports free i
        ++ none_given import_of (shown_export r home) (λ e. refl) exports i)
        ∙ append_none (((map (shown_stated r home) interfaces ++ []) ++ []) ++ []) ∙ append_none ((map (shown_stated r home) interfaces ++ []) ++ [])
        ∙ append_none (map (shown_stated r home) interfaces ++ []) ∙ append_none (map (shown_stated r home) interfaces)

    -- the exports
    pub exports_apart : filter_map export_of all_members ≡ map (shown_stated r home) exports
    exports_apart = five_parts (filter_map export_of) (filter_map-append export_of)
        (map (shown_import r home) interfaces) shown_uses shown_types (map (shown_import r home) (map as_entry free)) (map (shown_export r home) exports)
        ∙ (λ i. none_given export_of (shown_import r home) (λ e. refl) interfaces i
        ++ none_given export_of (λ used. WorldUse used.prefix (path used.interface) used.names) (λ u. refl) uses i
        ++ none_given export_of (λ d. WorldType d.prefix d.declared) (λ d. refl) declarations i
        ++ none_given export_of (shown_import r home) (λ e. refl) (map as_entry free) i
        ++ exported exports i)
