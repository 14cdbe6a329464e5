-- What validity says of a `Resolve`: its worlds and interfaces can be printed.
use Rattle.std.proofs.Common.{rules as std_rules, ◌≡◌, refl, sym, subst, ◌∙◌, ℕ, ◌+◌, Bool, true, false, ◌&&◌, ◌||◌, not, List, [], ◌∷◌, length, Option, Some, arith}
use Rattle.std.proofs.lemmas.{Bool.ltb-true, Bool.and_from as both_true, List.Folds.list_all-map}
use Rattle.std.specs.{Prelude.String, List.list_all, Option.option_map_or, Cmp.Lexicographic.same_text}
use Rattle.std.specs.declared.alloc.Global.{Global}
use Rattle.indexmap.specs.IndexMap.{values}
use Rattle.wit_model.specs.declared.model.{Resolve.Resolve, Package.Package, PackageId.PackageId, WorldId.WorldId, WorldKey.WorldKey, WorldItem.WorldItem}
use Rattle.wit_model.specs.declared.model.World.{World}
use Rattle.wit_model.specs.{Text.text_of, Text.text_eq, Lookup.interface_at, Lookup.package_at, Lookup.world_at, Lookup.optional_version_text}
use Rattle.wit_model.specs.Names.{is_label, is_version_text}
use Rattle.wit_model.specs.Rules.{in_list, passes, entries_labels, is_stability, world_belongs, is_id, package_number, is_export_item, text_is}
use Rattle.wit_model.specs.Valid.{IsValid, names_in_packages, numbers_in_range, package_names, places, labels, is_place, item_function}
use Rattle.wit_model.proofs.{Entries.each_from_at, Entries.lists_pass, OnePath.package-passes}
use Rattle.print_uses.specs.Printable.{is_printable_import, is_printable_interface, is_printable_entry, is_printable_world, is_printable_listed}
use Rattle.print_uses.specs.UseGroups.{is_listed_function, is_listed_type}
use Rattle.print_grammar.specs.WellNamed.{is_well_item}
use Rattle.print_items.specs.Shown.{Listed, imported_functions, listed_imports, shown_interface_item, type_of_entry}
use Rattle.print_uses.proofs.{WellLists.all_both, WellLists.given_well, Valid.is_known_listed}
use Rattle.print_packages.proofs.ValidWorlds.{is_known_entry, entry_function_known, extern_well, world_is_shown}
use Rattle.print_packages.proofs.ValidFiles.{interface_item_well}
use Rattle.print_items.proofs.ShownWell.{gates_well, optional_version}
use Rattle.base_lemmas.proofs.{Bools.left_of as first_true, Bools.right_of as second_true, Elements.all_weaker as weaker_all, Lists.within_there as found}
use Rattle.wit_model.specs.declared.model.TypeOwner.TheVariants as owner

-- ---- items

-- a printable entry is in range, stands where it may, and is shown well
is_printable : (r : Resolve) (valid : IsValid r) (here : PackageId) (n : ℕ) (k : WorldKey) (i : WorldItem) → is_known_entry r n (k, i) ≡ true → is_export_item i ≡ true
    → is_printable_entry r here (k, i) ≡ true
is_printable r valid here n k i known exported = search (std_rules, both_true, first_true, extern_well, is_known_entry, second_true)

module _ (r : Resolve) (valid : IsValid r) (here : PackageId) (n : ℕ) where
  import_printable : (e : WorldKey × WorldItem) → is_known_entry r n e ≡ true → is_printable_import r here e ≡ true
  import_printable e known = go (is_export_item e.1) refl
    where
      go : (b : Bool) → is_export_item e.1 ≡ b → (not b || is_printable_entry r here e) ≡ true
      go true shown = is_printable r valid here n e.0 e.1 known shown
      go false shown = refl

  imports_printable : (es : List (WorldKey × WorldItem)) → list_all (is_known_entry r n) es ≡ true → list_all (is_printable_import r here) es ≡ true
  imports_printable = weaker_all (is_known_entry r n) (is_printable_import r here) import_printable

  exports_printable : (es : List (WorldKey × WorldItem)) → list_all (λ e. is_known_entry r n e && is_export_item e.1) es ≡ true → list_all (is_printable_entry r here) es ≡ true
  exports_printable = weaker_all (λ e. is_known_entry r n e && is_export_item e.1) (is_printable_entry r here)
      (λ e known. is_printable r valid here n e.0 e.1 (first_true _ _ known) (second_true (is_known_entry r n e) _ known))

  -- types of a world are in range
  entry_in_range : (e : WorldKey × WorldItem) → is_known_entry r n e ≡ true → passes (λ (t : Listed). in_list r.types.items t.id.0) (type_of_entry e.0 e.1) ≡ true
  entry_in_range e known = search std_rules

  types_listed : (w : World) → list_all (is_known_entry r n) w.imports.entries ≡ true → list_all (is_known_listed r (owner.World (record { 0 = n }))) (listed_imports w) ≡ true
      → list_all (is_listed_type r (owner.World (record { 0 = n }))) (listed_imports w) ≡ true
  types_listed w known types =
      all_both (λ (t : Listed). in_list r.types.items t.id.0) (is_known_listed r (owner.World (record { 0 = n }))) (listed_imports w)
      (given_well (is_known_entry r n) (λ e. type_of_entry e.0 e.1) (λ (t : Listed). in_list r.types.items t.id.0) entry_in_range w.imports.entries known) types

  functions_listed : (w : World) → list_all (is_known_entry r n) w.imports.entries ≡ true → list_all (is_listed_function r (owner.World (record { 0 = n }))) (imported_functions w) ≡ true
  functions_listed w known = given_well (is_known_entry r n) (λ e. item_function e.1) (is_listed_function r (owner.World (record { 0 = n }))) (λ e k. entry_function_known r valid n e.0 e.1 k)
      w.imports.entries known

-- ---- worlds

last_three : (a b c d : Bool) → (a && (b && (c && d))) ≡ true → (b ≡ true) × (c ≡ true) × (d ≡ true)
last_three x b c d h = search std_rules

world_labels : (r : Resolve) (n : ℕ) (w : World) → IsValid r → world_at r n ≡ Some w → (is_label (text_of w.name) ≡ true) × (is_stability w.stability ≡ true)
    × (entries_labels w.imports.entries ≡ true) × (entries_labels w.exports.entries ≡ true)
unfolding labels
world_labels r n w v e = grind (arith, each_from_at, lists_pass, last_three, first_true)

valid_world : (r : Resolve) (here : PackageId) (n : ℕ) (w : World) → IsValid r → world_at r n ≡ Some w → is_id here.0 (package_number w.«package») ≡ true
    → is_printable_world r here (record { 0 = n }) w ≡ true
valid_world r here n w v e belongs =
    let names = world_labels r n w v e in
    let known = world_is_shown r v n w e in
    both_true _ _ (gates_well w.stability names.1) (both_true _ _ belongs
    (both_true _ _ (both_true _ _ (imports_printable r v here n w.imports.entries known.imports) (exports_printable r v here n w.exports.entries known.exports))
    (both_true _ _ (types_listed r v here n w known.imports known.types) (functions_listed r v here n w known.imports))))

-- ---- packages

given : {X : Type 0} (test : X → Bool) (o : Option X) (x : X) → o ≡ Some x → passes test o ≡ true → test x ≡ true
given test o x e h = subst (λ p. passes test p ≡ true) e h

valid_listed : (r : Resolve) (here : PackageId) (x : String Global × WorldId) → IsValid r → in_list r.worlds.items x.1.0 ≡ true → world_belongs r here.0 x ≡ true → is_printable_listed r here x ≡ true
valid_listed r here x v range belongs =
    let world = found r.worlds.items x.1.0 (ltb-true x.1.0 (length r.worlds.items) range) in
    let w = world.0 in
    let listed = given (λ w. is_id here.0 (package_number w.«package») && text_eq (text_of w.name) (text_of x.0)) (world_at r x.1.0) w world.1 belongs in
    let name : text_of w.name ≡ text_of x.0 = same_text (text_of w.name) (text_of x.0)
    (sym (second_true (is_id here.0 (package_number w.«package»)) (text_eq (text_of w.name) (text_of x.0)) listed)) in
    let inside : option_map_or (is_printable_world r here x.1) (world_at r x.1.0) false ≡ true =
    subst (λ o. option_map_or (is_printable_world r here x.1) o false ≡ true) (sym world.1) (valid_world r here x.1.0 w v world.1 (first_true _ _ listed)) in
    both_true _ _ (subst (λ t. is_label t ≡ true) name (world_labels r x.1.0 w v world.1).0) inside

all_listed : (r : Resolve) (here : PackageId) → IsValid r → (xs : List (String Global × WorldId)) → list_all (λ x. in_list r.worlds.items x.1.0) xs ≡ true → list_all (world_belongs r here.0) xs ≡ true
    → list_all (is_printable_listed r here) xs ≡ true
all_listed r here v [] range belongs = refl
all_listed r here v (x ∷ xs) range belongs =
    search (std_rules, both_true, valid_listed, first_true, second_true, all_listed r here v xs (second_true (in_list r.worlds.items x.1.0) _ range) (second_true (world_belongs r here.0 x) _ belongs))

package_range : (r : Resolve) (n : ℕ) (p : Package) → IsValid r → package_at r n ≡ Some p → list_all (λ x. in_list r.worlds.items x.1.0) p.worlds.entries ≡ true
unfolding numbers_in_range
package_range r n p v e = search (std_rules, each_from_at, lists_pass, second_true, list_all-map)

package_worlds : (r : Resolve) (n : ℕ) (p : Package) → IsValid r → package_at r n ≡ Some p → list_all (world_belongs r n) p.worlds.entries ≡ true
unfolding places
package_worlds r n p v e = search (std_rules, each_from_at, lists_pass, first_true, second_true)

-- the worlds of a package can be printed
pub valid_worlds : (r : Resolve) (here : PackageId) (p : Package) → IsValid r → package_at r here.0 ≡ Some p → list_all (is_printable_listed r here) p.worlds.entries ≡ true
valid_worlds r here p v e = all_listed r here v p.worlds.entries (package_range r here.0 p v e) (package_worlds r here.0 p v e)

-- a package's name is one
pub valid_name : (r : Resolve) (n : ℕ) (p : Package) → IsValid r → package_at r n ≡ Some p → (is_label (text_of p.name.namespace) ≡ true) × (is_label (text_of p.name.name) ≡ true)
    × (passes is_version_text (optional_version_text p.name.version) ≡ true)
unfolding package_names
valid_name r n p v e = search (std_rules, each_from_at, lists_pass, first_true, second_true, optional_version)

-- the interfaces of a package can be printed
pub valid_interfaces : (r : Resolve) (n : ℕ) (p : Package) → IsValid r → package_at r n ≡ Some p → list_all (is_printable_interface r) p.interfaces.entries ≡ true
unfolding numbers_in_range names_in_packages
valid_interfaces r n p v e =
    let here = each_from_at (numbers_in_range.package_ r) 0 r.packages.items n p (lists_pass numbers_in_range r v.rules.numbers_in_range).0 e in
    let ids = first_true (list_all (λ id. in_list r.interfaces.items id.0) (values p.interfaces)) _ (second_true (is_place (0 + n)) _ here) in
    let range = sym (list_all-map (λ id. in_list r.interfaces.items id.0) (λ x. x.1) p.interfaces.entries) ∙ ids in
    let keys = package-passes names_in_packages r v.rules.names_in_packages n p e in
    all_both (λ x. in_list r.interfaces.items x.1.0) (λ x. passes is_well_item (shown_interface_item r x)) p.interfaces.entries range
    (weaker_all (λ x. passes (λ i. text_is i.name (text_of x.0)) (interface_at r x.1.0)) (λ x. passes is_well_item (shown_interface_item r x)) (interface_item_well r v) p.interfaces.entries
    (first_true _ _ keys))
