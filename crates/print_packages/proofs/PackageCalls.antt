-- What is shown of worlds and packages, and its calls.
use Rattle.std.proofs.Common.{rules as std_rules, ◌≡◌, refl, sym, ap, ◌∙◌, ℕ, Bool, true, false, ◌&&◌, ◌||◌, List, [], ◌∷◌, ◌++◌, append_assoc, Option, Some, None, map, filter, slice_get, get_or, zero, suc, length}
use Rattle.std.proofs.lemmas.Grind.{flat_map-append}
use Rattle.std.specs.{Prelude.codes, Prelude.String, Prelude.option_map, Prelude.if◌then◌else◌, List.flat_map, List.filter_map, List.cons_option}
use Rattle.std.specs.Option.{option_map_or}
use Rattle.std.specs.declared.alloc.Global.{Global}
use Rattle.wit_model.specs.declared.model.{Resolve.Resolve, Package.Package, Interface.Interface, InterfaceId.InterfaceId, WorldId.WorldId, PackageId.PackageId}
use Rattle.wit_model.specs.declared.model.World.{World}
use Rattle.wit_model.specs.{Text.Text, Text.text_of, Names.is_label, Rules.has_items, Rules.is_id, Rules.package_number}
use Rattle.wit_model.specs.Lookup.{package_at, world_at, interface_at}
use Rattle.print_output.specs.OutputCall.{OutputCall}
use Rattle.print_grammar.specs.{Tree.ItemTree, Tree.WorldMember, WellNamed.is_well_gates}
use Rattle.print_grammar.specs.{Tree.WorldMember.WorldType, Tree.WorldMember.WorldUse, Tree.MemberTree.TypeMember, Tree.MemberTree.UseMember}
use Rattle.print_grammar.specs.Calls.{members_calls, printed_after, world_members_calls, package_item_calls, more_nested_calls, nested_calls, package_calls, line_after_calls}
use Rattle.print_uses.specs.UseGroups.{declared_members, use_members}
use Rattle.print_uses.specs.Printable.{imports_interfaces, printed_imports, is_printable_interface, is_printable_world, IsPrintableWorld, entry_calls, interface_entry_calls, world_body_calls, world_calls, is_printable_listed, listed_calls, listed_interface_calls, listed_package_calls, next_package_calls}
use Rattle.print_uses.proofs.Declarations.{after_printed, members_append, printed_append}
use Rattle.print_items.specs.Shown.{DeclaredWith, WorldEntry, Used, listed_imports, shown_declarations, shown_path, shown_uses, is_interface_item, is_freestanding_item, imported_functions, shown_import, shown_export, shown_interface, shown_world, shown_world_in, shown_world_item, shown_interface_item, shown_docs, shown_gates, shown_package, shown_package_of}
use Rattle.base_lemmas.proofs.Bools.{left_of as first_true, right_of as second_true}
use Rattle.wit_model.specs.declared.model.TypeOwner.TheVariants as owner

-- ---- the calls for what a world without types has

-- whether a block has printed something after these, too
abbrev shown_after : Bool → List WorldEntry → Bool
shown_after printed [] = printed
shown_after printed (x ∷ xs) = true

after_true : (xs : List WorldEntry) → shown_after true xs ≡ true
after_true x = search std_rules

module _ (emits : Bool) (r : Resolve) (here : PackageId) where
  entries_calls : (printed : Bool) (xs : List WorldEntry) (rest : List WorldMember)
      → world_members_calls emits printed false (map (shown_import r here) xs ++ rest) ≡ flat_map (entry_calls emits r here (codes "import")) xs ++ world_members_calls emits
      (shown_after printed xs) false rest
  entries_calls printed [] rest = refl
  entries_calls printed (x ∷ xs) rest = search (std_rules, after_true, append_assoc, entries_calls true xs rest)

  more_exports : (ys : List WorldEntry) → world_members_calls emits true true (map (shown_export r here) ys) ≡ flat_map (entry_calls emits r here (codes "export")) ys
  more_exports [] = refl
  more_exports (y ∷ ys) = ap (λ calls. entry_calls emits r here (codes "export") y ++ calls) (more_exports ys)

  exports_after : (printed : Bool) (ys : List WorldEntry)
      → world_members_calls emits printed false (map (shown_export r here) ys) ≡ line_after_calls (printed && has_items ys) ++ flat_map (entry_calls emits r here (codes "export")) ys
  exports_after x z = search (std_rules, more_exports)

  -- those that pass a test make the runs of all, where the others make none
  kept_runs : (run : WorldEntry → List OutputCall) (test : WorldEntry → Bool) (xs : List WorldEntry) → flat_map run (filter test xs) ≡ flat_map (λ e. if test e then run e else []) xs
  kept_runs run test [] = refl
  kept_runs run test (x ∷ xs) = search (std_rules, kept_runs run test xs)

  shown_after_is : (printed : Bool) (xs : List WorldEntry) → shown_after printed xs ≡ (printed || has_items xs)
  shown_after_is printed x = search std_rules

  -- uses and declared types of a world are those of an interface
  world_uses : (printed : Bool) (us : List Used) (rest : List WorldMember)
      → world_members_calls emits printed false (map (λ used. WorldUse used.prefix (shown_path r here used.interface) used.names) us ++ rest)
      ≡ members_calls emits printed (map (λ used. UseMember used.prefix (shown_path r here used.interface) used.names) us) ++ world_members_calls emits
      (printed_after printed (map (λ used. UseMember used.prefix (shown_path r here used.interface) used.names) us)) false rest
  world_uses printed [] rest = refl
  world_uses printed (u ∷ us) rest = search (std_rules, after_printed, append_assoc, world_uses true us rest)

  world_declared : (printed : Bool) (ds : List DeclaredWith) (rest : List WorldMember)
      → world_members_calls emits printed false (map (λ d. WorldType d.prefix d.declared) ds ++ rest)
      ≡ members_calls emits printed (map (λ d. TypeMember d.prefix d.declared) ds) ++ world_members_calls emits (printed_after printed (map (λ d. TypeMember d.prefix d.declared) ds)) false rest
  world_declared printed [] rest = refl
  world_declared printed (d ∷ ds) rest = search (std_rules, after_printed, append_assoc, world_declared true ds rest)

five : (a b c d e : List WorldMember) → (((a ++ b) ++ c) ++ d) ++ e ≡ a ++ (b ++ (c ++ (d ++ e)))
five a b c d e = append_assoc ((a ++ b) ++ c) d e ∙ append_assoc (a ++ b) c (d ++ e) ∙ append_assoc a b (c ++ (d ++ e))

-- the calls for what a world of this package has
members_shown : (emits : Bool) (r : Resolve) (id : WorldId) (w : World) (here : PackageId) → world_members_calls emits false false (shown_world_in r id w here) ≡ world_body_calls emits r here id w
members_shown emits r id w here =
    let run = entry_calls emits r here (codes "import") in
    let xs = w.imports.entries in
    let interfaces = filter (λ (e : WorldEntry). is_interface_item e.1) xs in
    let functions = filter (λ (e : WorldEntry). is_freestanding_item e.1) xs in
    let us = shown_uses r (owner.World id) (listed_imports w) in
    let ds = shown_declarations r (owner.World id) (imported_functions w) (listed_imports w) in
    let uses = use_members r here (owner.World id) (listed_imports w) in
    let declared = declared_members r (owner.World id) (imported_functions w) (listed_imports w) in
    let ends = map (shown_export r here) w.exports.entries in
    let calls = map (shown_import r here) functions in
    let p = imports_interfaces xs in
    let tail = line_after_calls (printed_imports r here id w && has_items w.exports.entries) ++ flat_map (entry_calls emits r here (codes "export")) w.exports.entries in
    let types = members_calls emits p (uses ++ declared) in
    ap (world_members_calls emits false false) (five (map (shown_import r here) interfaces) (map (λ used. WorldUse used.prefix (shown_path r here used.interface) used.names) us)
    (map (λ d. WorldType d.prefix d.declared) ds) calls ends) ∙ entries_calls emits r here false interfaces _
    ∙ ap (λ b. flat_map run interfaces ++ world_members_calls emits b false
    (map (λ used. WorldUse used.prefix (shown_path r here used.interface) used.names) us ++ (map (λ d. WorldType d.prefix d.declared) ds ++ (calls ++ ends))))
    (shown_after_is emits r here false interfaces) ∙ ap (λ x. flat_map run interfaces ++ x)
    (world_uses emits r here p us (map (λ d. WorldType d.prefix d.declared) ds ++ (calls ++ ends))
    ∙ ap (λ x. members_calls emits p uses ++ x) (world_declared emits r here (printed_after p uses) ds (calls ++ ends)
    ∙ ap (λ x. members_calls emits (printed_after p uses) declared ++ x) (entries_calls emits r here (printed_after (printed_after p uses) declared) functions ends
    ∙ ap (λ x. flat_map run functions ++ x) (ap (λ b. world_members_calls emits b false ends)
    (shown_after_is emits r here (printed_after (printed_after p uses) declared) functions ∙ ap (λ b. b || has_items functions) (sym (printed_append p uses declared)))
    ∙ exports_after emits r here (printed_imports r here id w) w.exports.entries)))
    ∙ sym (append_assoc (members_calls emits p uses) (members_calls emits (printed_after p uses) declared) (flat_map run functions ++ tail))
    ∙ ap (λ x. x ++ (flat_map run functions ++ tail)) (sym (members_append emits p uses declared)) ∙ sym (append_assoc types (flat_map run functions) tail))
    ∙ sym (append_assoc (flat_map run interfaces) (types ++ flat_map run functions) tail)
    ∙ ap (λ x. (x ++ (types ++ flat_map run functions)) ++ tail) (kept_runs emits r here run (λ e. is_interface_item e.1) xs)
    ∙ ap (λ x. (flat_map (interface_entry_calls emits r here) xs ++ (types ++ x)) ++ tail) (kept_runs emits r here run (λ e. is_freestanding_item e.1) xs)

in_package : (n : PackageId) (o : Option PackageId) → is_id n.0 (package_number o) ≡ true → o ≡ Some n
in_package n x h = search std_rules

pub printable_world : (r : Resolve) (here : PackageId) (id : WorldId) (w : World) → is_printable_world r here id w ≡ true → IsPrintableWorld r here id w
printable_world r here id w h = search std_rules

-- the calls for a world
pub shown_calls : (emits : Bool) (r : Resolve) (here : PackageId) (name : Text) (id : WorldId) (w : World) → IsPrintableWorld r here id w
    → package_item_calls emits false (ItemTree.WorldItem (shown_docs w.docs) (shown_gates w.stability) name (shown_world r id w)) ≡ world_calls emits r here name id w
shown_calls emits r here name id w h = search (std_rules, members_shown, append_assoc)

-- the calls for a world of a package, where it stands in its list
pub calls_listed : (emits : Bool) (r : Resolve) (here : PackageId) (entry : String Global × WorldId) (w : World) → world_at r entry.1.0 ≡ Some w → IsPrintableWorld r here entry.1 w
    → world_calls emits r here (text_of entry.0) entry.1 w ≡ listed_calls emits r entry
calls_listed emits r here entry w e h = rw e (sym (shown_calls emits r here (text_of entry.0) entry.1 w h))

-- ---- packages

given_calls : (emits main : Bool) (o : Option World) (show : World → ItemTree) (same : (w : World) → package_item_calls emits main (show w) ≡ package_item_calls emits false (show w))
    (items : List ItemTree) (rest : List OutputCall) → flat_map (package_item_calls emits main) items ≡ rest
    → flat_map (package_item_calls emits main) (cons_option (option_map show o) items) ≡ option_map_or (package_item_calls emits false) (option_map show o) [] ++ rest
given_calls emits main x show same items rest e = search std_rules

worlds_shown : (emits main : Bool) (r : Resolve) (entries : List (String Global × WorldId))
    → flat_map (package_item_calls emits main) (filter_map (shown_world_item r) entries) ≡ flat_map (listed_calls emits r) entries
worlds_shown emits main r [] = refl
worlds_shown emits main r (x ∷ xs) = given_calls emits main (world_at r x.1.0) _ (λ w. refl) (filter_map (shown_world_item r) xs) _ (worlds_shown emits main r xs)

given_items : (emits main : Bool) (o : Option ItemTree) (items : List ItemTree) (rest : List OutputCall)
    → flat_map (package_item_calls emits main) items ≡ rest → flat_map (package_item_calls emits main) (cons_option o items) ≡ option_map_or (package_item_calls emits main) o [] ++ rest
given_items emits main x items rest e = search std_rules

interfaces_shown : (emits main : Bool) (r : Resolve) (entries : List (String Global × InterfaceId))
    → flat_map (package_item_calls emits main) (filter_map (shown_interface_item r) entries) ≡ flat_map (listed_interface_calls emits main r) entries
interfaces_shown emits main r [] = refl
interfaces_shown emits main r (x ∷ xs) = given_items emits main (shown_interface_item r x) (filter_map (shown_interface_item r) xs) _ (interfaces_shown emits main r xs)

-- the calls for what a package has
items_shown : (emits main : Bool) (r : Resolve) (interfaces : List (String Global × InterfaceId)) (worlds : List (String Global × WorldId))
    → flat_map (package_item_calls emits main) (filter_map (shown_interface_item r) interfaces ++ filter_map (shown_world_item r) worlds) ≡ flat_map (listed_interface_calls emits main r) interfaces
    ++ flat_map (listed_calls emits r) worlds
items_shown emits main r interfaces worlds = search (std_rules, flat_map-append, interfaces_shown, worlds_shown)

-- a world of a list that can be printed is there
pub listed_world : (r : Resolve) (here : PackageId) (entry : String Global × WorldId) → is_printable_listed r here entry ≡ true → (w : World) × (world_at r entry.1.0 ≡ Some w)
    × IsPrintableWorld r here entry.1 w
listed_world r here entry h = go (world_at r entry.1.0) refl (second_true (is_label (text_of entry.0)) _ h)
  where
    go : (o : Option World) → world_at r entry.1.0 ≡ o → option_map_or (is_printable_world r here entry.1) o false ≡ true → (w : World) × (world_at r entry.1.0 ≡ Some w)
        × IsPrintableWorld r here entry.1 w
    go None e k = absurd cc
    go (Some w) e k = (w, e, printable_world r here entry.1 w k)

-- what is read at a number is what stands there
read_is : {X : Type 0} (xs : List X) (n : ℕ) (d x : X) → slice_get xs n ≡ Some x → get_or xs n d ≡ x
read_is [] n d x e = absurd cc
read_is (y ∷ ys) zero d x e = cc
read_is (y ∷ ys) (suc n) d x e = read_is ys n d x e

-- the world that was read is that of the entry, and can be printed
pub listed_at : (r : Resolve) (here : PackageId) (entry : String Global × WorldId) (w : World) → w ≡ get_or r.worlds.items entry.1.0 w → is_printable_listed r here entry ≡ true
    → (world_at r entry.1.0 ≡ Some w) × IsPrintableWorld r here entry.1 w
listed_at r here entry w e h = search (std_rules, listed_world, read_is)

pub calls_at : (emits : Bool) (r : Resolve) (here : PackageId) (entry : String Global × WorldId) (w : World) (name : Text) → name ≡ text_of entry.0 → w ≡ get_or r.worlds.items entry.1.0 w
    → is_printable_listed r here entry ≡ true → world_calls emits r here name entry.1 w ≡ listed_calls emits r entry
calls_at emits r here entry w name n e h = search (std_rules, listed_at, calls_listed)

-- the gates and the name of an interface that can be printed
pub listed_interface_well : (r : Resolve) (entry : String Global × InterfaceId) (i : Interface) → interface_at r entry.1.0 ≡ Some i → is_printable_interface r entry ≡ true
    → (is_well_gates (shown_gates i.stability) && is_label (text_of entry.0)) ≡ true
listed_interface_well r entry i e h = search (std_rules, second_true, first_true)

-- the calls for an interface of a package
pub interface_calls_at : (emits main : Bool) (r : Resolve) (entry : String Global × InterfaceId) (i : Interface) (name : Text) → name ≡ text_of entry.0 → interface_at r entry.1.0 ≡ Some i
    → package_item_calls emits main (ItemTree.InterfaceItem (shown_docs i.docs) (shown_gates i.stability) name (shown_interface r entry.1 i)) ≡ listed_interface_calls emits main r entry
interface_calls_at emits main r entry i name n e = rw (n, e) refl

-- the calls for a package
package_shown : (emits main : Bool) (r : Resolve) (p : Package) → listed_package_calls emits main r p ≡ package_calls emits main (shown_package_of r p)
package_shown emits main r p = search (std_rules, append_assoc, items_shown)

pub package_shown_at : (emits main : Bool) (r : Resolve) (id : PackageId) (p : Package) → package_at r id.0 ≡ Some p
    → listed_package_calls emits main r p ≡ package_calls emits main (shown_package r id)
package_shown_at emits main r id p e = rw e (package_shown emits main r p)

-- nested packages, each after two line ends
more_nested : (emits : Bool) (r : Resolve) (ids : List PackageId) → flat_map (next_package_calls emits r) ids ≡ more_nested_calls emits (map (shown_package r) ids)
more_nested emits r [] = refl
more_nested emits r (id ∷ ids) = ap (λ calls. next_package_calls emits r id ++ calls) (more_nested emits r ids)

-- the first nested package and the others
pub nested_shown : (emits : Bool) (r : Resolve) (id : PackageId) (ids : List PackageId)
    → package_calls emits false (shown_package r id) ++ flat_map (next_package_calls emits r) ids ≡ nested_calls emits (map (shown_package r) (id ∷ ids))
nested_shown emits r id ids = ap (λ calls. package_calls emits false (shown_package r id) ++ calls) (more_nested emits r ids)

pub no_nested : (emits : Bool) (r : Resolve) (ids : List PackageId) → length ids ≡ 0 → nested_calls emits (map (shown_package r) ids) ≡ []
no_nested emits r [] e = refl
no_nested emits r (id ∷ ids) e = absurd cc
