-- What a package has to be to be printed: its names are labels and its versions versions.
use Rattle.std.specs.Prelude.{◌≡◌, ◌++◌, ◌∷◌, [], List, codes, Bool, true, false, ◌&&◌, ◌||◌, not, Some, String, map, filter, if◌then◌else◌}
use Rattle.std.specs.{List.list_all, List.flat_map, Option.option_map_or}
use Rattle.std.specs.declared.alloc.Global.{Global}
use Rattle.wit_model.specs.declared.model.{Resolve.Resolve, Package.Package, WorldId.WorldId, TypeId.TypeId}
use Rattle.wit_model.specs.declared.model.{PackageId.PackageId, InterfaceId.InterfaceId, World.World, WorldKey.WorldKey, WorldItem.WorldItem, Function.Function}
use Rattle.wit_model.specs.{Text.Text, Text.text_of, Names.is_label, Lookup.type_at, Lookup.world_at}
use Rattle.wit_model.specs.Rules.{in_list, is_export_item, is_freestanding, has_items, is_id, item_in_range, key_in_range, package_number, passes}
use Rattle.print_output.specs.declared.type_kind.TypeKind.TheVariants.{WorldDeclaration}
use Rattle.print_output.specs.OutputCall.{OutputCall}
use Rattle.print_output.specs.OutputCall.OutputCall.{IndentStart, IndentEnd, Keyword, Newline, Ty}
use Rattle.print_grammar.specs.{Keyword.escaped, Tree.MemberTree, Tree.MemberTree.TypeMember}
use Rattle.print_grammar.specs.WellNamed.{is_well_declared, is_well_gates, is_well_item, is_well_member, is_well_prefix, is_well_world_member}
use Rattle.print_grammar.specs.Calls.{members_calls, printed_after, space, doc_calls, gates_calls, world_extern_calls, package_item_calls, package_outer_calls, package_start_calls, package_end_calls, package_calls, line_after_calls}
use Rattle.print_items.specs.Shown.{extern_prefix, imported_functions, is_freestanding_item, is_interface_item, listed_imports, shown_docs, shown_gates, shown_head, shown_extern, shown_function, shown_import, shown_interface_item, shown_declared, shown_package, shown_prefix, shown_world_item}
use Rattle.print_uses.specs.UseGroups.{is_listed_function, is_listed_type, type_members}
use Rattle.wit_model.specs.declared.model.WorldKey.TheVariants as key
use Rattle.wit_model.specs.declared.model.WorldItem.TheVariants as item
use Rattle.wit_model.specs.declared.model.TypeOwner.TheVariants as owner

-- a type of an owner, in range, whose declaration is well named with the functions among which a resource's stand
abbrev pub is_printable_type : Resolve → List Function → TypeId → Bool
is_printable_type r functions id =
    in_list r.types.items id.0
    && option_map_or (λ def. is_well_prefix (shown_prefix def.docs def.stability def.external_id) && is_well_declared (shown_declared r functions id def))
    (type_at r id.0) false

-- the declaration of a type
abbrev pub declaration_of : Resolve → List Function → TypeId → List MemberTree
declaration_of r functions id =
    option_map_or (λ def. TypeMember (shown_prefix def.docs def.stability def.external_id) (shown_declared r functions id def) ∷ []) (type_at r id.0) []

-- an import or an export under what it may stand under, and no type
abbrev pub is_shown_item : WorldKey → WorldItem → Bool
is_shown_item k (item.Interface id gates docs external_id) = true
is_shown_item (key.Name name) (item.Function f) = is_freestanding f.kind
is_shown_item k other = false

-- one of a world of the package `here`, in range and well named
abbrev pub is_printable_entry : Resolve → PackageId → WorldKey × WorldItem → Bool
is_printable_entry r here entry = (key_in_range r entry.0 && item_in_range r entry.1)
    && (is_shown_item entry.0 entry.1 && is_well_world_member (shown_import r here entry))

-- the calls for an import or an export
abbrev pub entry_calls : Bool → Resolve → PackageId → Text → WorldKey × WorldItem → List OutputCall
entry_calls emits_docs r here word entry = world_extern_calls emits_docs (extern_prefix r entry.0 entry.1) word (shown_extern r here entry.0 entry.1)

-- the calls for an import, if it is an interface, and if it is a function that belongs to no resource
abbrev pub interface_entry_calls : Bool → Resolve → PackageId → WorldKey × WorldItem → List OutputCall
interface_entry_calls emits_docs r here entry = if is_interface_item entry.1 then entry_calls emits_docs r here (codes "import") entry else []

abbrev pub function_entry_calls : Bool → Resolve → PackageId → WorldKey × WorldItem → List OutputCall
function_entry_calls emits_docs r here entry = if is_freestanding_item entry.1 then entry_calls emits_docs r here (codes "import") entry else []

-- whether a world imports interfaces, and functions that belong to no resource
abbrev pub imports_interfaces : List (WorldKey × WorldItem) → Bool
imports_interfaces entries = has_items (filter (λ entry. is_interface_item entry.1) entries)

abbrev pub imports_functions : List (WorldKey × WorldItem) → Bool
imports_functions entries = has_items (filter (λ entry. is_freestanding_item entry.1) entries)

-- the types of a world of the package `here`
abbrev pub world_type_members : Resolve → PackageId → WorldId → World → List MemberTree
world_type_members r here id w = type_members r here (owner.World id) (imported_functions w) (listed_imports w)

-- whether a world's block has printed something after its types, and after all its imports
abbrev pub printed_types : Resolve → PackageId → WorldId → World → Bool
printed_types r here id w = printed_after (imports_interfaces w.imports.entries) (world_type_members r here id w)

abbrev pub printed_imports : Resolve → PackageId → WorldId → World → Bool
printed_imports r here id w = printed_types r here id w || imports_functions w.imports.entries

-- the calls for what a world imports: interfaces, types and functions
abbrev pub imports_calls : Bool → Resolve → PackageId → WorldId → World → List OutputCall
imports_calls emits_docs r here id w =
    flat_map (interface_entry_calls emits_docs r here) w.imports.entries
    ++ (members_calls emits_docs (imports_interfaces w.imports.entries) (world_type_members r here id w)
    ++ flat_map (function_entry_calls emits_docs r here) w.imports.entries)

-- the calls for what a world has
abbrev pub world_body_calls : Bool → Resolve → PackageId → WorldId → World → List OutputCall
world_body_calls emits_docs r here id w =
    imports_calls emits_docs r here id w
    ++ (line_after_calls (printed_imports r here id w && has_items w.exports.entries) ++ flat_map (entry_calls emits_docs r here (codes "export"))
    w.exports.entries)

-- the calls for a world's documentation, gates and name, and the start of its block
abbrev pub world_start_calls : Bool → Text → World → List OutputCall
world_start_calls emits_docs name w =
    doc_calls emits_docs (shown_docs w.docs) ++ gates_calls (shown_gates w.stability)
    ++ (Keyword (codes "world") ∷ space ∷ Ty (escaped name) WorldDeclaration ∷ IndentStart ∷ [])

-- the calls for a world under a name
abbrev pub world_calls : Bool → Resolve → PackageId → Text → WorldId → World → List OutputCall
world_calls emits_docs r here name id w = world_start_calls emits_docs name w ++ (world_body_calls emits_docs r here id w ++ (IndentEnd ∷ []))

-- an import that can be printed, if it is shown as one
abbrev pub is_printable_import : Resolve → PackageId → WorldKey × WorldItem → Bool
is_printable_import r here entry = not (is_export_item entry.1) || is_printable_entry r here entry

-- a world of the package `here`
abbrev pub is_printable_world : Resolve → PackageId → WorldId → World → Bool
is_printable_world r here id w =
    is_well_gates (shown_gates w.stability)
    && (is_id here.0 (package_number w.«package»)
    && ((list_all (is_printable_import r here) w.imports.entries && list_all (is_printable_entry r here) w.exports.entries)
    && (list_all (is_listed_type r (owner.World id)) (listed_imports w) && list_all (is_listed_function r (owner.World id)) (imported_functions w))))

-- what is known of such a world
pub record IsPrintableWorld (r : Resolve) (here : PackageId) (id : WorldId) (w : World) : Type 0 where
  pub gates : is_well_gates (shown_gates w.stability) ≡ true
  pub package_ : w.«package» ≡ Some here
  pub imports : list_all (is_printable_import r here) w.imports.entries ≡ true
  pub exports : list_all (is_printable_entry r here) w.exports.entries ≡ true
  pub types : list_all (is_listed_type r (owner.World id)) (listed_imports w) ≡ true
  pub functions : list_all (is_listed_function r (owner.World id)) (imported_functions w) ≡ true

-- a world of the package `here`, under its name there
abbrev pub is_printable_listed : Resolve → PackageId → String Global × WorldId → Bool
is_printable_listed r here entry = is_label (text_of entry.0) && option_map_or (is_printable_world r here entry.1) (world_at r entry.1.0) false

-- the calls for a world of a package, under its name
abbrev pub listed_calls : Bool → Resolve → String Global × WorldId → List OutputCall
listed_calls emits_docs r entry = option_map_or (package_item_calls emits_docs false) (shown_world_item r entry) []

-- an interface in a package's list
abbrev pub is_printable_interface : Resolve → String Global × InterfaceId → Bool
is_printable_interface r entry = in_list r.interfaces.items entry.1.0 && passes is_well_item (shown_interface_item r entry)

-- the calls for an interface of a package, under its name
abbrev pub listed_interface_calls : Bool → Bool → Resolve → String Global × InterfaceId → List OutputCall
listed_interface_calls emits_docs is_main r entry = option_map_or (package_item_calls emits_docs is_main) (shown_interface_item r entry) []

-- the calls for a package
abbrev pub listed_package_calls : Bool → Bool → Resolve → Package → List OutputCall
listed_package_calls emits_docs is_main r p =
    (package_outer_calls emits_docs (shown_head p) ++ package_start_calls is_main)
    ++ (flat_map (listed_interface_calls emits_docs is_main r) p.interfaces.entries
    ++ (flat_map (listed_calls emits_docs r) p.worlds.entries ++ package_end_calls is_main))

-- a function of an interface, if it is freestanding
abbrev pub is_printable_function : Resolve → Function → Bool
is_printable_function r f = not (is_freestanding f.kind) || is_well_member (shown_function r f)

-- the functions of an interface's list that are shown as its own
abbrev pub shown_functions : Resolve → List (String Global × Function) → List MemberTree
shown_functions r entries = map (shown_function r) (filter (λ f. is_freestanding f.kind) (map (λ entry. entry.1) entries))

-- a package after two line ends
abbrev pub next_package_calls : Bool → Resolve → PackageId → List OutputCall
next_package_calls emits_docs r id = Newline ∷ Newline ∷ package_calls emits_docs false (shown_package r id)
