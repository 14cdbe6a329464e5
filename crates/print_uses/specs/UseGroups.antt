-- The calls for uses, one after the other: a use joins the group of the use before it, or begins the next group.
use Rattle.std.specs.Prelude.{Bool, false, List, [], ◌∷◌, ◌++◌, ◌&&◌, codes, map, Option, Some, None, option_and_then, if◌then◌else◌}
use Rattle.std.specs.{List.flat_map, Option.option_map_or, Borrow.Bor}
use Rattle.wit_model.specs.declared.model.{Resolve.Resolve, InterfaceId.InterfaceId, PackageId.PackageId, TypeOwner.TypeOwner, Function.Function, TypeId.TypeId}
use Rattle.wit_model.specs.declared.model.TypeDef.{TypeDef}
use Rattle.wit_model.specs.{Lookup.type_at, Names.is_label, Text.Text, Parts.same_owner}
use Rattle.wit_model.specs.Rules.{function_in_range, function_labels, in_list, is_member, is_named_of, is_stability}
use Rattle.print_output.specs.{OutputCall.OutputCall, OutputCall.OutputCall.Keyword, OutputCall.OutputCall.Semicolon, OutputCall.OutputCall.Str}
use Rattle.print_grammar.specs.{Tree.MemberTree, Tree.PathTree, Tree.Prefix, Tree.UsedName, Tree.MemberTree.TypeMember, Tree.MemberTree.UseMember}
use Rattle.print_grammar.specs.Calls.{external_id_calls, gates_calls, path_calls, separated, space, used_name_calls}
use Rattle.print_grammar.specs.WellNamed.{is_well_gates, is_well_path}
use Rattle.print_items.specs.Shown.{DeclaredWith, Listed, Used, declared_with, own_name, present_name, same_group, shown_declarations, shown_external_id, shown_gates, shown_path, shown_uses, used_of}
use Rattle.print_uses.specs.declared.use_group.Use.{Use}
use Rattle.wit_model.specs.declared.model.TypeOwner.TheVariants as owner

-- a use, as it is shown
abbrev pub shown_use : Use → Used
shown_use used = record {
  interface = used.interface;
  prefix = record { docs = []; gates = shown_gates used.def.now.stability; external_id = shown_external_id used.def.now.external_id };
  names = record { other = used.other.now; own = own_name used.own.now used.other.now } ∷ [];
}

-- The use that an alias of a type is: its target is another interface's.
abbrev pub use_from : TypeOwner → Text → TypeDef → TypeDef → Option Used
use_from here own def target = by_owner target.owner
  where
    by_owner : TypeOwner → Option Used
    by_owner (owner.Interface id) =
        if same_owner here (owner.Interface id)
        then None
        else Some (record {
          interface = id;
          prefix = record { docs = []; gates = shown_gates def.stability; external_id = shown_external_id def.external_id };
          names = record { other = present_name target.name; own = own_name own (present_name target.name) } ∷ [];
        })
    by_owner of = None

-- ---- calls

-- what stands before the names of a group
abbrev pub group_start_calls : Prefix → PathTree → List OutputCall
group_start_calls prefix path =
    gates_calls prefix.gates ++ (external_id_calls prefix.external_id ++ (Keyword (codes "use") ∷ space ∷ (path_calls path ++ (Str (codes ".{") ∷ []))))

-- what stands behind them
abbrev pub group_end_calls : List OutputCall
group_end_calls = Str (codes "}") ∷ Semicolon ∷ []

-- names behind others
abbrev pub more_names_calls : List UsedName → List OutputCall
more_names_calls names = flat_map (λ name. Str (codes ", ") ∷ used_name_calls name) names

-- names, the first of their group
abbrev pub names_calls : List UsedName → List OutputCall
names_calls names = separated (Str (codes ", ")) (map used_name_calls names)

-- a use that begins a group
abbrev pub new_group_calls : (InterfaceId → PathTree) → Used → List OutputCall
new_group_calls path used = group_start_calls used.prefix (path used.interface) ++ names_calls used.names

-- whether a use stands in the group of the use before it
abbrev pub joins : Option Used → Used → Bool
joins before used = option_map_or (λ other. same_group other used) before false

-- the end of the group that is open
abbrev pub open_end_calls : Option Used → List OutputCall
open_end_calls before = option_map_or (λ other. group_end_calls) before []

-- a use behind the use before it, or the first
abbrev pub use_run_calls : (InterfaceId → PathTree) → Option Used → Used → List OutputCall
use_run_calls path before used = if joins before used then more_names_calls used.names else open_end_calls before ++ new_group_calls path used

-- uses behind the use before them, and the end of the last group
abbrev pub uses_calls : (InterfaceId → PathTree) → Option Used → List Used → List OutputCall
uses_calls path before [] = open_end_calls before
uses_calls path before (used ∷ uses) = use_run_calls path before used ++ uses_calls path (Some used) uses

-- ---- what the types of an owner are

-- types under their names
abbrev pub listed_of : List (Bor Text × TypeId) → List Listed
listed_of types = map (λ t. record { name = t.0.now; id = t.1 }) types

-- one type under its name, as its owner lists it
abbrev pub as_listed : Bor Text × TypeId → Listed
as_listed t = record { name = t.0.now; id = t.1 }

-- the use that a listed type is, if it is one
abbrev pub listed_use : Resolve → TypeOwner → Listed → Option Used
listed_use r here listed = option_and_then (used_of r here listed.name) (type_at r listed.id.0)

-- the use before the next type
abbrev pub use_after : Option Used → Option Used → Option Used
use_after before None = before
use_after before (Some used) = Some used

-- the calls for a listed type among uses
abbrev pub listed_use_calls : (InterfaceId → PathTree) → Option Used → Option Used → List OutputCall
listed_use_calls path before None = []
listed_use_calls path before (Some used) = use_run_calls path before used

-- the declaration that a listed type is, if it is no use
abbrev pub listed_declaration : Resolve → TypeOwner → List Function → Listed → List MemberTree
listed_declaration r here functions listed =
    option_map_or (λ (d : DeclaredWith). TypeMember d.prefix d.declared ∷ [])
    (option_and_then (declared_with r here functions listed) (type_at r listed.id.0)) []

-- uses and then declared types of an owner in the package `here`, with the functions among which a resource's stand
abbrev pub use_members : Resolve → PackageId → TypeOwner → List Listed → List MemberTree
use_members r here o types = map (λ used. UseMember used.prefix (shown_path r here used.interface) used.names) (shown_uses r o types)

-- the uses among types of an owner that are handed in under their names
abbrev pub uses_of : Resolve → PackageId → TypeOwner → List (Bor Text × TypeId) → List MemberTree
uses_of r here o types = use_members r here o (listed_of types)

abbrev pub declared_members : Resolve → TypeOwner → List Function → List Listed → List MemberTree
declared_members r o functions types = map (λ d. TypeMember d.prefix d.declared) (shown_declarations r o functions types)

abbrev pub type_members : Resolve → PackageId → TypeOwner → List Function → List Listed → List MemberTree
type_members r here o functions types = use_members r here o types ++ declared_members r o functions types

-- ---- conditions

-- a named type of an owner, under a label
abbrev pub is_listed_type : Resolve → TypeOwner → Listed → Bool
is_listed_type r o listed = in_list r.types.items listed.id.0 && (is_label listed.name && is_named_of r o listed.id.0)

-- a function in range, under labels, that belongs to a resource of the owner or to none
abbrev pub is_listed_function : Resolve → TypeOwner → Function → Bool
is_listed_function r o f = function_in_range r f && (function_labels f && is_member r o f)

-- a use from the package `here` whose gates, path and names can be printed
abbrev pub is_printable_use : Resolve → PackageId → Use → Bool
is_printable_use r here used =
    (is_stability used.def.now.stability && is_well_gates (shown_gates used.def.now.stability))
    && ((in_list r.interfaces.items used.interface.0 && is_well_path (shown_path r here used.interface)) && (is_label used.own.now && is_label used.other.now))
