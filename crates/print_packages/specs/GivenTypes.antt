-- Types that are handed in, with functions by the resources that they stand under.
use Rattle.std.specs.Prelude.{Bool, List, [], ◌++◌, ◌==◌, Vec, map, unwrap_or}
use Rattle.std.specs.{List.flat_map, List.list_all, Option.option_map_or, Borrow.Bor, HashMap.HashMap, Map.lookup}
use Rattle.std.specs.declared.alloc.Global.{Global}
use Rattle.wit_model.specs.declared.model.{Resolve.Resolve, PackageId.PackageId, TypeOwner.TypeOwner, Function.Function, TypeId.TypeId}
use Rattle.wit_model.specs.Text.{Text}
use Rattle.print_output.specs.OutputCall.{OutputCall}
use Rattle.print_grammar.specs.{Calls.members_calls, Tree.MemberTree}
use Rattle.print_items.specs.Shown.{Listed, owner_package}
use Rattle.print_uses.specs.UseGroups.{is_listed_function, listed_declaration, listed_of, use_members}

-- functions by the resources that they stand under
abbrev pub Functions : Type 0
Functions = List (TypeId × Vec (Bor Function) Global)

-- a map of them, however it hashes
abbrev pub FunctionMap : Type 0 → Type 0
FunctionMap S = HashMap TypeId (Vec (Bor Function) Global) S

-- functions behind references
abbrev pub behind : Vec (Bor Function) Global → List Function
behind fs = map (λ f. f.now) fs.items

-- the functions that stand under a type number
abbrev pub functions_under : Functions → TypeId → List Function
functions_under entries id = option_map_or behind (lookup (λ k. id.0 == k.0) entries) []

-- each type that is no use, with the functions under it
abbrev pub given_declarations : Resolve → TypeOwner → Functions → List Listed → List MemberTree
given_declarations r o entries types = flat_map (λ listed. listed_declaration r o (functions_under entries listed.id) listed) types

-- the package of an owner, or the number that no package has
abbrev pub package_of_owner : Resolve → TypeOwner → PackageId
package_of_owner r o = unwrap_or (owner_package r o) (record { 0 = 4294967295 })

-- uses and then declared types
abbrev pub given_members : Resolve → TypeOwner → Functions → List Listed → List MemberTree
given_members r o entries types = use_members r (package_of_owner r o) o types ++ given_declarations r o entries types

-- uses and then declared types, with functions in a map
abbrev pub given_with : {S : Type 0} → Resolve → TypeOwner → FunctionMap S → List Listed → List MemberTree
given_with r o functions = given_members r o functions.entries

-- the calls for these members, of types that are handed in under their names, in a block that has printed something before or nothing
abbrev pub given_calls : {S : Type 0} → Bool → Bool → Resolve → TypeOwner → FunctionMap S → List (Bor Text × TypeId) → List OutputCall
given_calls emits_docs has_printed r o functions types = members_calls emits_docs has_printed (given_with r o functions (listed_of types))

-- functions of resources of the owner
abbrev pub are_functions_of : Resolve → TypeOwner → Functions → Bool
are_functions_of r o entries = list_all (λ entry. list_all (is_listed_function r o) (behind entry.1)) entries
