-- Without documentation, the calls of a tree are those of the tree that has none.
use Rattle.std.proofs.Common.{rules as std_rules, ◌≡◌, refl, sym, ap, ◌∙◌, Bool, true, false, List, [], ◌∷◌, ◌++◌, map, flat_map, Option}
use Rattle.std.specs.Prelude.{option_map}
use Rattle.print_grammar.specs.Tree.{TypeTree, ParamTree, CaseTree, SignatureTree, ResourceMember, Declared, MemberTree, ExternTree, WorldMember, ItemTree, PackageTree, FileTree}
use Rattle.print_grammar.specs.Tree.MemberTree.{UseMember, TypeMember, FunctionMember}
use Rattle.print_grammar.specs.Tree.WorldMember.{WorldUse, WorldType, WorldImport, WorldExport}
use Rattle.print_grammar.specs.AsRead.{bare_param, bare_case, bare_signature, bare_resource_member, bare_declared, bare_member, bare_extern, bare_world_member, bare_item, bare_package, bare_file}
use Rattle.print_grammar.specs.Calls.{item_calls, prefix_calls, case_calls, resource_member_calls, declared_calls, use_calls, members_calls, extern_calls, world_members_calls, package_item_calls, package_calls, more_nested_calls, nested_calls, file_calls}
use Rattle.print_output.specs.OutputCall.OutputCall.{Newline}

abbrev same : TypeTree → TypeTree
same ty = ty

flat_alike : {X Y Z : Type 0} (f : Y → List Z) (g : X → List Z) (h : X → Y) → ((x : X) → f (h x) ≡ g x) → (xs : List X) → flat_map f (map h xs) ≡ flat_map g xs
flat_alike f g h each [] = refl
flat_alike f g h each (x ∷ xs) = λ i. each x i ++ flat_alike f g h each xs i

params_alike : (ps : List ParamTree) → map (bare_param same) ps ≡ ps
params_alike [] = refl
params_alike (p ∷ ps) = ap (λ qs. p ∷ qs) (params_alike ps)

optional_alike : (o : Option TypeTree) → option_map same o ≡ o
optional_alike x = search std_rules

signature_alike : (s : SignatureTree) → bare_signature same s ≡ s
signature_alike s = λ i. record { is_async = s.is_async; params = params_alike s.params i; result = optional_alike s.result i }

-- ---- declared types

case_alike : (c : CaseTree) → case_calls false (bare_case same c) ≡ case_calls false c
case_alike c = λ i. case_calls false (record { docs = []; name = c.name; payload = optional_alike c.payload i })

resource_member_alike : (m : ResourceMember) → resource_member_calls false (bare_resource_member same m) ≡ resource_member_calls false m
resource_member_alike x = search (std_rules, params_alike, optional_alike, signature_alike)

declared_alike : (d : Declared) → declared_calls false (bare_declared same d) ≡ declared_calls false d
declared_alike x = search (std_rules, flat_alike, case_alike, resource_member_alike)

-- ---- interfaces, worlds and packages

members_alike : (printed : Bool) (ms : List MemberTree) → members_calls false printed (map (bare_member same) ms) ≡ members_calls false printed ms
members_alike printed [] = refl
members_alike printed (UseMember prefix path names ∷ ms) = λ i. use_calls false prefix path names ++ members_alike true ms i
members_alike printed (TypeMember prefix declared ∷ ms) = λ i. item_calls printed (prefix_calls false prefix ++ declared_alike declared i) ++ members_alike true ms i
members_alike printed (FunctionMember prefix name signature ∷ ms) = search (std_rules, signature_alike, members_alike true ms)

extern_alike : (e : ExternTree) → extern_calls false (bare_extern same e) ≡ extern_calls false e
extern_alike x = search (std_rules, signature_alike, members_alike)

world_members_alike : (printed exported : Bool) (ms : List WorldMember) → world_members_calls false printed exported (map (bare_world_member same) ms) ≡ world_members_calls false printed exported ms
world_members_alike printed exported [] = refl
world_members_alike printed exported (WorldUse prefix path names ∷ ms) = λ i. use_calls false prefix path names ++ world_members_alike true exported ms i
world_members_alike printed exported (WorldType prefix declared ∷ ms) = λ i. item_calls printed (prefix_calls false prefix ++ declared_alike declared i) ++ world_members_alike true exported ms i
world_members_alike printed exported (WorldImport prefix extern_ ∷ ms) = search (std_rules, extern_alike, world_members_alike true exported ms)
world_members_alike printed exported (WorldExport prefix extern_ ∷ ms) = search (std_rules, extern_alike, world_members_alike true true ms)

item_alike : (is_main : Bool) (item : ItemTree) → package_item_calls false is_main (bare_item same item) ≡ package_item_calls false is_main item
item_alike is_main x = search (std_rules, members_alike, world_members_alike)

package_alike : (is_main : Bool) (tree : PackageTree) → package_calls false is_main (bare_package same tree) ≡ package_calls false is_main tree
package_alike is_main tree = search (std_rules, flat_alike, item_alike)

more_nested_alike : (trees : List PackageTree) → more_nested_calls false (map (bare_package same) trees) ≡ more_nested_calls false trees
more_nested_alike [] = refl
more_nested_alike (tree ∷ trees) = λ i. Newline ∷ Newline ∷ (package_alike false tree i ++ more_nested_alike trees i)

nested_alike : (trees : List PackageTree) → nested_calls false (map (bare_package same) trees) ≡ nested_calls false trees
nested_alike [] = refl
nested_alike (tree ∷ trees) = λ i. package_alike false tree i ++ more_nested_alike trees i

bare_alike : (file : FileTree) → file_calls false (bare_file same file) ≡ file_calls false file
bare_alike file = λ i. package_alike true file.main i ++ nested_alike file.nested i

-- Trees that differ in documentation alone make the same calls without it.
pub undocumented_calls : (a b : FileTree) → bare_file same a ≡ bare_file same b → file_calls false a ≡ file_calls false b
undocumented_calls a b alike = sym (bare_alike a) ∙ (ap (file_calls false) alike ∙ bare_alike b)
