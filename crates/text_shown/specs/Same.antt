-- When the members of two interfaces declare the same: order, grouping of uses and ways of writing aside (WIT.md, "Item: interface", "Item: use").
use Rattle.std.specs.Prelude.{◌≡◌, ◌&&◌, Bool, true, false, List, [], ◌∷◌, ◌++◌, map, Option, Some, None, filter, if◌then◌else◌}
use Rattle.std.specs.{List.flat_map, Option.option_eq, Option.option_map_or}
use Rattle.wit_model.specs.Text.{Text, text_eq}
use Rattle.print_grammar.specs.Tree.{PackageHead, PathTree, PathTree.Local, PathTree.Full, UsedName}
use Rattle.print_grammar.specs.Tree.{MemberTree, MemberTree.UseMember, MemberTree.TypeMember, MemberTree.FunctionMember}
use Rattle.text_types.specs.Plain.{plain_declared, plain_signature}

-- ---- lists whose order isn't compared

-- Each entry of the one list is the same as one of the other, and none is left over.
pub data Matched {X : Type 0} (Same : X → X → Type 0) : List X → List X → Type 0 where
  no_more : Matched Same [] []
  one_more : {x y : X} {xs : List X} (before behind : List X) → Same x y → Matched Same xs (before ++ behind)
      → Matched Same (x ∷ xs) (before ++ y ∷ behind)

-- The same entries, each as often.
abbrev pub Shuffled : {X : Type 0} → List X → List X → Type 0
Shuffled xs ys = Matched (λ x y. x ≡ y) xs ys

-- ---- paths and uses, from a package

-- whether a path's package is this one
abbrev pub is_of : PackageHead → Text → Text → Option Text → Bool
is_of here namespace name version = text_eq namespace here.namespace && (text_eq name here.name && option_eq text_eq version here.version)

-- a path from a package: the name alone within the package
abbrev pub plain_path : PackageHead → PathTree → PathTree
plain_path here (Local interface) = Local interface
plain_path here (Full namespace name interface version) =
    if is_of here namespace name version then Local interface else Full namespace name interface version

-- a used name, and what it is called here, if that is another name
abbrev pub plain_used : UsedName → UsedName
plain_used used = record { other = used.other; own = option_map_or (λ own. if text_eq own used.other then None else Some own) used.own None }

-- ---- members

-- the members that a member is: each name of a use is one by itself
abbrev pub plain_members : PackageHead → MemberTree → List MemberTree
plain_members here (UseMember prefix path names) =
    map (λ used. UseMember (record prefix { docs = [] }) (plain_path here path) (plain_used used ∷ [])) names
plain_members here (TypeMember prefix declared) = TypeMember prefix (plain_declared declared) ∷ []
plain_members here (FunctionMember prefix name signature) = FunctionMember prefix name (plain_signature signature) ∷ []

-- whether a member is a function
abbrev pub is_function_member : MemberTree → Bool
is_function_member (UseMember prefix path names) = false
is_function_member (TypeMember prefix declared) = false
is_function_member (FunctionMember prefix name signature) = true

-- whether a member is a use or a type
abbrev pub is_type_member : MemberTree → Bool
is_type_member (UseMember prefix path names) = true
is_type_member (TypeMember prefix declared) = true
is_type_member (FunctionMember prefix name signature) = false

-- Two interfaces have the same: functions in their order, uses and types in any.
pub record SameMembers (here : PackageHead) (xs ys : List MemberTree) : Type 0 where
  pub functions : filter is_function_member (flat_map (plain_members here) xs) ≡ filter is_function_member (flat_map (plain_members here) ys)
  pub types : Shuffled (filter is_type_member (flat_map (plain_members here) xs)) (filter is_type_member (flat_map (plain_members here) ys))
