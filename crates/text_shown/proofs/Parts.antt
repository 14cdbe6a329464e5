-- What is shown of an interface, taken apart. Serves Interfaces.
use Rattle.std.proofs.Common.{◌≡◌, refl, sym, ap, ◌∙◌, Bool, List, [], ◌∷◌, ◌++◌, map, filter, filter_map, flat_map, Option, Some, None}
use Rattle.std.proofs.Common.{option_and_then, String}
use Rattle.std.proofs.lemmas.{Grind.flat_map-append, List.Elements.filter-append, List.Folds.flat_map-map}
use Rattle.std.specs.{Option.option_map_or}
use Rattle.std.specs.declared.alloc.Global.{Global}
use Rattle.wit_model.specs.declared.model.{Resolve.Resolve, TypeId.TypeId, TypeOwner.TypeOwner, Interface.Interface, InterfaceId.InterfaceId, Function.Function}
use Rattle.wit_model.specs.declared.model.TypeOwner.TheVariants as owner
use Rattle.wit_model.specs.{Text.text_of, Lookup.type_at, Rules.is_freestanding}
use Rattle.print_grammar.specs.Tree.{Prefix, PathTree, UsedName, PackageHead, MemberTree, MemberTree.UseMember, MemberTree.TypeMember}
use Rattle.print_grammar.specs.Tree.{MemberTree.FunctionMember}
use Rattle.print_grammar.specs.Tree.Declared.{RecordOf, VariantOf, FlagsOf, EnumOf, AliasOf, ResourceOf}
use Rattle.print_grammar.specs.Tree.{Declared, ResourceMember}
use Rattle.print_items.specs.Shown.{DeclaredWith, Listed, Used, declared_with, listed_functions, listed_types, path_from_owner, shown_declarations}
use Rattle.print_items.specs.Shown.{shown_function, shown_interface, shown_uses, used_of}
use Rattle.text_types.specs.Made.{types_of, functions_of, functions_of_declared, FunctionTree.OfResource}
use Rattle.base_lemmas.proofs.{Lists.append_none}
use Rattle.text_shown.specs.{Same.is_function_member, Same.is_type_member, Same.plain_members, Same.plain_path, Same.plain_used}
use Rattle.text_shown.proofs.{Resources.free_member, Uses.grouped_apart, Uses.member_of_use, Uses.plain_use}

-- ---- lists of lists

-- all of what is made, or nothing of it
filter_all_made : {X Y : Type 0} (p : Y → Bool) (f : X → List Y) → ((x : X) → filter p (f x) ≡ f x) → (xs : List X) → filter p (flat_map f xs) ≡ flat_map f xs
filter_all_made p f all [] = refl
filter_all_made p f all (x ∷ xs) = filter-append p (f x) (flat_map f xs) ∙ (λ i. all x i ++ filter_all_made p f all xs i)

filter_none_made : {X Y : Type 0} (p : Y → Bool) (f : X → List Y) → ((x : X) → filter p (f x) ≡ []) → (xs : List X) → filter p (flat_map f xs) ≡ []
filter_none_made p f none [] = refl
filter_none_made p f none (x ∷ xs) = filter-append p (f x) (flat_map f xs) ∙ (λ i. none x i ++ filter_none_made p f none xs i)

-- what is kept of each is what is made of its parts
filter_parts : {X Y Z : Type 0} (p : Z → Bool) (f : X → List Z) (g : Y → List Z) (h : X → List Y) → ((x : X) → filter p (f x) ≡ flat_map g (h x))
    → (xs : List X)
    → filter p (flat_map f xs) ≡ flat_map g (flat_map h xs)
filter_parts p f g h same [] = refl
filter_parts p f g h same (x ∷ xs) = filter-append p (f x) (flat_map f xs) ∙ (λ i. same x i ++ filter_parts p f g h same xs i)
    ∙ sym (flat_map-append g (h x) (flat_map h xs))

given_parts : {X Y Z : Type 0} (f : X → Option Y) (g : Y → List Z) (xs : List X) → flat_map g (filter_map f xs) ≡ flat_map (λ x. option_map_or g (f x) []) xs
given_parts f g [] = refl
given_parts f g (x ∷ xs) = go (f x) (given_parts f g xs)
  where
    go : (o : Option _) → flat_map g (filter_map f xs) ≡ flat_map (λ x. option_map_or g (f x) []) xs
        → flat_map g (Rattle.std.specs.List.cons_option o (filter_map f xs)) ≡ option_map_or g o [] ++ flat_map (λ x. option_map_or g (f x) []) xs
    go None rest = rest
    go (Some y) rest = ap (λ zs. g y ++ zs) rest

-- ---- what is stated

no_free : (name : _) (members : List ResourceMember) → flat_map free_member (map (OfResource name) members) ≡ []
no_free name [] = refl
no_free name (m ∷ ms) = no_free name ms

pub declared_none : (declared : Declared) → flat_map free_member (functions_of_declared declared) ≡ []
declared_none (ResourceOf name members) = no_free name members
declared_none (RecordOf name fields) = refl
declared_none (VariantOf name cases) = refl
declared_none (FlagsOf name flags) = refl
declared_none (EnumOf name cases) = refl
declared_none (AliasOf name ty) = refl

module _ (here : PackageHead) where
  used_types : (prefix : Prefix) (path : PathTree) (names : List UsedName)
      → filter is_type_member (plain_members here (UseMember prefix path names))
      ≡ flat_map (plain_members here) (map (λ used. UseMember prefix path (used ∷ [])) names)
  used_types prefix path [] = refl
  used_types prefix path (used ∷ names) = ap (λ ms. UseMember (record prefix { docs = [] }) (plain_path here path) (plain_used used ∷ []) ∷ ms)
      (used_types prefix path names)

  used_none : (prefix : Prefix) (path : PathTree) (names : List UsedName) → filter is_function_member (plain_members here (UseMember prefix path names)) ≡ []
  used_none prefix path [] = refl
  used_none prefix path (used ∷ names) = used_none prefix path names

  used_all : (prefix : Prefix) (path : PathTree) (names : List UsedName)
      → filter is_type_member (plain_members here (UseMember prefix path names)) ≡ plain_members here (UseMember prefix path names)
  used_all prefix path [] = refl
  used_all prefix path (used ∷ names) = ap (λ ms. UseMember (record prefix { docs = [] }) (plain_path here path) (plain_used used ∷ []) ∷ ms)
      (used_all prefix path names)

  -- a use is its uses of one name each
  pub use_singles : (prefix : Prefix) (path : PathTree) (names : List UsedName)
      → flat_map (plain_members here) (types_of (UseMember prefix path names)) ≡ plain_members here (UseMember prefix path names)
  use_singles prefix path names = sym (used_types prefix path names) ∙ used_all prefix path names

  member_types : (member : MemberTree) → filter is_type_member (plain_members here member) ≡ flat_map (plain_members here) (types_of member)
  member_types (UseMember prefix path names) = used_types prefix path names
  member_types (TypeMember prefix declared) = refl
  member_types (FunctionMember prefix name signature) = refl

  member_functions : (member : MemberTree) → filter is_function_member (plain_members here member) ≡ flat_map free_member (functions_of member)
  member_functions (UseMember prefix path names) = used_none prefix path names
  member_functions (TypeMember prefix declared) = sym (declared_none declared)
  member_functions (FunctionMember prefix name signature) = refl

  -- the uses and the types of members, one by one
  pub stated_types : (members : List MemberTree) → filter is_type_member (flat_map (plain_members here) members)
      ≡ flat_map (plain_members here) (flat_map types_of members)
  stated_types = filter_parts is_type_member (plain_members here) (plain_members here) types_of member_types

  -- the functions of members
  pub stated_functions : (members : List MemberTree) → filter is_function_member (flat_map (plain_members here) members)
      ≡ flat_map free_member (flat_map functions_of members)
  stated_functions = filter_parts is_function_member (plain_members here) free_member functions_of member_functions

  -- ---- what is shown

  module _ (r : Resolve) (own : TypeOwner) (path : InterfaceId → PathTree) (functions : List Function) where
    abbrev pub use_of : Listed → Option Used
    use_of listed = option_and_then (used_of r own listed.name) (type_at r listed.id.0)

    abbrev pub declaration_of : Listed → Option DeclaredWith
    declaration_of listed = option_and_then (declared_with r own functions listed) (type_at r listed.id.0)

    abbrev pub plain_declaration : DeclaredWith → List MemberTree
    plain_declaration d = plain_members here (TypeMember d.prefix d.declared)

    -- an entry under its name
    abbrev pub listed_entry : String Global × TypeId → Listed
    listed_entry entry = record { name = text_of entry.0; id = entry.1 }

    -- the use that an entry is, if it is one
    abbrev pub shown_use : String Global × TypeId → List MemberTree
    shown_use entry = option_map_or (plain_use here path) (use_of (listed_entry entry)) []

    -- the declaration that an entry is, if it is one
    abbrev pub shown_declaration : String Global × TypeId → List MemberTree
    shown_declaration entry = option_map_or plain_declaration (declaration_of (listed_entry entry)) []

    -- all uses of an owner, one by one
    pub plain_uses : (entries : List (String Global × TypeId))
        → flat_map (plain_members here) (map (member_of_use here path) (shown_uses r own (map listed_entry entries))) ≡ flat_map shown_use entries
    plain_uses entries = flat_map-map (plain_members here) (member_of_use here path) (shown_uses r own (map listed_entry entries))
        ∙ grouped_apart here path (filter_map use_of (map listed_entry entries)) ∙ given_parts use_of (plain_use here path) (map listed_entry entries)
        ∙ flat_map-map (λ listed. option_map_or (plain_use here path) (use_of listed) []) listed_entry entries

    -- all its declarations
    pub plain_declarations : (entries : List (String Global × TypeId))
        → flat_map (plain_members here) (map (λ d. TypeMember d.prefix d.declared) (shown_declarations r own functions (map listed_entry entries)))
        ≡ flat_map shown_declaration entries
    plain_declarations entries = flat_map-map (plain_members here) (λ d. TypeMember d.prefix d.declared)
        (shown_declarations r own functions (map listed_entry entries))
        ∙ given_parts declaration_of plain_declaration (map listed_entry entries)
        ∙ flat_map-map (λ listed. option_map_or plain_declaration (declaration_of listed) []) listed_entry entries

  module _ (r : Resolve) (id : InterfaceId) (i : Interface) where
    abbrev pub own : TypeOwner
    own = owner.Interface id

    abbrev pub path : InterfaceId → PathTree
    path other = path_from_owner r i.«package» other

    abbrev pub one_use_shown : String Global × TypeId → List MemberTree
    one_use_shown entry = shown_use r own path (listed_functions i) entry

    abbrev pub one_declaration_shown : String Global × TypeId → List MemberTree
    one_declaration_shown entry = shown_declaration r own path (listed_functions i) entry

    abbrev uses : List MemberTree
    uses = map (member_of_use here path) (shown_uses r own (listed_types i))

    abbrev declarations : List MemberTree
    declarations = map (λ d. TypeMember d.prefix d.declared) (shown_declarations r own (listed_functions i) (listed_types i))

    abbrev functions : List MemberTree
    functions = map (shown_function r) (filter (λ f. is_freestanding f.kind) (listed_functions i))

    -- all that is shown
    whole : flat_map (plain_members here) (shown_interface r id i)
        ≡ (flat_map (plain_members here) uses ++ flat_map (plain_members here) declarations) ++ flat_map (plain_members here) functions
    whole = flat_map-append (plain_members here) (uses ++ declarations) functions
        ∙ ap (λ ms. ms ++ flat_map (plain_members here) functions) (flat_map-append (plain_members here) uses declarations)

    kept_of : (p : MemberTree → Bool) → filter p (flat_map (plain_members here) (shown_interface r id i))
        ≡ (filter p (flat_map (plain_members here) uses) ++ filter p (flat_map (plain_members here) declarations))
        ++ filter p (flat_map (plain_members here) functions)
    kept_of p = ap (filter p) whole ∙ filter-append p (flat_map (plain_members here) uses ++ flat_map (plain_members here) declarations)
        (flat_map (plain_members here) functions)
        ∙ ap (λ ms. ms ++ filter p (flat_map (plain_members here) functions))
        (filter-append p (flat_map (plain_members here) uses) (flat_map (plain_members here) declarations))

    abbrev used : List Used
    used = shown_uses r own (listed_types i)

    abbrev declared : List DeclaredWith
    declared = shown_declarations r own (listed_functions i) (listed_types i)

    abbrev free : List Function
    free = filter (λ f. is_freestanding f.kind) (listed_functions i)

    types_used : filter is_type_member (flat_map (plain_members here) uses) ≡ flat_map one_use_shown i.types.entries
    types_used = ap (filter is_type_member) (flat_map-map (plain_members here) (member_of_use here path) used)
        ∙ filter_all_made is_type_member (plain_use here path) (λ u. used_all u.prefix (path u.interface) u.names) used
        ∙ sym (flat_map-map (plain_members here) (member_of_use here path) used) ∙ plain_uses r own path (listed_functions i) i.types.entries

    types_declared : filter is_type_member (flat_map (plain_members here) declarations) ≡ flat_map one_declaration_shown i.types.entries
    types_declared = ap (filter is_type_member) (flat_map-map (plain_members here) (λ d. TypeMember d.prefix d.declared) declared)
        ∙ filter_all_made is_type_member (plain_declaration r own path (listed_functions i)) (λ d. refl) declared
        ∙ sym (flat_map-map (plain_members here) (λ d. TypeMember d.prefix d.declared) declared)
        ∙ plain_declarations r own path (listed_functions i) i.types.entries

    types_free : filter is_type_member (flat_map (plain_members here) functions) ≡ []
    types_free = ap (filter is_type_member) (flat_map-map (plain_members here) (shown_function r) free)
        ∙ filter_none_made is_type_member (λ f. plain_members here (shown_function r f)) (λ f. refl) free

    functions_used : filter is_function_member (flat_map (plain_members here) uses) ≡ []
    functions_used = ap (filter is_function_member) (flat_map-map (plain_members here) (member_of_use here path) used)
        ∙ filter_none_made is_function_member (plain_use here path) (λ u. used_none u.prefix (path u.interface) u.names) used

    functions_declared : filter is_function_member (flat_map (plain_members here) declarations) ≡ []
    functions_declared = ap (filter is_function_member) (flat_map-map (plain_members here) (λ d. TypeMember d.prefix d.declared) declared)
        ∙ filter_none_made is_function_member (plain_declaration r own path (listed_functions i)) (λ d. refl) declared

    functions_free : filter is_function_member (flat_map (plain_members here) functions) ≡ flat_map (λ f. plain_members here (shown_function r f)) free
    functions_free = ap (filter is_function_member) (flat_map-map (plain_members here) (shown_function r) free)
        ∙ filter_all_made is_function_member (λ f. plain_members here (shown_function r f)) (λ f. refl) free

    -- the uses and the types that are shown, one by one
    pub shown_types : filter is_type_member (flat_map (plain_members here) (shown_interface r id i))
        ≡ flat_map one_use_shown i.types.entries ++ flat_map one_declaration_shown i.types.entries
    shown_types = kept_of is_type_member ∙ (λ j. (types_used j ++ types_declared j) ++ types_free j)
        ∙ append_none (flat_map one_use_shown i.types.entries ++ flat_map one_declaration_shown i.types.entries)

    -- the functions that are shown
    pub shown_functions : filter is_function_member (flat_map (plain_members here) (shown_interface r id i))
        ≡ flat_map (λ f. plain_members here (shown_function r f)) (filter (λ f. is_freestanding f.kind) (listed_functions i))
    shown_functions = kept_of is_function_member ∙ (λ j. (functions_used j ++ functions_declared j) ++ functions_free j)
