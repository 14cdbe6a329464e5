-- The functions that are shown of a resource are those that it has. Serves Interfaces.
use Rattle.std.proofs.Common.{◌≡◌, refl, sym, ap, subst, ◌∙◌, ℕ, zero, suc, Bool, true, false, ◌==◌, cond, List, [], ◌∷◌, ◌++◌, map, filter}
use Rattle.std.proofs.Common.{flat_map, Option, Some, None, slice_get, String, arith}
use Rattle.std.proofs.lemmas.{Grind.flat_map-append}
use Rattle.std.specs.{Prelude.if◌then◌else◌, Prelude.is_none, Option.option_map_or}
use Rattle.std.specs.declared.alloc.Global.{Global}
use Rattle.wit_model.specs.declared.model.{Resolve.Resolve, TypeDef.TypeDef, TypeId.TypeId, Function.Function}
use Rattle.wit_model.specs.{Text.Text, Text.text_eq, Names.is_label, Lookup.resource_of, Rules.is_freestanding, Valid.IsValid}
use Rattle.wit_model.proofs.{TextLemmas.text_alike, TextLemmas.text_same}
use Rattle.print_grammar.specs.Tree.{Prefix, ResourceMember, Declared, PackageHead}
use Rattle.print_grammar.specs.Tree.Declared.{RecordOf, VariantOf, FlagsOf, EnumOf, AliasOf, ResourceOf}
use Rattle.print_grammar.specs.Tree.{UsedName, PathTree, MemberTree, MemberTree.UseMember, MemberTree.TypeMember, MemberTree.FunctionMember}
use Rattle.print_items.specs.Shown.{belongs_to, shown_function, shown_resource_member}
use Rattle.text_types.specs.{Each.EachIs, Declares.declared_name, Plain.plain_resource_member, Plain.plain_signature, Scopes.type_name}
use Rattle.text_types.specs.Functions.{MemberStands, method_kind, static_kind}
use Rattle.text_types.specs.Made.{types_of, functions_of, functions_of_declared, FunctionIs, FunctionTree, FunctionTree.Free, FunctionTree.OfResource}
use Rattle.base_lemmas.proofs.{Lists.append_none, Lists.none_there}
use Rattle.text_shown.specs.Same.{plain_members}
use Rattle.text_shown.proofs.Functions.{function_shown, member_shown}

-- ---- functions that belong to no resource, and others

-- the functions of a resource of this name
abbrev pub functions_named : Text → FunctionTree → List ResourceMember
functions_named name (Free prefix own signature) = []
functions_named name (OfResource resource member) = if text_eq resource name then member ∷ [] else []

-- the members that are functions
abbrev pub free_member : FunctionTree → List MemberTree
free_member (Free prefix name signature) = FunctionMember prefix name (plain_signature signature) ∷ []
free_member (OfResource resource member) = []

method_of : (waits : Bool) (id : TypeId) → resource_of (method_kind waits id) ≡ Some id.0
method_of true id = refl
method_of false id = refl

static_of : (waits : Bool) (id : TypeId) → resource_of (static_kind waits id) ≡ Some id.0
static_of true id = refl
static_of false id = refl

module _ {defs : List TypeDef} {resource : Text} {id : TypeId} where
  resource_is : {member : ResourceMember} {f : Function} → MemberStands defs resource id member f → resource_of f.kind ≡ Some id.0
  resource_is (MemberStands.a_constructor front named kind params result) = ap resource_of kind
  resource_is (MemberStands.a_method {tree = tree} front named kind stands) = ap resource_of kind ∙ method_of tree.is_async id
  resource_is (MemberStands.a_static {tree = tree} front named kind stands) = ap resource_of kind ∙ static_of tree.is_async id

free_of_none : (o : Option ℕ) (n : ℕ) → is_none o ≡ true → option_map_or (λ number. number == n) o false ≡ false
free_of_none None n h = refl
free_of_none (Some m) n h = absurd cc

no_text : (a b : Text) → (a ≡ b → ⊥) → text_eq a b ≡ false
no_text a b h = go (text_eq a b) refl
  where
    go : (b' : Bool) → text_eq a b ≡ b' → b' ≡ false
    go true e = absurd (h (text_same a b e))
    go false e = refl

-- by whether the first is kept
pub filter_first : {X : Type 0} (p : X → Bool) (x : X) (xs : List X) {kept : Bool} → p x ≡ kept
    → filter p (x ∷ xs) ≡ cond kept (x ∷ filter p xs) (filter p xs)
filter_first p x xs h = ap (λ b. cond b (x ∷ filter p xs) (filter p xs)) h

abbrev FunctionEntry : Type 0
FunctionEntry = String Global × Function

module _ (r : Resolve) (valid : IsValid r) (types : Text → Option TypeId) where
  -- the functions that belong to no resource, among all
  pub free_shown : (here : PackageHead) {trees : List FunctionTree} {entries : List FunctionEntry}
      → EachIs (FunctionIs r.types.items types) trees entries
      → flat_map (λ f. plain_members here (shown_function r f)) (filter (λ f. is_freestanding f.kind) (map (λ e. e.1) entries)) ≡ flat_map free_member trees
  free_shown here EachIs.no_more = refl
  free_shown here (EachIs.one_more {xs = trees} {ys = entries} (FunctionIs.free {prefix = prefix} {f = f} key stands) ks) =
      ap (flat_map (λ f. plain_members here (shown_function r f))) (filter_first (λ f. is_freestanding f.kind) f (map (λ e. e.1) entries) stands.free)
      ∙ (λ i. function_shown r valid here stands i ++ free_shown here ks i)
  free_shown here (EachIs.one_more {xs = trees} {ys = entries} (FunctionIs.of_resource {member = member} {f = f} key found stands) ks) =
      ap (flat_map (λ f. plain_members here (shown_function r f))) (filter_first (λ f. is_freestanding f.kind) f (map (λ e. e.1) entries)
      (ap is_none (resource_is stands)))
      ∙ free_shown here ks

  -- the functions of the resource of this name and number, among all
  module _ (name : Text) (label : is_label name ≡ true) (id : TypeId) (known : (other : Text) (number : TypeId) → types other ≡ Some number
      → (number.0 == id.0) ≡ text_eq other name) where
    pub members_shown : {trees : List FunctionTree} {entries : List FunctionEntry}
        → EachIs (FunctionIs r.types.items types) trees entries
        → map (plain_resource_member name) (map (shown_resource_member r) (filter (belongs_to id) (map (λ e. e.1) entries)))
        ≡ map (plain_resource_member name) (flat_map (functions_named name) trees)
    members_shown EachIs.no_more = refl
    members_shown (EachIs.one_more {xs = trees} {ys = entries} (FunctionIs.free {prefix = prefix} {f = f} key stands) ks) =
        ap (λ fs. map (plain_resource_member name) (map (shown_resource_member r) fs))
        (filter_first (belongs_to id) f (map (λ e. e.1) entries) (free_of_none (resource_of f.kind) id.0 stands.free))
        ∙ members_shown ks
    members_shown (EachIs.one_more {xs = trees} {ys = entries}
        (FunctionIs.of_resource {resource = other} {member = member} {id = number} {f = f} key found stands) ks) =
        go (text_eq other name) refl (members_shown ks)
      where
        belongs : belongs_to id f ≡ text_eq other name
        belongs = ap (λ o. option_map_or (λ n. n == id.0) o false) (resource_is stands) ∙ known other number found

        go : (b : Bool) → text_eq other name ≡ b
            → map (plain_resource_member name) (map (shown_resource_member r) (filter (belongs_to id) (map (λ e. e.1) entries)))
            ≡ map (plain_resource_member name) (flat_map (functions_named name) trees)
            → map (plain_resource_member name) (map (shown_resource_member r) (filter (belongs_to id) (f ∷ map (λ e. e.1) entries)))
            ≡ map (plain_resource_member name) ((if text_eq other name then member ∷ [] else []) ++ flat_map (functions_named name) trees)
        go true e rest = ap (λ fs. map (plain_resource_member name) (map (shown_resource_member r) fs))
            (filter_first (belongs_to id) f (map (λ e. e.1) entries) (belongs ∙ e))
            ∙ (λ i. plain i ∷ rest i)
            ∙ ap (λ b. map (plain_resource_member name) ((if b then member ∷ [] else []) ++ flat_map (functions_named name) trees)) (sym e)
          where
            same : other ≡ name
            same = text_same other name e

            plain : plain_resource_member name (shown_resource_member r f) ≡ plain_resource_member name member
            plain = subst (λ n. plain_resource_member n (shown_resource_member r f) ≡ plain_resource_member n member) same
                (member_shown r valid (subst (λ n. is_label n ≡ true) (sym same) label) stands)
        go false e rest = ap (λ fs. map (plain_resource_member name) (map (shown_resource_member r) fs))
            (filter_first (belongs_to id) f (map (λ e. e.1) entries) (belongs ∙ e))
            ∙ rest ∙ ap (λ b. map (plain_resource_member name) ((if b then member ∷ [] else []) ++ flat_map (functions_named name) trees)) (sym e)

-- ---- declared types of one name

-- the functions of the resource of this name, where the member is its declaration
abbrev pub declared_functions : Text → Declared → List ResourceMember
declared_functions name (ResourceOf own members) = if text_eq own name then members else []
declared_functions name (RecordOf own fields) = []
declared_functions name (VariantOf own cases) = []
declared_functions name (FlagsOf own flags) = []
declared_functions name (EnumOf own cases) = []
declared_functions name (AliasOf own ty) = []

abbrev pub own_functions : Text → MemberTree → List ResourceMember
own_functions name (UseMember prefix path names) = []
own_functions name (TypeMember prefix declared) = declared_functions name declared
own_functions name (FunctionMember prefix own signature) = []

module _ (name : Text) where
  all_named : (own : Text) (members : List ResourceMember) (b : Bool) → text_eq own name ≡ b
      → flat_map (functions_named name) (map (OfResource own) members) ≡ (if b then members else [])
  all_named own [] true e = refl
  all_named own [] false e = refl
  all_named own (m ∷ ms) true e = λ i. (if e i then m ∷ [] else []) ++ all_named own ms true e i
  all_named own (m ∷ ms) false e = λ i. (if e i then m ∷ [] else []) ++ all_named own ms false e i

  of_declared : (declared : Declared) → flat_map (functions_named name) (functions_of_declared declared) ≡ declared_functions name declared
  of_declared (ResourceOf own members) = all_named own members (text_eq own name) refl
  of_declared (RecordOf own fields) = refl
  of_declared (VariantOf own cases) = refl
  of_declared (FlagsOf own flags) = refl
  of_declared (EnumOf own cases) = refl
  of_declared (AliasOf own ty) = refl

  of_uses : (prefix : Prefix) (path : PathTree) (names : List UsedName)
      → flat_map (own_functions name) (map (λ used. UseMember prefix path (used ∷ [])) names) ≡ []
  of_uses prefix path [] = refl
  of_uses prefix path (used ∷ names) = of_uses prefix path names

  pub of_member : (member : MemberTree) → flat_map (functions_named name) (functions_of member) ≡ flat_map (own_functions name) (types_of member)
  of_member (UseMember prefix path names) = sym (of_uses prefix path names)
  of_member (TypeMember prefix declared) = of_declared declared ∙ sym (append_none (declared_functions name declared))
  of_member (FunctionMember prefix own signature) = refl

  -- the functions of a resource are those of its declaration
  pub of_members : (members : List MemberTree) → flat_map (functions_named name) (flat_map functions_of members)
      ≡ flat_map (own_functions name) (flat_map types_of members)
  of_members [] = refl
  of_members (m ∷ ms) = flat_map-append (functions_named name) (functions_of m) (flat_map functions_of ms) ∙ (λ i. of_member m i ++ of_members ms i)
      ∙ sym (flat_map-append (own_functions name) (types_of m) (flat_map types_of ms))

  -- one of another name has none
  none_of_declared : (declared : Declared) → text_eq (declared_name declared) name ≡ false → declared_functions name declared ≡ []
  none_of_declared (ResourceOf own members) h = ap (λ b. if b then members else []) h
  none_of_declared (RecordOf own fields) h = refl
  none_of_declared (VariantOf own cases) h = refl
  none_of_declared (FlagsOf own flags) h = refl
  none_of_declared (EnumOf own cases) h = refl
  none_of_declared (AliasOf own ty) h = refl

  none_of_other : (member : MemberTree) → (type_name member ≡ name → ⊥) → own_functions name member ≡ []
  none_of_other (UseMember prefix path names) h = refl
  none_of_other (TypeMember prefix declared) h = none_of_declared declared (no_text (declared_name declared) name h)
  none_of_other (FunctionMember prefix own signature) h = refl

  none_of_others : (members : List MemberTree) → ((n : ℕ) (m : MemberTree) → slice_get members n ≡ Some m → type_name m ≡ name → ⊥)
      → flat_map (own_functions name) members ≡ []
  none_of_others [] h = refl
  none_of_others (m ∷ ms) h = λ i. none_of_other m (h 0 m refl) i ++ none_of_others ms (λ n w at. h (suc n) w at) i

  -- The one declaration of a resource has all its functions.
  pub of_one : (types : List MemberTree) (place : ℕ) (prefix : Prefix) (members : List ResourceMember)
      → slice_get types place ≡ Some (TypeMember prefix (ResourceOf name members))
      → ((n : ℕ) (m : MemberTree) → slice_get types n ≡ Some m → type_name m ≡ name → n ≡ place) → flat_map (own_functions name) types ≡ members
  of_one [] place prefix members at alone = absurd (none_there place (TypeMember prefix (ResourceOf name members)) at)
  of_one (m ∷ ms) zero prefix members at alone =
      let same : m ≡ TypeMember prefix (ResourceOf name members) = cc in
      let here : own_functions name m ≡ members = ap (own_functions name) same ∙ ap (λ b. if b then members else []) (text_alike name) in
      (λ i. here i ++ none_of_others ms (λ n w there e. let wrong : suc n ≡ 0 = alone (suc n) w there e in omega arith) i) ∙ append_none members
  of_one (m ∷ ms) (suc place) prefix members at alone =
      λ i. none_of_other m (λ e. let wrong : 0 ≡ suc place = alone 0 m refl e in omega arith) i
      ++ of_one ms place prefix members at (λ n w there e. let next : suc n ≡ suc place = alone (suc n) w there e in omega arith) i
