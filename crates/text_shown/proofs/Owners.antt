-- What is shown of the types and functions of an owner is what states them. Serves Interfaces, Worlds.
use Rattle.std.proofs.Common.{◌≡◌, refl, sym, ap, subst, ◌∙◌, ℕ, zero, suc, true, false, ◌==◌, List, [], ◌∷◌, ◌++◌, map, filter, flat_map, Option}
use Rattle.std.proofs.Common.{Some, None, option_map, option_and_then, slice_get, String}
use Rattle.std.proofs.lemmas.{Map.Entries.lookup_from_place, Map.Entries.place_from_lookup, Option.same_Some, Option.slice_get_within}
use Rattle.std.specs.{Prelude.Contains, Prelude.is_some, Prelude.if◌then◌else◌, List.IsDistinct, List.AllByRecursion, Map.keys_of}
use Rattle.std.specs.{Option.option_map_or, String.string_eq, String.string_eq_equiv, HashMap.get_by_text}
use Rattle.std.specs.declared.alloc.Global.{Global}
use Rattle.wit_model.specs.declared.model.{Resolve.Resolve, TypeDef.TypeDef, TypeId.TypeId, TypeOwner.TypeOwner, InterfaceId.InterfaceId}
use Rattle.wit_model.specs.declared.model.{PackageId.PackageId, Function.Function}
use Rattle.wit_model.specs.{Text.Text, Text.text_eq, Text.text_of, Names.is_label, Rules.is_freestanding, Rules.passes, Valid.IsValid}
use Rattle.wit_model.proofs.{Elements.contains-get, TextLemmas.text_alike, TextLemmas.text_same}
use Rattle.print_grammar.specs.Tree.{Prefix, PackageHead, PathTree, ResourceMember, Declared, MemberTree, MemberTree.TypeMember}
use Rattle.print_grammar.specs.Tree.Declared.{RecordOf, VariantOf, FlagsOf, EnumOf, AliasOf, ResourceOf}
use Rattle.print_items.specs.Shown.{belongs_to, declared_with, path_from_owner, shown_declared, shown_prefix, shown_function, shown_resource_member}
use Rattle.print_items.specs.Shown.{used_of, DeclaredWith, Used}
use Rattle.print_items.proofs.TypesWell.{label_of}
use Rattle.text_types.specs.{Each.EachIs, Stands.NameAt, Plain.plain_declared, Plain.plain_resource_member, Scopes.type_name}
use Rattle.text_types.proofs.DeclaredLaws.{plain_name}
use Rattle.text_types.specs.Made.{name_here, FunctionIs, FunctionTree, InSomeOrder, NameMap, TypeIs}
use Rattle.base_lemmas.proofs.{Bools.both_ways, Elements.contains-later, Elements.first-contained}
use Rattle.base_lemmas.proofs.{Numbers.equal, Numbers.same_count}
use Rattle.text_shown.specs.{Members.IsForeign, Same.plain_members}
use Rattle.text_shown.specs.{Same.Shuffled}
use Rattle.text_shown.proofs.{Declared.AreFunctionsOf, Declared.declared_shown, Declared.front_shown}
use Rattle.text_shown.proofs.Parts.{plain_declaration, shown_declaration, shown_use}
use Rattle.text_shown.proofs.Resources.{free_member, free_shown, functions_named, members_shown, of_one, own_functions}
use Rattle.text_shown.proofs.Shuffles.{shown_in_order, split_at, IsSplit, SplitAt}
use Rattle.text_shown.proofs.Uses.{no_use, one_use, plain_use, use_at, use_shown}

-- ---- entries that belong to each other

module _ {X Y : Type 0} {Is : X → Y → Type 0} where
  at_left : {xs : List X} {ys : List Y} → EachIs Is xs ys → (n : ℕ) (x : X) → slice_get xs n ≡ Some x → (y : Y) × (slice_get ys n ≡ Some y) × Is x y
  at_left EachIs.no_more n x at = absurd cc
  at_left (EachIs.one_more {x = z} {y = y} k ks) zero x at = (y, refl, subst (λ w. Is w y) (same_Some z x at) k)
  at_left (EachIs.one_more k ks) (suc n) x at = at_left ks n x at

  pub at_right : {xs : List X} {ys : List Y} → EachIs Is xs ys → (n : ℕ) (y : Y) → slice_get ys n ≡ Some y → (x : X) × (slice_get xs n ≡ Some x) × Is x y
  at_right EachIs.no_more n y at = absurd cc
  at_right (EachIs.one_more {x = x} {y = w} k ks) zero y at = (x, refl, subst (Is x) (same_Some w y at) k)
  at_right (EachIs.one_more k ks) (suc n) y at = at_right ks n y at

each_entry : {X Y : Type 0} {A B : X → Y → Type 0} {xs : List X} {ys : List Y} → ((x : X) (y : Y) → Contains ys y → A x y → B x y) → EachIs A xs ys
    → EachIs B xs ys
each_entry kept EachIs.no_more = EachIs.no_more
each_entry kept (EachIs.one_more {x = x} {y = y} {ys = more} k ks) =
    EachIs.one_more (kept x y (first-contained y more) k) (each_entry (λ z w has. kept z w (contains-later y more w has)) ks)

-- ---- names that differ

module _ {V : Type 0} where
  other_name : (key : String Global) (es : List (String Global × V)) → AllByRecursion (λ k. string_eq key k ≡ false) (keys_of es)
      → (n : ℕ) (e : String Global × V) → slice_get es n ≡ Some e
      → text_of key ≡ text_of e.0 → ⊥
  other_name key [] all n e at same = absurd cc
  other_name key (x ∷ xs) all zero e at same =
      let named : text_of key ≡ text_of x.0 = same ∙ sym (ap (λ y. text_of y.0) (same_Some x e at)) in
      let alike : text_eq (text_of key) (text_of x.0) ≡ true = subst (λ t. text_eq (text_of key) t ≡ true) named (text_alike (text_of key)) in
      let wrong : true ≡ false = sym alike ∙ all.0 in absurd cc
  other_name key (x ∷ xs) all (suc n) e at same = other_name key xs all.1 n e at same

  -- No two entries have one name.
  one_place : (es : List (String Global × V)) → IsDistinct string_eq (keys_of es) → (n m : ℕ) (e f : String Global × V) → slice_get es n ≡ Some e
      → slice_get es m ≡ Some f
      → text_of e.0 ≡ text_of f.0 → n ≡ m
  unfolding IsDistinct
  one_place [] distinct n m e f at also same = absurd cc
  one_place (x ∷ xs) distinct zero zero e f at also same = refl
  one_place (x ∷ xs) distinct zero (suc m) e f at also same = absurd (other_name x.0 xs distinct.0 m f also (ap (λ y. text_of y.0) (same_Some x e at) ∙ same))
  one_place (x ∷ xs) distinct (suc n) zero e f at also same =
      absurd (other_name x.0 xs distinct.0 n e at (ap (λ y. text_of y.0) (same_Some x f also) ∙ sym same))
  one_place (x ∷ xs) distinct (suc n) (suc m) e f at also same = ap suc (one_place xs distinct.1 n m e f at also same)

-- ---- what the types of an interface are called

module _ {defs : List TypeDef} {Target : PathTree → Text → TypeId → Type 0} {of : TypeOwner} where
  -- an entry has the name of its use or its declaration
  entry_called : (member : MemberTree) (entry : String Global × TypeId) → TypeIs defs Target of member entry → text_of entry.0 ≡ type_name member
  entry_called member entry (TypeIs.a_use named there means) = named
  entry_called member entry (TypeIs.a_declaration named there) = named

  -- and so has its definition
  definition_called : (member : MemberTree) (entry : String Global × TypeId) → TypeIs defs Target of member entry → NameAt defs entry.1 (text_of entry.0)
  definition_called member entry (TypeIs.a_use named there means) = record {
    def = there.def;
    there = there.there;
    named = there.front.named
        ∙ ap Some (sym named);
  }
  definition_called member entry (TypeIs.a_declaration {declared = declared} named there) =
      record { def = there.def; there = there.there; named = there.stands.front.named ∙ ap Some (plain_name declared ∙ sym named) }

labelled : (o : Option (String Global)) (name : Text) → option_map text_of o ≡ Some name → passes (λ s. is_label (text_of s)) o ≡ true → is_label name ≡ true
labelled None name e h = absurd cc
labelled (Some s) name e h = subst (λ t. is_label t ≡ true) (same_Some (text_of s) name e) h

-- one number has one name
one_name : (defs : List TypeDef) (n m : TypeId) (a b : Text) → n.0 ≡ m.0 → NameAt defs n a → NameAt defs m b → a ≡ b
one_name defs n m a b same k h =
    let there : Some k.def ≡ Some h.def = sym k.there ∙ ap (slice_get defs) same ∙ h.there in
    let def : k.def ≡ h.def = same_Some k.def h.def there in
    same_Some a b (sym k.named ∙ ap (λ d. option_map text_of d.name) def ∙ h.named)

-- The types of an owner are those of these uses and declarations, and its functions those of these trees.
pub record Owns (r : Resolve) (here : PackageHead) (own : TypeOwner) (home : Option PackageId) (stated : List MemberTree) (trees : List FunctionTree)
    (types : NameMap TypeId) (functions : List (String Global × Function)) : Type 0 where
  pub has_types : InSomeOrder (TypeIs r.types.items (IsForeign r here own home) own) stated types.entries
  pub has_functions : EachIs (FunctionIs r.types.items (get_by_text types)) trees functions
  pub distinct : IsDistinct string_eq (keys_of types.entries)
  pub resources : (name : Text) → flat_map (functions_named name) trees ≡ flat_map (own_functions name) stated

module _ (r : Resolve) (valid : IsValid r) (here : PackageHead) (own : TypeOwner) (home : Option PackageId) (stated : List MemberTree)
    (trees : List FunctionTree)
    (types : NameMap TypeId) (functions : List (String Global × Function)) (h : Owns r here own home stated trees types functions) where
  abbrev Is : MemberTree → String Global × TypeId → Type 0
  Is = TypeIs r.types.items (IsForeign r here own home) own

  -- all functions
  abbrev all_functions : List Function
  all_functions = map (λ e. e.1) functions

  abbrev path : InterfaceId → PathTree
  path other = path_from_owner r home other

  -- Where a use or a declaration stands among the types.
  record IsMadeAt (place : ℕ) (member : MemberTree) : Type 0 where
    at : ℕ
    listed : slice_get h.has_types.order at ≡ Some place
    entry : String Global × TypeId
    there : slice_get types.entries at ≡ Some entry
    is : Is member entry

  made_at : (place : ℕ) (member : MemberTree) → slice_get stated place ≡ Some member → IsMadeAt place member
  made_at place member at =
      let found = contains-get h.has_types.order place (h.has_types.all place (slice_get_within stated place member at)) in
      let made = at_left h.has_types.each found.0 place found.1 in
      record {
        at = found.0;
        listed = found.1;
        entry = made.0;
        there = made.1;
        is = subst (λ m. Is m made.0) (same_Some made.2.x member (sym made.2.there ∙ at)) made.2.is;
      }

  -- The name of a type is that of one use or declaration.
  one_member : (n m : ℕ) (a b : MemberTree) → slice_get stated n ≡ Some a → slice_get stated m ≡ Some b → type_name a ≡ type_name b → n ≡ m
  one_member n m a b at also same =
      let k = made_at n a at in
      let g = made_at m b also in
      let place : k.at ≡ g.at =
      one_place types.entries h.distinct k.at g.at k.entry g.entry k.there g.there (entry_called a k.entry k.is ∙ same ∙ sym (entry_called b g.entry g.is)) in
      same_Some n m (sym k.listed ∙ ap (slice_get h.has_types.order) place ∙ g.listed)

  -- ---- functions of a resource

  -- what the number of a resource's declaration is, and what other names stand for
  module _ (place : ℕ) (prefix : Prefix) (name : Text) (members : List ResourceMember)
      (at : slice_get stated place ≡ Some (TypeMember prefix (ResourceOf name members)))
      (n : ℕ) (entry : String Global × TypeId) (there : slice_get types.entries n ≡ Some entry)
      (is : Is (TypeMember prefix (ResourceOf name members)) entry) where
    called : text_of entry.0 ≡ name
    called = entry_called (TypeMember prefix (ResourceOf name members)) entry is

    resource_label : is_label name ≡ true
    resource_label =
        let k = definition_called (TypeMember prefix (ResourceOf name members)) entry is in
        labelled k.def.name name (k.named ∙ ap Some called) (label_of r valid entry.1.0 k.def k.there)

    known : (other : Text) (number : TypeId) → get_by_text types other ≡ Some number → (number.0 == entry.1.0) ≡ text_eq other name
    known other number found = both_ways (number.0 == entry.1.0) (text_eq other name) by_number by_name
      where
        by_number : (number.0 == entry.1.0) ≡ true → text_eq other name ≡ true
        by_number same =
            let place = place_from_lookup _ types.entries number found in
            let made = at_right h.has_types.each place.0 (place.1, number) place.2 in
            let key : text_of place.1 ≡ text_of entry.0 = one_name r.types.items number entry.1 (text_of place.1) (text_of entry.0)
            (equal number.0 entry.1.0 same)
            (definition_called made.2.x (place.1, number) made.2.is) (definition_called (TypeMember prefix (ResourceOf name members)) entry is) in
            subst (λ t. text_eq other t ≡ true) (key ∙ called) place.3

        by_name : text_eq other name ≡ true → (number.0 == entry.1.0) ≡ true
        by_name same =
            let here : get_by_text types (text_of entry.0) ≡ Some entry.1 =
            lookup_from_place string_eq_equiv types.entries n entry.0 entry.1 h.distinct there in
            let alike : other ≡ text_of entry.0 = text_same other name same ∙ sym called in
            let number_is : number ≡ entry.1 = same_Some number entry.1 (sym found ∙ ap (get_by_text types) alike ∙ here) in
            same_count number.0 entry.1.0 (ap (λ m. m.0) number_is)

    resource_functions : map (plain_resource_member name) (map (shown_resource_member r) (filter (belongs_to entry.1) all_functions))
        ≡ map (plain_resource_member name) members
    resource_functions = members_shown r valid (get_by_text types) name resource_label entry.1 known h.has_functions
        ∙ ap (map (plain_resource_member name)) (h.resources name
        ∙ of_one name stated place prefix members at (λ m member also e. one_member m place member (TypeMember prefix (ResourceOf name members)) also at e))

  declared_functions : (place : ℕ) (prefix : Prefix) (declared : Declared) → slice_get stated place ≡ Some (TypeMember prefix declared)
      → (n : ℕ) (entry : String Global × TypeId)
      → slice_get types.entries n ≡ Some entry → Is (TypeMember prefix declared) entry
      → AreFunctionsOf (map (shown_resource_member r) (filter (belongs_to entry.1) all_functions)) (plain_declared declared)
  declared_functions place prefix (ResourceOf name members) at n entry there is = resource_functions place prefix name members at n entry there is
  declared_functions place prefix (RecordOf name fields) at n entry there is = tt
  declared_functions place prefix (VariantOf name cases) at n entry there is = tt
  declared_functions place prefix (FlagsOf name flags) at n entry there is = tt
  declared_functions place prefix (EnumOf name cases) at n entry there is = tt
  declared_functions place prefix (AliasOf name ty) at n entry there is = tt

  -- ---- one type

  abbrev IsShown : MemberTree → String Global × TypeId → Type 0
  IsShown member entry = IsSplit (plain_members here) (shown_use here r own path all_functions) (shown_declaration here r own path all_functions) member entry

  -- what an entry is shown as, by whether it is a use
  module _ (name : String Global) (number : TypeId) (def : TypeDef) (there : slice_get r.types.items number.0 ≡ Some def) (u : Option Used)
      (is : used_of r own (text_of name) def ≡ u) where
    use_is : shown_use here r own path all_functions (name, number) ≡ option_map_or (plain_use here path) u []
    use_is = ap (λ o. option_map_or (plain_use here path) (option_and_then (used_of r own (text_of name)) o) []) there
        ∙ ap (λ o. option_map_or (plain_use here path) o []) is

    -- what is declared
    abbrev with_front : DeclaredWith
    with_front = record { prefix = shown_prefix def.docs def.stability def.external_id; declared = shown_declared r all_functions number def }

    declaration_is : shown_declaration here r own path all_functions (name, number)
        ≡ option_map_or (plain_declaration here r own path all_functions) (if is_some u then None else Some with_front) []
    declaration_is = ap (λ o. option_map_or (plain_declaration here r own path all_functions)
        (option_and_then (declared_with r own all_functions (record { name = text_of name; id = number })) o) []) there
        ∙ ap (λ o. option_map_or (plain_declaration here r own path all_functions) (if is_some o then None else Some with_front) []) is

  type_split : (place : ℕ) (member : MemberTree) → slice_get stated place ≡ Some member → (n : ℕ) (entry : String Global × TypeId)
      → slice_get types.entries n ≡ Some entry → Is member entry
      → IsShown member entry
  type_split place member at n entry there (TypeIs.a_use {prefix = prefix} {path = other} {used = used} {name = name} {id = number} named stands means) =
      let it : used_of r own (text_of name) stands.def ≡ Some (one_use means.interface stands.def (name_here used) used.other) =
      ap (λ t. used_of r own t stands.def) named ∙ use_at r here own home prefix other used stands means in
      IsSplit.by_first refl (use_is name number stands.def stands.there _ it ∙ use_shown r here own home prefix other used stands means)
      (declaration_is name number stands.def stands.there _ it)
  type_split place member at n entry there (TypeIs.a_declaration {prefix = prefix} {declared = declared} {name = name} {id = number} named stands) =
      let is : Is (TypeMember prefix declared) (name, number) = TypeIs.a_declaration named stands in
      let none : used_of r own (text_of name) stands.def ≡ None = no_use r own (text_of name) stands.def stands.stands.own in
      let front : shown_prefix stands.def.docs stands.def.stability stands.def.external_id ≡ prefix =
      front_shown stands.stands.front in
      let what : plain_declared (shown_declared r all_functions number stands.def) ≡ plain_declared declared =
      declared_shown r valid all_functions number stands.stands (declared_functions place prefix declared at n (name, number) there is) in
      IsSplit.by_second refl (use_is name number stands.def stands.there None none)
      (declaration_is name number stands.def stands.there None none ∙ (λ j. TypeMember (front j) (what j) ∷ []))

  -- ---- all of them

  types_split : EachIs (SplitAt (plain_members here) (shown_use here r own path all_functions)
      (shown_declaration here r own path all_functions) 0 stated) h.has_types.order types.entries
  types_split = each_entry (λ place entry (has : Contains types.entries entry) k. let n = contains-get types.entries entry has in
      split_at (plain_members here) (shown_use here r own path all_functions) (shown_declaration here r own path all_functions) stated place entry k.x k.there
      (type_split place k.x k.there n.0 entry n.1 k.is)) h.has_types.each

  -- The uses and then the declarations that are shown are those that are stated, in some order.
  pub types_shown : Shuffled (flat_map (shown_use here r own path all_functions) types.entries
      ++ flat_map (shown_declaration here r own path all_functions) types.entries)
      (flat_map (plain_members here) stated)
  types_shown = shown_in_order (plain_members here) (shown_use here r own path all_functions)
      (shown_declaration here r own path all_functions) stated h.has_types.order types.entries
      types_split h.has_types.once h.has_types.all

  -- The functions that belong to no resource are shown in their order.
  pub functions_shown : flat_map (λ f. plain_members here (shown_function r f)) (filter (λ f. is_freestanding f.kind) all_functions)
      ≡ flat_map free_member trees
  functions_shown = free_shown r valid (get_by_text types) here h.has_functions
