-- What is shown of a valid `Resolve`'s interfaces is well named.
use Rattle.std.proofs.Common.{rules as std_rules, ◌≡◌, refl, sym, ap, ◌∙◌, subst, ℕ, ◌+◌, Bool, true, false, ◌&&◌, ◌||◌, not, List, [], ◌∷◌, flat_map, map, Option, Some, None, option_map, length, arith, ◌==◌, ◌++◌, append_assoc, option_and_then, filter, filter_map, inl, inr}
use Rattle.std.proofs.lemmas.{Bool.ltb-true, Bool.and_from as both, Bool.cases_Bool, List.drop_at, List.length_push}
use Rattle.std.proofs.lemmas.List.Folds.{list_all-append, list_all-map}
use Rattle.std.specs.{Prelude.is_some, Prelude.String, Prelude.codes, Prelude.if◌then◌else◌, Prelude.option_to_list, Option.option_map_or, Map.values_of}
use Rattle.std.specs.List.{list_all, find, position_or_len}
use Rattle.std.specs.declared.alloc.Global.{Global}
use Rattle.wit_model.specs.declared.model.{Resolve.Resolve, Interface.Interface, TypeOwner.TypeOwner, Function.Function, EnumCase.EnumCase, PackageId.PackageId}
use Rattle.wit_model.specs.declared.model.{InterfaceId.InterfaceId, World.World, FunctionKind.FunctionKind, TypeDefKind.TypeDefKind, «Type».«Type» as ValueType}
use Rattle.wit_model.specs.declared.model.{TypeDef.TypeDef, TypeId.TypeId, Field.Field, Case.Case, Flag.Flag, Package.Package}
use Rattle.wit_model.specs.{Text.Text, Text.text_of, Text.text_eq, Text.optional_text, Checks.KeepsIn, Checks.references, Checks.listings, Checks.has_name}
use Rattle.wit_model.specs.{Names.is_label, Names.method_name, Names.static_name, Calls.after_dot, Calls.own_name_of, Calls.item_name}
use Rattle.wit_model.specs.Uses.{alias_target, owner_interface}
use Rattle.wit_model.specs.{Lookup.interface_at, Lookup.world_at, Lookup.type_at, Lookup.resource_of, Lookup.package_at, Types.number_of}
use Rattle.wit_model.specs.Valid.{IsValid, Rule, Keeps, order_of_types, owners, is_place, numbers_in_range, labels, package_names, named_kinds, places, function_names}
use Rattle.wit_model.specs.Parts.{kind_numbers, met_by, met_of, used_by_type, same_owner, has_owner, handled}
use Rattle.wit_model.specs.Rules.{in_list, passes, is_use, is_named_of, after_prefix, is_freestanding, function_labels, is_resource_itself, resource_name, takes_self, is_member_name, is_member_of, is_member, has_shape, kind_labels, is_stability, is_named_kind, function_in_range, is_named_number, package_number}
use Rattle.wit_model.proofs.{Entries.each_from_at, Entries.each_from_all, Entries.lists_pass, Entries.none_breaks, PartsLemmas.owner_same as same_owner_is}
use Rattle.wit_model.proofs.{OnePath.interface-passes, OnePath.given-test, OnePath.package-passes, Checks.references_kept, Owners.named_met, Owners.owned_stays}
use Rattle.wit_model.proofs.{Listings.interface_fits, Listings.misnamed_in_interface_breaks, TreeTable.kept_numbers, Lists.list_all_filter_map}
use Rattle.wit_model.proofs.{TextLemmas.text_same, NameLaws.label_lacks, Prefixes.after_sound}
use Rattle.print_items.specs.Shown.{Listed, present_name, shown_type, type_name, type_trees, kind_tree, shown_field, shown_case, shown_flag, shown_enum_case, constructor_result, shown_resource_member, belongs_to, shown_declared, shown_prefix, full_path, path_from, shown_path, Used, own_name, used_of, same_group, grouped_with, grouped, shown_uses, DeclaredWith, declared_with, shown_declarations, path_from_owner, listed_types, listed_functions, shown_function, shown_interface}
use Rattle.print_items.proofs.TypesWell.{type_rule, label_of, is_below, below_of_numbers, shape_of, handled_label, shown_type_well, shown_kind_well, name_well}
use Rattle.print_items.proofs.ShownWell.{docs_well, given_label, optional_version, shown_prefix_well}
use Rattle.base_lemmas.proofs.{Bools.left_of, Bools.right_of, Bools.given-not as implied, Bools.and-true, Lists.within_there as one_there, Elements.joined_well, Numbers.nothing_more}
use Rattle.print_grammar.specs.WellNamed.{is_well_type, is_well_field, is_well_case, is_well_label, is_well_prefix, is_well_resource_member, is_well_declared, is_well_path, is_well_used, are_well_some, is_well_member}
use Rattle.print_grammar.specs.Tree.{PathTree.Local, MemberTree.UseMember, MemberTree.TypeMember}
use Rattle.print_uses.proofs.WellLists.{kept_well, some_well, given_well, joined_some, each_well}
use Rattle.print_uses.proofs.FunctionsWell.{signature_well, function_prefix_well, optional_type_well}
use Rattle.indexmap.specs.IndexMap.{values}
use Rattle.wit_model.specs.declared.error.EntryList.TheVariants as lists
use Rattle.wit_model.specs.declared.model.TypeDefKind.TheVariants as defined
use Rattle.wit_model.specs.declared.model.TypeOwner.TheVariants as owner
use Rattle.wit_model.specs.declared.model.«Type».TheVariants as value
use Rattle.wit_model.specs.declared.model.FunctionKind.TheVariants as call
use Rattle.wit_model.specs.declared.model.Handle.TheVariants as handle

-- ---- What a valid `Resolve` says of owners and of the names in their lists.

-- ---- owners

-- another owner is another one the other way round
other_way : (o : TypeOwner) (id : InterfaceId) → same_owner o (owner.Interface id) ≡ false → same_owner (owner.Interface id) o ≡ false
other_way o id differs = search std_rules

-- whether the interface of this number has a name
abbrev pub is_named_interface : Resolve → ℕ → Bool
is_named_interface r n = option_map_or (λ i. is_some i.name) (interface_at r n) false

-- whether the interface that owns a type has a name
abbrev has_named_owner : Resolve → TypeDef → Bool
has_named_owner r def = option_map_or (is_named_interface r) (owner_interface def.owner) false

-- a type's name in an owner's list is a label, and the type is a named one of that owner
abbrev pub is_known_listed : Resolve → TypeOwner → Listed → Bool
is_known_listed r o listed = is_label listed.name && is_named_of r o listed.id.0

module _ (r : Resolve) (valid : IsValid r) where
  pub world_rule : (rule : Rule) → Keeps rule r → (n : ℕ) (w : World) → world_at r n ≡ Some w → rule.world_ r n w ≡ true
  world_rule rule h n w e = search (std_rules, each_from_at, lists_pass)

  -- ---- the owner of an alias's target

  smaller_references : Keeps references r
  unfolding references
  smaller_references = references_kept r (each_from_all (references.type_ r) 0 r.types.items
      (λ n def e. subst (λ m. references.type_ r m def ≡ true) (sym (nothing_more n)) (kept_numbers r valid.rules n def e)))

  module _ (n : ℕ) (def : TypeDef) (at : type_at r n ≡ Some def) (t : TypeId) (alias : def.kind ≡ defined.Type_ (value.Id t)) (target : TypeDef) (there : type_at r t.0 ≡ Some target) (named : is_some target.name ≡ true) where
    -- an alias uses its target alone
    uses_target : list_all (has_owner r def.owner) (used_by_type r def) ≡ same_owner target.owner def.owner
    uses_target =
        let numbers : kind_numbers def.kind ≡ t.0 ∷ [] = ap kind_numbers alias in
        let met = named_met r smaller_references t.0 target there def.owner named in
        ap (λ ns. list_all (has_owner r def.owner) (flat_map (met_by (met_of r)) ns)) numbers
        ∙ (list_all-append (has_owner r def.owner) (met_by (met_of r) t.0) [] ∙ (and-true (list_all (has_owner r def.owner) (met_by (met_of r) t.0)) ∙ sym met))

    named_by_use : is_use r def ≡ true → has_named_owner r target ≡ true
    named_by_use h =
        let found = given-test (λ m. option_map_or (λ other. not (same_owner other.owner def.owner) && has_named_owner r other) (type_at r m) false) (alias_target def.kind) false t.0
        (ap alias_target alias) h in
        let both_hold = given-test (λ other. not (same_owner other.owner def.owner) && has_named_owner r other) (type_at r t.0) false target there found in
        right_of (not (same_owner target.owner def.owner)) _ both_hold

    -- The interface of an alias's target has a name, where it isn't the alias's own.
    pub target_interface_named : (o : TypeOwner) → same_owner o owner.None ≡ false → same_owner def.owner o ≡ true → (id : InterfaceId) → target.owner ≡ owner.Interface id
        → same_owner o (owner.Interface id) ≡ false → is_named_interface r id.0 ≡ true
    unfolding owners
    target_interface_named o placed home id its differs =
        let own : def.owner ≡ o = same_owner_is def.owner o home in
        let stays = owned_stays r def (type_rule r valid owners valid.rules.owners n def at) (subst (λ x. same_owner x owner.None ≡ false) (sym own) placed) in
        let apart : same_owner target.owner def.owner ≡ false = ap (λ x. same_owner target.owner x) own ∙ (ap (λ x. same_owner x o) its ∙ other_way o id differs) in
        let used : is_use r def ≡ true = other_holds (list_all (has_owner r def.owner) (used_by_type r def)) (is_use r def) (uses_target ∙ apart) stays in
        given-test (is_named_interface r) (owner_interface target.owner) false id.0 (ap owner_interface its) (named_by_use used)
      where
        other_holds : (a b : Bool) → a ≡ false → (a || b) ≡ true → b ≡ true
        other_holds false b e h = h
        other_holds true b e h = absurd cc

  -- ---- names in the lists of owners

  listed_interfaces : KeepsIn listings r lists.Interfaces
  unfolding listings order_of_types
  listed_interfaces = each_from_all (listings.interface_ r) 0 r.interfaces.items
      (λ n i e. subst (λ m. listings.interface_ r m i ≡ true) (sym (nothing_more n)) (left_of _ _ (interface-passes order_of_types r valid.rules.order_of_types n i e)))

  -- The types of an interface stand under their own names.
  pub own_names : (n : ℕ) (i : Interface) → interface_at r n ≡ Some i → list_all (λ e. has_name r (λ name. text_eq name (text_of e.0)) e.1.0) i.types.entries ≡ true
  own_names n i e = go (option_map (λ x. x.1.0) (find (λ x. not (has_name r (λ name. text_eq name (text_of x.0)) x.1.0)) i.types.entries)) refl
    where
      go : (o : Option ℕ) → option_map (λ x. x.1.0) (find (λ x. not (has_name r (λ name. text_eq name (text_of x.0)) x.1.0)) i.types.entries) ≡ o
          → list_all (λ x. has_name r (λ name. text_eq name (text_of x.0)) x.1.0) i.types.entries ≡ true
      go None q = interface_fits r i q
      go (Some m) q = absurd (none_breaks r valid.rules 5 lists.Types m (misnamed_in_interface_breaks r n i e listed_interfaces m (sym q)))

  own_name_label : (n : ℕ) (key : Text) → in_list r.types.items n ≡ true → has_name r (λ name. text_eq name key) n ≡ true → is_label key ≡ true
  own_name_label n key inside h =
      let there = one_there r.types.items n (ltb-true n (length r.types.items) inside) in
      go there.0.name (label_of r valid n there.0 there.1) (subst (λ o. passes (λ def. option_map_or (λ name. text_eq (text_of name) key) def.name false) o ≡ true) there.1 h)
    where
      go : (name : Option (String Global)) → passes (λ s. is_label (text_of s)) name ≡ true → option_map_or (λ s. text_eq (text_of s) key) name false ≡ true → is_label key ≡ true
      go None label same = absurd cc
      go (Some s) label same = subst (λ t. is_label t ≡ true) (text_same (text_of s) key same) label

  -- Entries in range, under their own names, whose types are named ones of the owner.
  pub listed_known : (o : TypeOwner) (es : List (String Global × TypeId)) → list_all (λ id. in_list r.types.items id.0) (values_of es) ≡ true
      → list_all (λ e. has_name r (λ name. text_eq name (text_of e.0)) e.1.0) es ≡ true → list_all (is_named_of r o) (map (λ id. id.0) (values_of es)) ≡ true
      → list_all (is_known_listed r o) (map (λ e. record { name = text_of e.0; id = e.1 }) es) ≡ true
  listed_known o [] range names own = refl
  listed_known o (e ∷ es) range names own = search (
    std_rules,
    left_of,
    both,
    own_name_label,
    right_of,
    listed_known o es (right_of (in_list r.types.items e.1.0) _ range) (right_of (has_name r (λ name. text_eq name (text_of e.0)) e.1.0) _ names) (right_of (is_named_of r o e.1.0) _ own),
  )

-- ---- The own names of a valid `Resolve`'s functions are labels.

-- ---- what follows a dot

-- a byte that is no dot
abbrev is_no_dot : ℕ → Bool
is_no_dot b = not (b == 46)

first_dot : (xs ys : Text) → list_all is_no_dot xs ≡ true → position_or_len (λ b. b == 46) (xs ++ (46 ∷ ys)) ≡ length xs
first_dot [] ys h = refl
first_dot (x ∷ xs) ys h = search (std_rules, left_of, right_of, first_dot xs ys (right_of (is_no_dot x) _ h))

after_first_dot : (xs ys : Text) → list_all is_no_dot xs ≡ true → after_dot (xs ++ (46 ∷ ys)) ≡ ys
after_first_dot xs ys h = search (std_rules, first_dot xs ys h, append_assoc xs (46 ∷ []) ys, drop_at (xs ++ (46 ∷ [])) ys (length xs + 1) (length_push xs 46), length_push xs 46)

-- what follows a front, a label and a dot
member_label : (front name : Text) (f : Function) → list_all is_no_dot front ≡ true → is_label name ≡ true → is_member_name (front ++ (name ++ (46 ∷ []))) f ≡ true
    → is_label (after_dot (text_of f.name)) ≡ true
member_label front name f plain label h = go (after_prefix (front ++ (name ++ (46 ∷ []))) (text_of f.name)) refl h
  where
    go : (o : Option Text) → after_prefix (front ++ (name ++ (46 ∷ []))) (text_of f.name) ≡ o → option_map_or is_label o false ≡ true → is_label (after_dot (text_of f.name)) ≡ true
    go None e g = absurd cc
    go (Some rest) e g =
        let whole : text_of f.name ≡ (front ++ (name ++ (46 ∷ []))) ++ rest = after_sound (front ++ (name ++ (46 ∷ []))) (text_of f.name) rest e in
        let again : (front ++ (name ++ (46 ∷ []))) ++ rest ≡ (front ++ name) ++ (46 ∷ rest) =
        ap (λ t. t ++ rest) (sym (append_assoc front name (46 ∷ []))) ∙ append_assoc (front ++ name) (46 ∷ []) rest in
        let lacks : list_all is_no_dot (front ++ name) ≡ true = joined_well is_no_dot front name plain (label_lacks 46 refl name label) in
        let after : after_dot (text_of f.name) ≡ rest = ap after_dot (whole ∙ again) ∙ after_first_dot (front ++ name) rest lacks in
        subst (λ t. is_label t ≡ true) (sym after) g

method_label : (f : Function) (also : Bool) (name : Option Text) → passes is_label name ≡ true → option_map_or (λ t. is_member_name (method_name t []) f && also) name false ≡ true
    → is_label (after_dot (text_of f.name)) ≡ true
method_label f also None label h = absurd cc
method_label f also (Some t) label h = member_label (codes "[method]") t f refl label (left_of (is_member_name (method_name t []) f) also h)

static_label : (f : Function) (name : Option Text) → passes is_label name ≡ true → option_map_or (λ t. is_member_name (static_name t []) f) name false ≡ true
    → is_label (after_dot (text_of f.name)) ≡ true
static_label f None label h = absurd cc
static_label f (Some t) label h = member_label (codes "[static]") t f refl label h

-- ---- functions

module _ (r : Resolve) (valid : IsValid r) where
  resource_name_label : (o : TypeOwner) (n : ℕ) → passes is_label (resource_name r o n) ≡ true
  resource_name_label o n = go (type_at r n) refl
    where
      given : (b : Bool) (name : Option (String Global)) → passes (λ s. is_label (text_of s)) name ≡ true → passes is_label (if b then optional_text name else None) ≡ true
      given true None h = refl
      given true (Some s) h = h
      given false name h = refl

      go : (d : Option TypeDef) → type_at r n ≡ d → passes is_label (option_and_then (λ def. if is_resource_itself def.kind && same_owner def.owner o then optional_text def.name else None) d) ≡ true
      go None e = refl
      go (Some def) e = given (is_resource_itself def.kind && same_owner def.owner o) def.name (label_of r valid n def e)

  -- The name of a function without its resource's is a label.
  pub item_name_well : (o : TypeOwner) (f : Function) → function_labels f ≡ true → is_member r o f ≡ true → is_label (item_name f) ≡ true
  item_name_well o f named belongs = go f.kind (left_of _ _ named) belongs
    where
      go : (k : FunctionKind) → (not (is_freestanding k) || is_label (text_of f.name)) ≡ true
          → passes (λ n. option_map_or (λ name. is_member_of r n name f k) (resource_name r o n) false) (resource_of k) ≡ true → is_label (own_name_of k (text_of f.name)) ≡ true
      go call.Freestanding own member = own
      go call.AsyncFreestanding own member = own
      go (call.Method id) own member = method_label f (takes_self r id.0 f) (resource_name r o id.0) (resource_name_label o id.0) member
      go (call.AsyncMethod id) own member = method_label f (takes_self r id.0 f) (resource_name r o id.0) (resource_name_label o id.0) member
      go (call.Static id) own member = static_label f (resource_name r o id.0) (resource_name_label o id.0) member
      go (call.AsyncStatic id) own member = static_label f (resource_name r o id.0) (resource_name_label o id.0) member
      go (call.Constructor id) own member = refl

-- ---- What is shown of a valid `Resolve`'s declared types is well named.

flags_well : (fs : List Flag) → list_all is_label (map (λ f. text_of f.name) fs) ≡ true → list_all is_well_label (map shown_flag fs) ≡ true
flags_well [] h = refl
flags_well (f ∷ fs) h = search (std_rules, both, docs_well, left_of, right_of, flags_well fs (right_of (is_label (text_of f.name)) _ h))

enum_cases_well : (cs : List EnumCase) → list_all is_label (map (λ c. text_of c.name) cs) ≡ true → list_all is_well_label (map shown_enum_case cs) ≡ true
enum_cases_well [] h = refl
enum_cases_well (c ∷ cs) h = search (std_rules, both, docs_well, left_of, right_of, enum_cases_well cs (right_of (is_label (text_of c.name)) _ h))

-- a function whose numbers are in range, that keeps the rule on labels, and that belongs to what it is a member of
abbrev pub is_known_function : Resolve → TypeOwner → Function → Bool
is_known_function r o f = function_in_range r f && (function_labels f && is_member r o f)

module _ (r : Resolve) (valid : IsValid r) where
  -- ---- members of types

  fields_well : (fs : List Field) → list_all is_label (map (λ f. text_of f.name) fs) ≡ true → list_all (is_below (length r.types.items)) (map (λ f. f.ty) fs) ≡ true
      → list_all is_well_field (map (shown_field r) fs) ≡ true
  fields_well [] h g = refl
  fields_well (f ∷ fs) h g =
      search (std_rules, left_of, is_below, both, docs_well, shown_type_well, right_of, fields_well fs (right_of (is_label (text_of f.name)) _ h) (right_of (is_below (length r.types.items) f.ty) _ g))

  cases_well : (cs : List Case) → list_all is_label (map (λ c. text_of c.name) cs) ≡ true → list_all (λ c. list_all (is_below (length r.types.items)) (option_to_list c.ty)) cs ≡ true
      → list_all is_well_case (map (shown_case r) cs) ≡ true
  cases_well [] h g = refl
  cases_well (c ∷ cs) h g = search (
    std_rules,
    left_of,
    is_below,
    both,
    docs_well,
    optional_type_well,
    right_of,
    cases_well cs (right_of (is_label (text_of c.name)) _ h) (right_of (list_all (is_below (length r.types.items)) (option_to_list c.ty)) _ g),
  )

  -- ---- functions of resources

  constructor_well : (id : TypeId) (result : Option ValueType) → passes is_well_type (option_map (shown_type r) result) ≡ true → passes is_well_type (constructor_result r id result) ≡ true
  constructor_well id x h = search std_rules

  resource_member_well : (o : TypeOwner) (f : Function) → is_known_function r o f ≡ true → is_well_resource_member (shown_resource_member r f) ≡ true
  resource_member_well o f known = grind (arith, function_prefix_well, item_name_well, right_of, signature_well, left_of, both, constructor_well)

  members_well : (o : TypeOwner) (id : TypeId) (fs : List Function) → list_all (is_known_function r o) fs ≡ true
      → list_all is_well_resource_member (map (shown_resource_member r) (filter (belongs_to id) fs)) ≡ true
  members_well o id fs known = kept_well (is_known_function r o) (belongs_to id) (shown_resource_member r) is_well_resource_member (λ f k test. resource_member_well o f k) fs known

  -- ---- declared types

  alias_well : (t : ValueType) → list_all (in_list r.types.items) (option_to_list (number_of t)) ≡ true → is_well_type (shown_type r t) ≡ true
  alias_well t h = search (std_rules, shown_type_well, left_of)

  -- A declared type with a name, among known functions, is shown well.
  pub declared_well : (o : TypeOwner) (functions : List Function) (id : TypeId) (def : TypeDef) → type_at r id.0 ≡ Some def → is_label (present_name def.name) ≡ true
      → list_all (is_known_function r o) functions ≡ true → is_well_declared (shown_declared r functions id def) ≡ true
  unfolding labels numbers_in_range
  declared_well o functions id def at name known =
      go def.kind (left_of _ _ (right_of (is_stability def.stability) _ (right_of (passes (λ s. is_label (text_of s)) def.name) _ (type_rule r valid labels valid.rules.labels id.0 def at))))
      (left_of _ _ (right_of (is_place id.0) _ (type_rule r valid numbers_in_range valid.rules.numbers_in_range id.0 def at)))
      (shape_of r valid id.0 def at) (handled_label r valid id.0 def at) (shown_kind_well r valid id.0 def at)
    where
      go : (k : TypeDefKind) → list_all is_label (kind_labels k) ≡ true → list_all (in_list r.types.items) (kind_numbers k) ≡ true → has_shape k ≡ true
          → passes (λ m. is_label (type_name r (record { 0 = m }))) (handled k) ≡ true → (is_named_kind k ≡ false → is_well_type (kind_tree r (type_trees r) k) ≡ true)
          → is_well_declared (shown_declared r functions id (record def { kind = k })) ≡ true
      go (defined.Record x) l b s h u = both (is_label (present_name def.name)) _ name
          (some_well is_well_field (shown_field r) x.fields.items s (fields_well x.fields.items l (below_of_numbers (length r.types.items) (map (λ f. f.ty) x.fields.items) [] b)))
      go (defined.Flags x) l b s h u = both (is_label (present_name def.name)) _ name (some_well is_well_label shown_flag x.flags.items s (flags_well x.flags.items l))
      go (defined.Variant x) l b s h u =
          let below = below_of_numbers (length r.types.items) (filter_map (λ c. c.ty) x.cases.items) [] b in
          both (is_label (present_name def.name)) _ name (some_well is_well_case (shown_case r) x.cases.items s
          (cases_well x.cases.items l (sym (list_all_filter_map (is_below (length r.types.items)) (λ c. c.ty) x.cases.items) ∙ below)))
      go (defined.Enum x) l b s h u = both (is_label (present_name def.name)) _ name (some_well is_well_label shown_enum_case x.cases.items s (enum_cases_well x.cases.items l))
      go defined.Resource l b s h u = both (is_label (present_name def.name)) _ name (members_well o id functions known)
      go (defined.Handle (handle.Own x)) l b s h u = both (is_label (present_name def.name)) _ name h
      go (defined.Handle (handle.Borrow x)) l b s h u = both (is_label (present_name def.name)) _ name h
      go (defined.Type_ t) l b s h u = both (is_label (present_name def.name)) _ name (alias_well t b)
      go _ l b s h u = both (is_label (present_name def.name)) _ name (u refl)

-- ---- What is shown of a valid `Resolve`'s paths and uses is well named.

-- a use of a named interface, whose names are labels
abbrev pub is_known_use : Resolve → Used → Bool
is_known_use r used = is_named_interface r used.interface.0 && (is_well_prefix used.prefix && are_well_some is_well_used used.names)

abbrev pub is_well_declared_with : DeclaredWith → Bool
is_well_declared_with d = is_well_prefix d.prefix && is_well_declared d.declared

own_name_well : (own other : Text) → is_label own ≡ true → passes is_label (own_name own other) ≡ true
own_name_well own other label = search std_rules

module _ (r : Resolve) (valid : IsValid r) where
  -- ---- paths

  full_path_well : (name : Text) (n : ℕ) (p : Package) → package_at r n ≡ Some p → is_label name ≡ true → is_well_path (full_path name p) ≡ true
  unfolding package_names
  full_path_well name n p e label =
      let named = left_of _ _ (package-passes package_names r valid.rules.package_names n p e) in
      let rest = right_of (is_label (text_of p.name.namespace)) _ named in
      both (is_label (text_of p.name.namespace)) _ (left_of _ _ named) (both (is_label (text_of p.name.name)) _ (left_of _ _ rest)
      (both (is_label name) _ label (optional_version p.name.version (right_of (is_label (text_of p.name.name)) _ rest))))

  path_from_well : (here : PackageId) (i : Interface) → is_label (present_name i.name) ≡ true → is_well_path (path_from r here i) ≡ true
  path_from_well here i label = go i.«package»
    where
      pick : (b : Bool) (p : Option Package) → ((x : Package) → p ≡ Some x → is_well_path (full_path (present_name i.name) x) ≡ true)
          → is_well_path (if b then Local (present_name i.name) else option_map_or (full_path (present_name i.name)) p (Local (present_name i.name))) ≡ true
      pick true p full = label
      pick false None full = label
      pick false (Some x) full = full x refl

      go : (p : Option PackageId) → is_well_path (path_from r here (record i { «package» = p })) ≡ true
      go None = label
      go (Some p) = pick (p.0 == here.0) (package_at r p.0) (λ x e. full_path_well (present_name i.name) p.0 x e label)

  interface_label : (n : ℕ) (i : Interface) → interface_at r n ≡ Some i → is_some i.name ≡ true → is_label (present_name i.name) ≡ true
  unfolding labels
  interface_label n i e named = given_label i.name named (left_of _ _ (interface-passes labels r valid.rules.labels n i e))

  -- A path to a named interface is well named.
  pub path_well : (here : PackageId) (id : InterfaceId) → is_named_interface r id.0 ≡ true → is_well_path (shown_path r here id) ≡ true
  path_well here id named = search (std_rules, path_from_well, interface_label)

  -- So is one from an owner with a package.
  pub owner_path_well : (here : Option PackageId) (id : InterfaceId) → is_some here ≡ true → is_named_interface r id.0 ≡ true → is_well_path (path_from_owner r here id) ≡ true
  owner_path_well x id given named = search (std_rules, path_well)

  -- ---- uses

  module _ (o : TypeOwner) (placed : same_owner o owner.None ≡ false) where
    pub use_known : (own : Text) (n : ℕ) (def : TypeDef) → type_at r n ≡ Some def → same_owner def.owner o ≡ true → is_label own ≡ true → passes (is_known_use r) (used_of r o own def) ≡ true
    unfolding labels named_kinds
    use_known own n def at home label = go def.kind refl
      where
        gates : is_well_prefix (shown_prefix (record { contents = None }) def.stability def.external_id) ≡ true
        gates = shown_prefix_well (record { contents = None }) def.stability def.external_id
            (left_of _ _ (right_of (passes (λ s. is_label (text_of s)) def.name) _ (type_rule r valid labels valid.rules.labels n def at)))

        to_interface : (t : TypeId) (target : TypeDef) (id : InterfaceId) → is_label (present_name target.name) ≡ true → is_named_interface r id.0 ≡ true → is_known_use r (record {
          interface = id;
          prefix = shown_prefix (record { contents = None }) def.stability def.external_id;
          names =
              record { other = present_name target.name; own = own_name own (present_name target.name) } ∷ [];
        }) ≡ true
        to_interface t target id other named =
            let one : is_well_used (record { other = present_name target.name; own = own_name own (present_name target.name) }) ≡ true =
            both (is_label (present_name target.name)) _ other (own_name_well own (present_name target.name) label) in
            both (is_named_interface r id.0) _ named (both (is_well_prefix (shown_prefix (record { contents = None }) def.stability def.external_id)) _ gates (both _ _ refl (both _ _ one refl)))

        by_owner : (t : TypeId) → def.kind ≡ defined.Type_ (value.Id t) → (target : TypeDef) → type_at r t.0 ≡ Some target → is_some target.name ≡ true → (w : TypeOwner) → target.owner ≡ w
            → passes (is_known_use r) (used_of r o own (record def { kind = defined.Type_ (value.Id t) })) ≡ true
        by_owner t alias target there named (owner.World id) its = rw (there, its) refl
        by_owner t alias target there named owner.None its = rw (there, its) refl
        by_owner t alias target there named (owner.Interface id) its = elim (cases_Bool (same_owner o (owner.Interface id))) [
          | inl same ↦ rw (there, its, same) refl
          | inr differs ↦ rw (there, its, differs) (to_interface t target id (name_well r valid t.0 target there named)
              (target_interface_named r valid n def at t alias target there named o placed home id its differs))
        ]

        by_target : (t : TypeId) → def.kind ≡ defined.Type_ (value.Id t) → (d : Option TypeDef) → type_at r t.0 ≡ d → passes (λ target. is_some target.name) d ≡ true
            → passes (is_known_use r) (used_of r o own (record def { kind = defined.Type_ (value.Id t) })) ≡ true
        by_target t alias None there named = rw there refl
        by_target t alias (Some target) there named = by_owner t alias target there named target.owner refl

        target_named : (t : TypeId) → def.kind ≡ defined.Type_ (value.Id t) → passes (λ target. is_some target.name) (type_at r t.0) ≡ true
        target_named t alias = subst (λ a. passes (is_named_number r) a ≡ true) (ap alias_target alias)
            (right_of (not (is_named_kind def.kind) || is_some def.name) _ (type_rule r valid named_kinds valid.rules.named_kinds n def at))

        by_type : (t : ValueType) → def.kind ≡ defined.Type_ t → passes (is_known_use r) (used_of r o own (record def { kind = defined.Type_ t })) ≡ true
        by_type (value.Id t) alias = by_target t alias (type_at r t.0) refl (target_named t alias)
        by_type t alias = refl

        go : (k : TypeDefKind) → def.kind ≡ k → passes (is_known_use r) (used_of r o own (record def { kind = k })) ≡ true
        go (defined.Type_ t) alias = by_type t alias
        go k other = refl

    -- a use joins the group in front of which it stands
    grouped_with_known : (used : Used) (groups : List Used) → is_known_use r used ≡ true → list_all (is_known_use r) groups ≡ true → list_all (is_known_use r) (grouped_with used groups) ≡ true
    grouped_with_known used [] h rest = both (is_known_use r used) _ h refl
    grouped_with_known used (group ∷ groups) h rest = go (same_group used group)
      where
        named : is_named_interface r used.interface.0 ≡ true
        named = left_of _ _ h

        more : (is_well_prefix used.prefix && are_well_some is_well_used used.names) ≡ true
        more = right_of (is_named_interface r used.interface.0) _ h

        others : (is_well_prefix group.prefix && are_well_some is_well_used group.names) ≡ true
        others = right_of (is_named_interface r group.interface.0) _ (left_of (is_known_use r group) _ rest)

        go : (b : Bool) → list_all (is_known_use r) (if b then record used { names = used.names ++ group.names } ∷ groups else used ∷ group ∷ groups) ≡ true
        go true = both (is_known_use r (record used { names = used.names ++ group.names })) _
            (both (is_named_interface r used.interface.0) _ named (both (is_well_prefix used.prefix) _ (left_of _ _ more)
            (joined_some is_well_used used.names group.names (right_of (is_well_prefix used.prefix) _ more) (right_of (is_well_prefix group.prefix) _ others))))
            (right_of (is_known_use r group) _ rest)
        go false = both (is_known_use r used) _ h rest

    grouped_known : (uses : List Used) → list_all (is_known_use r) uses ≡ true → list_all (is_known_use r) (grouped uses) ≡ true
    grouped_known [] h = refl
    grouped_known (used ∷ uses) h = grouped_with_known used (grouped uses) (left_of _ _ h) (grouped_known uses (right_of (is_known_use r used) _ h))

    -- The uses among known types are known.
    pub uses_known : (types : List Listed) → list_all (is_known_listed r o) types ≡ true → list_all (is_known_use r) (shown_uses r o types) ≡ true
    uses_known types h = grouped_known (filter_map (λ listed. option_and_then (used_of r o listed.name) (type_at r listed.id.0)) types)
        (given_well (is_known_listed r o) (λ listed. option_and_then (used_of r o listed.name) (type_at r listed.id.0)) (is_known_use r)
        (λ listed known. one listed known (type_at r listed.id.0) refl (right_of (is_label listed.name) _ known)) types h)
      where
        one : (listed : Listed) → is_known_listed r o listed ≡ true → (d : Option TypeDef) → type_at r listed.id.0 ≡ d → passes (λ def. is_some def.name && same_owner def.owner o) d ≡ true
            → passes (is_known_use r) (option_and_then (used_of r o listed.name) d) ≡ true
        one listed known None e own = refl
        one listed known (Some def) e own = use_known listed.name listed.id.0 def e (right_of (is_some def.name) _ own) (left_of _ _ known)

    -- The other known types are declared, and shown well.
    pub declarations_well : (functions : List Function) (types : List Listed) → list_all (is_known_function r o) functions ≡ true → list_all (is_known_listed r o) types ≡ true
        → list_all is_well_declared_with (shown_declarations r o functions types) ≡ true
    unfolding labels
    declarations_well functions types functions_known h = given_well (is_known_listed r o) (λ listed. option_and_then (declared_with r o functions listed) (type_at r listed.id.0))
        is_well_declared_with (λ listed known. one listed (type_at r listed.id.0) refl (right_of (is_label listed.name) _ known)) types h
      where
        pick : (b : Bool) (d : DeclaredWith) → is_well_declared_with d ≡ true → passes is_well_declared_with (if b then None else Some d) ≡ true
        pick true d h = refl
        pick false d h = h

        one : (listed : Listed) → (d : Option TypeDef) → type_at r listed.id.0 ≡ d → passes (λ def. is_some def.name && same_owner def.owner o) d ≡ true
            → passes is_well_declared_with (option_and_then (declared_with r o functions listed) d) ≡ true
        one listed None e own = refl
        one listed (Some def) e own =
            let gates : is_stability def.stability ≡ true = left_of _ _ (right_of (passes (λ s. is_label (text_of s)) def.name) _ (type_rule r valid labels valid.rules.labels listed.id.0 def e)) in
            pick (is_some (used_of r o listed.name def)) (record { prefix = shown_prefix def.docs def.stability def.external_id; declared = shown_declared r functions listed.id def })
            (both (is_well_prefix (shown_prefix def.docs def.stability def.external_id)) _ (shown_prefix_well def.docs def.stability def.external_id gates)
            (declared_well r valid o functions listed.id def e (name_well r valid listed.id.0 def e (left_of _ _ own)) functions_known))

-- ---- what is shown of a valid `Resolve`'s interfaces is well named

module _ (r : Resolve) (valid : IsValid r) where
  -- ---- functions

  -- A freestanding function's name is a label.
  pub freestanding_label : (f : Function) → function_labels f ≡ true → is_freestanding f.kind ≡ true → is_label (text_of f.name) ≡ true
  freestanding_label f named free = implied (is_freestanding f.kind) (is_label (text_of f.name)) free (left_of _ _ named)

  pub function_well : (o : TypeOwner) (f : Function) → is_known_function r o f ≡ true → is_freestanding f.kind ≡ true → is_well_member (shown_function r f) ≡ true
  function_well o f known free = search (std_rules, left_of, right_of, both, function_prefix_well, freestanding_label, signature_well)

  functions_known : (o : TypeOwner) (es : List (String Global × Function)) → list_all (function_in_range r) (values_of es) ≡ true → list_all function_labels (values_of es) ≡ true
      → list_all (λ e. text_eq (text_of e.0) (text_of e.1.name) && is_member r o e.1) es ≡ true → list_all (is_known_function r o) (map (λ e. e.1) es) ≡ true
  functions_known o [] range named own = refl
  functions_known o (e ∷ es) range named own = search (
    std_rules,
    left_of,
    both,
    right_of,
    functions_known o es (right_of (function_in_range r e.1) _ range) (right_of (function_labels e.1) _ named) (right_of (text_eq (text_of e.0) (text_of e.1.name) && is_member r o e.1) _ own),
  )

  -- ---- what validity says

  pub interface_functions : (n : ℕ) (i : Interface) → interface_at r n ≡ Some i → list_all (is_known_function r (owner.Interface (record { 0 = n }))) (listed_functions i) ≡ true
  unfolding numbers_in_range labels function_names
  interface_functions n i e =
      let range = right_of (passes (in_list r.packages.items) (package_number i.«package»)) _ (right_of (is_place n) _ (interface-passes numbers_in_range r valid.rules.numbers_in_range n i e)) in
      let named = right_of (is_stability i.stability) _ (right_of (passes (λ name. is_label (text_of name)) i.name) _ (interface-passes labels r valid.rules.labels n i e)) in
      functions_known (owner.Interface (record { 0 = n })) i.functions.entries (right_of (list_all (λ id. in_list r.types.items id.0) (values i.types)) _ range) (left_of _ _ named)
      (interface-passes function_names r valid.rules.function_names n i e)

  pub interface_range : (n : ℕ) (i : Interface) → interface_at r n ≡ Some i → list_all (λ e. in_list r.types.items e.1.0) i.types.entries ≡ true
  unfolding numbers_in_range
  interface_range n i e =
      let range = right_of (passes (in_list r.packages.items) (package_number i.«package»)) _ (right_of (is_place n) _ (interface-passes numbers_in_range r valid.rules.numbers_in_range n i e)) in
      sym (list_all-map (λ id. in_list r.types.items id.0) (λ e. e.1) i.types.entries) ∙ left_of _ _ range

  pub interface_types : (n : ℕ) (i : Interface) → interface_at r n ≡ Some i → list_all (is_known_listed r (owner.Interface (record { 0 = n }))) (listed_types i) ≡ true
  unfolding numbers_in_range order_of_types
  interface_types n i e =
      let range = right_of (passes (in_list r.packages.items) (package_number i.«package»)) _ (right_of (is_place n) _ (interface-passes numbers_in_range r valid.rules.numbers_in_range n i e)) in
      listed_known r valid (owner.Interface (record { 0 = n })) i.types.entries (left_of _ _ range) (own_names r valid n i e)
      (left_of _ _ (interface-passes order_of_types r valid.rules.order_of_types n i e))

  pub in_package : (n : ℕ) (i : Interface) → interface_at r n ≡ Some i → is_some i.«package» ≡ true
  unfolding places
  in_package n i e = left_of _ _ (interface-passes places r valid.rules.places n i e)

  -- ---- members

  use_well : (i : Interface) → is_some i.«package» ≡ true → (used : Used) → is_known_use r used ≡ true
      → is_well_member (UseMember used.prefix (path_from_owner r i.«package» used.interface) used.names) ≡ true
  use_well i given used known = search (std_rules, right_of, both, left_of, owner_path_well)

  -- What is shown of an interface is well named.
  pub interface_well : (id : InterfaceId) (i : Interface) → interface_at r id.0 ≡ Some i → list_all is_well_member (shown_interface r id i) ≡ true
  interface_well id i e = joined_well is_well_member (map (λ used. UseMember used.prefix (path_from_owner r i.«package» used.interface) used.names) uses
      ++ map (λ d. TypeMember d.prefix d.declared) declarations) (map (shown_function r) (filter (λ f. is_freestanding f.kind) (listed_functions i)))
      (joined_well is_well_member (map (λ used. UseMember used.prefix (path_from_owner r i.«package» used.interface) used.names) uses) (map (λ d. TypeMember d.prefix d.declared) declarations)
      (each_well (is_known_use r) (λ used. UseMember used.prefix (path_from_owner r i.«package» used.interface) used.names) is_well_member (use_well i (in_package id.0 i e)) uses
      (uses_known r valid (owner.Interface id) refl (listed_types i) (interface_types id.0 i e)))
      (each_well is_well_declared_with (λ d. TypeMember d.prefix d.declared) is_well_member (λ d h. h) declarations
      (declarations_well r valid (owner.Interface id) refl (listed_functions i) (listed_types i) (interface_functions id.0 i e) (interface_types id.0 i e))))
      (kept_well (is_known_function r (owner.Interface id)) (λ f. is_freestanding f.kind) (shown_function r) is_well_member (function_well (owner.Interface id)) (listed_functions i)
      (interface_functions id.0 i e))
    where
      uses : List Used
      uses = shown_uses r (owner.Interface id) (listed_types i)

      declarations : List DeclaredWith
      declarations = shown_declarations r (owner.Interface id) (listed_functions i) (listed_types i)
