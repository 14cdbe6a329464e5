-- What the rules ask of a type, of a function and of an entry of a world holds of its copy.
use Rattle.std.proofs.Common.{arith, rules as std_rules, ◌≡◌, refl, sym, ap, ◌∙◌, ℕ, Bool, true, false, ◌&&◌, ◌||◌, not, nat_lt, nat_le, List, map, Option, Some, None, option_map, option_to_list, is_some, filter_map, [], ◌∷◌, ◌++◌, is_none, slice_get}
use Rattle.std.proofs.lemmas.{Bool.lt-ltb, Bool.and_from as both, List.Folds.list_all-map, List.Folds.list_all-append, Option.slice_get_within, Simd.map-map, List.map-append}
use Rattle.std.specs.{Prelude.String, Prelude.◌^◌, Prelude.codes, List.list_all, List.flat_map, Option.option_map_or}
use Rattle.std.specs.declared.alloc.Global.{Global}
use Rattle.semver.specs.declared.Version.{Version}
use Rattle.semver.specs.{Identifiers.parts_of, Grammar.is_pre_release, Grammar.is_build}
use Rattle.wit_model.specs.declared.model.{Resolve.Resolve, TypeOwner.TypeOwner, «Type».«Type» as ValueType, TypeDefKind.TypeDefKind, FunctionKind.FunctionKind, Stability.Stability, TypeDef.TypeDef, Function.Function, Param.Param, WorldKey.WorldKey, WorldItem.WorldItem}
use Rattle.wit_model.specs.{Text.text_of, Text.optional_text, Text.Text, Text.text_eq, Uses.alias_target, Uses.owner_interface, Names.is_label, Names.is_version, Types.number_of, Checks.references, Lookup.type_at, Lookup.interface_at, Lookup.resource_of, Tree.levels}
use Rattle.wit_model.specs.Parts.{kind_numbers, member_types, handled, met_by, met_of, is_resource, is_resource_type, same_owner, has_owner, used_by_type, function_types, function_numbers, used_by_values, used_by_function}
use Rattle.wit_model.specs.Rules.{passes, is_stability, are_member_labels, is_named_kind, is_named_number, is_shallow, is_use, in_list, is_freestanding, function_labels, function_stays, function_in_range, resource_name, is_own_of, is_borrow_of, type_is, is_result_of_own, constructs, takes_self, is_member_of, is_member, text_is, key_in_range, item_in_range, key_label, item_labels, is_name_key, is_interface_key, is_own_type, import_stands, export_stands}
use Rattle.wit_model.specs.Valid.{Keeps, KeepsRules, labels, owners, shapes, named_kinds, handles, depths, as_world, item_function}
use Rattle.wit_model.proofs.{Lists.list_all_filter_map, TextLemmas.some_alike as named_alike, PartsLemmas.owner_itself, PartsLemmas.owner_same as owner_equal, ValidLemmas.type_passes}
use Rattle.bind_union.specs.{Views.renamed_type, Views.kind_view, Images.HasImageKind, Joined.Joined, Joined.none, Joined.met, Joined.added}
use Rattle.bind_union.specs.Carried.{Renumbering, StabilityView, unknown, stable, unstable, stability_view, owner_under, carries_owner, copies_owner, IsType, IsTypeCopy, IsCarried, call_under, IsFunctionCopy, KeyBecomes, ItemBecomes, EntryBecomes}
use Rattle.bind_union.proofs.{Lists.no_true, Carrying.kind_carried, Carrying.type_tree_same, Carrying.used_same}
use Rattle.bind_union.proofs.ViewTests.{types_same, handled_same, alias_same, labels_same, shape_same, named_same, numbers_same, view_ok, ok_by_view, ok_under, own_kept, borrow_kept, numbers_under, number_under, one_given}
use Rattle.bind_union.proofs.Homes.{alias_of_all, handled_of_all, members_of_all, resource_same_at, resource_type_same, owner_stays, owner_apart, alias_there, all_given}
use Rattle.base_lemmas.proofs.{Bools.left_of as first_true, Bools.right_of as second_true, Elements.all_two, Lists.heads_equal, Numbers.equal, Numbers.same-number}
use Rattle.wit_model.specs.declared.model.TypeOwner.TheVariants as owner
use Rattle.bind_union.proofs.Homes as homes
use Rattle.wit_model.specs.declared.model.WorldKey.TheVariants as key
use Rattle.wit_model.specs.declared.model.WorldItem.TheVariants as item

-- ---- texts

pub label_alike : (a b : Option (String Global)) → optional_text a ≡ optional_text b → passes (λ name. is_label (text_of name)) a ≡ passes (λ name. is_label (text_of name)) b
label_alike a b e = search std_rules

abbrev pub are_parts : ℕ × ℕ × ℕ × List ℕ × List ℕ → Bool
are_parts p = nat_lt p.0 (2 ^ 64) && (nat_lt p.1 (2 ^ 64) && (nat_lt p.2 (2 ^ 64) && (is_pre_release p.3 && is_build p.4)))

pub version_alike : (v : Option Version) → passes is_version v ≡ passes are_parts (option_map parts_of v)
version_alike x = search std_rules

abbrev is_stable_view : StabilityView → Bool
is_stable_view unknown = true
is_stable_view (stable since deprecated) = are_parts since && passes are_parts deprecated
is_stable_view (unstable feature deprecated) = is_label feature && passes are_parts deprecated

stability_by_view : (s : Stability) → is_stability s ≡ is_stable_view (stability_view s)
stability_by_view x = search std_rules

pub stability_alike : (a b : Stability) → stability_view a ≡ stability_view b → is_stability a ≡ is_stability b
stability_alike a b e = stability_by_view a ∙ (ap is_stable_view e ∙ sym (stability_by_view b))

-- ---- the rules of the other

-- ---- kinds of functions

pub resource_under : (f : Renumbering) (k : FunctionKind) → resource_of (call_under f k) ≡ option_map f.types (resource_of k)
resource_under f x = search std_rules

pub freestanding_under : (f : Renumbering) (k : FunctionKind) → is_freestanding (call_under f k) ≡ is_freestanding k
freestanding_under f x = search std_rules

-- ---- types in a result

ok_of_all : (p : ℕ → Bool) (k : TypeDefKind) → list_all p (filter_map number_of (member_types k)) ≡ true → passes (λ t. list_all p (option_to_list (number_of t))) (view_ok (kind_view k)) ≡ true
ok_of_all p y h = search std_rules

none_alike : (a b : Option (String Global)) → optional_text a ≡ optional_text b → b ≡ None → is_none a ≡ true
none_alike x b e h = search std_rules

-- what each entry passes, what is added passes
pub added_pass : (f : Renumbering) (own : List (WorldKey × WorldItem)) (p q : WorldKey × WorldItem → Bool) → ((a b : WorldKey × WorldItem) → EntryBecomes f a b → p a ≡ true → q b ≡ true)
    → (olds news : List (WorldKey × WorldItem)) → Joined f own olds news → list_all p olds ≡ true → list_all q news ≡ true
added_pass f own p q one _ _ none h = refl
added_pass f own p q one _ _ (met old there olds news c k i rest) h = added_pass f own p q one olds news rest (second_true (p old) _ h)
added_pass f own p q one _ _ (added old new olds news n z rest) h = both _ _ (one old new z (first_true _ _ h)) (added_pass f own p q one olds news rest (second_true (p old) _ h))

pub text_alike : (a b : Option (String Global)) (t : Text) → optional_text a ≡ optional_text b → text_is a t ≡ text_is b t
text_alike a b t e = search std_rules

pub unowned : (f : Renumbering) (o : TypeOwner) → same_owner (owner_under f o) owner.None ≡ same_owner o owner.None
unowned f x = search std_rules

pub passes_under : (f : ℕ → ℕ) (c p q : ℕ → Bool) → ((m : ℕ) → c m ≡ true → p m ≡ true → q (f m) ≡ true) → (o : Option ℕ) → passes c o ≡ true → passes p o ≡ true → passes q (option_map f o) ≡ true
passes_under f c p q one x d h = search std_rules

weaker : (a b c d x y z w : Bool) → (a ≡ true → x ≡ true) → (b ≡ true → y ≡ true) → (c ≡ true → z ≡ true) → (a ≡ false → d ≡ true → w ≡ true)
    → (a || (b || (c && d))) ≡ true → (x || (y || (z && w))) ≡ true
weaker x y z w a b c d p q u v h = search std_rules

either_passes : (a b c d : Bool) → (a ≡ true → c ≡ true) → (b ≡ true → d ≡ true) → (a || b) ≡ true → (c || d) ≡ true
either_passes x y c d p q h = search std_rules

module _ (r s : Resolve) (f : Renumbering) (valid : KeepsRules r) (is : IsCarried r s f) (below_s : Keeps references s) where
  -- what is asked of each type of a value
  pub values_pass : (p q : ValueType → Bool) → ((t : ValueType) → list_all f.carries_type (option_to_list (number_of t)) ≡ true → p t ≡ true → q (renamed_type f.types t) ≡ true)
      → (ts : List ValueType) → list_all f.carries_type (filter_map number_of ts) ≡ true → list_all p ts ≡ true → list_all q (map (renamed_type f.types) ts) ≡ true
  values_pass p q one ts c h = search (std_rules, list_all-map, all_two, list_all_filter_map)

  pub no_resource_passes : (t : ValueType) → list_all f.carries_type (option_to_list (number_of t)) ≡ true → not (is_resource_type r t) ≡ true
      → not (is_resource_type s (renamed_type f.types t)) ≡ true
  no_resource_passes t c h = ap not (resource_type_same r s f valid is below_s t c) ∙ h

  pub shallow_passes : (t : ValueType) → list_all f.carries_type (option_to_list (number_of t)) ≡ true → is_shallow r t ≡ true → is_shallow s (renamed_type f.types t) ≡ true
  shallow_passes t c h = ap (λ tree. nat_le (levels tree) 100) (type_tree_same r s f valid is below_s t c) ∙ h

  named_number : (m : ℕ) → f.carries_type m ≡ true → is_named_number r m ≡ true → is_named_number s (f.types m) ≡ true
  named_number m c h = search std_rules

  pub all_owned : (o : TypeOwner) (ns : List ℕ) → list_all f.carries_type ns ≡ true → list_all (has_owner r o) ns ≡ true → list_all (has_owner s (owner_under f o)) (map f.types ns) ≡ true
  all_owned o ns c h = search (std_rules, list_all-map, all_two, owner_stays)

  module _ (n : ℕ) (copy : f.copies_type n ≡ true) where
    abbrev t : IsType r s f n
    t = is.types n (is.copied_types n copy)

    abbrev k : IsTypeCopy f t.def t.image
    k = t.copied copy

    parts : list_all f.carries_type (kind_numbers t.def.kind) ≡ true
    parts = kind_carried r s f valid is below_s t.def t.image k.kind

    values : list_all f.carries_type (filter_map number_of (member_types t.def.kind)) ≡ true
    values = members_of_all f.carries_type t.def.kind parts

    -- shapes
    pub shape_passes : shapes.type_ s (f.types n) t.image ≡ true
    unfolding shapes
    shape_passes = shape_same f.types t.def.kind t.image.kind k.kind.kinds ∙ type_passes shapes r valid.shapes n t.def t.found

    -- named kinds
    pub named_passes : named_kinds.type_ s (f.types n) t.image ≡ true
    unfolding named_kinds
    named_passes =
        let old : ((not (is_named_kind t.def.kind) || is_some t.def.name) && passes (is_named_number r) (alias_target t.def.kind)) ≡ true =
        type_passes named_kinds r valid.named_kinds n t.def t.found in
        both _ _ ((λ i. not (named_same f.types t.def.kind t.image.kind k.kind.kinds i) || named_alike t.image.name t.def.name t.name i) ∙ first_true _ _ old)
        (ap (passes (is_named_number s)) (alias_same f.types t.def.kind t.image.kind k.kind.kinds)
        ∙ passes_under f.types f.carries_type (is_named_number r) (is_named_number s) named_number (alias_target t.def.kind) (alias_of_all f.carries_type t.def.kind parts)
        (second_true (not (is_named_kind t.def.kind) || is_some t.def.name) _ old))

    -- handles
    pub handle_passes : handles.type_ s (f.types n) t.image ≡ true
    unfolding handles
    handle_passes =
        let old : (list_all (λ x. not (is_resource_type r x)) (member_types t.def.kind) && passes (is_resource r) (handled t.def.kind)) ≡ true = type_passes handles r valid.handles n t.def t.found in
        both _ _ (ap (list_all (λ x. not (is_resource_type s x))) (types_same f.types t.def.kind t.image.kind k.kind.kinds)
        ∙ values_pass (λ x. not (is_resource_type r x)) (λ x. not (is_resource_type s x)) no_resource_passes (member_types t.def.kind) values (first_true _ _ old))
        (ap (passes (is_resource s)) (handled_same f.types t.def.kind t.image.kind k.kind.kinds)
        ∙ passes_under f.types f.carries_type (is_resource r) (is_resource s) (λ m c h. resource_same_at r s f valid is below_s m c ∙ h) (handled t.def.kind)
        (handled_of_all f.carries_type t.def.kind parts) (second_true (list_all (λ x. not (is_resource_type r x)) (member_types t.def.kind)) _ old))

    -- depths
    pub depth_passes : depths.type_ s (f.types n) t.image ≡ true
    unfolding depths
    depth_passes = ap (list_all (is_shallow s)) (types_same f.types t.def.kind t.image.kind k.kind.kinds)
        ∙ values_pass (is_shallow r) (is_shallow s) shallow_passes (member_types t.def.kind) values (type_passes depths r valid.depths n t.def t.found)

    -- labels
    pub label_passes : labels.type_ s (f.types n) t.image ≡ true
    unfolding labels
    label_passes = (λ i. label_alike t.image.name t.def.name t.name i && (stability_alike t.image.stability t.def.stability k.stability i
        && are_member_labels (labels_same f.types t.def.kind t.image.kind k.kind.kinds i))) ∙ type_passes labels r valid.labels n t.def t.found

    -- owners
    pub used : list_all f.carries_type (used_by_type r t.def) ≡ true
    used = (used_same r s f valid is below_s (kind_numbers t.def.kind) parts).1

    pub used_there : used_by_type s t.image ≡ map f.types (used_by_type r t.def)
    used_there = ap (flat_map (met_by (met_of s))) (numbers_same f.types t.def.kind t.image.kind k.kind.kinds) ∙ (used_same r s f valid is below_s (kind_numbers t.def.kind) parts).0

    -- an owner that is not alone is none
    copied_alone : (o : TypeOwner) → copies_owner f o ≡ true → same_owner o owner.None ≡ false → homes.alone r s f valid is below_s o ≡ true
    copied_alone x c h = search std_rules

    abbrev is_named_interface : Resolve → Option ℕ → Bool
    is_named_interface r o = option_map_or (λ i. option_map_or (λ other. is_some other.name) (interface_at r i) false) o false

    named_interface : (o : TypeOwner) → carries_owner f o ≡ true → is_named_interface r (owner_interface o) ≡ true → is_named_interface s (owner_interface (owner_under f o)) ≡ true
    named_interface y c h = search std_rules

    negated : (a b : Bool) → (a ≡ true → b ≡ true) → not b ≡ true → not a ≡ true
    negated x b h e = search std_rules

    use_passes : same_owner t.def.owner owner.None ≡ false → is_use r t.def ≡ true → is_use s t.image ≡ true
    use_passes owned h = ap (λ o. option_map_or (λ m. option_map_or (λ target. not (same_owner target.owner t.image.owner) && is_named_interface s (owner_interface target.owner)) (type_at s m) false)
        o false) (alias_same f.types t.def.kind t.image.kind k.kind.kinds) ∙ target (alias_target t.def.kind) (alias_of_all f.carries_type t.def.kind parts) h
      where
        target : (o : Option ℕ) → passes f.carries_type o ≡ true
            → option_map_or (λ m. option_map_or (λ target. not (same_owner target.owner t.def.owner) && is_named_interface r (owner_interface target.owner)) (type_at r m) false) o false ≡ true
            → option_map_or (λ m. option_map_or (λ target. not (same_owner target.owner t.image.owner) && is_named_interface s (owner_interface target.owner)) (type_at s m) false)
            (option_map f.types o) false ≡ true
        target None c h = h
        target (Some m) c h =
            let u = is.types m c in
            let old : (not (same_owner u.def.owner t.def.owner) && is_named_interface r (owner_interface u.def.owner)) ≡ true =
            sym (ap (λ x. option_map_or (λ target. not (same_owner target.owner t.def.owner) && is_named_interface r (owner_interface target.owner)) x false) u.found) ∙ h in
            ap (λ x. option_map_or (λ target. not (same_owner target.owner t.image.owner) && is_named_interface s (owner_interface target.owner)) x false) u.at_image
            ∙ both _ _ ((λ i. not (same_owner (u.home i) (t.home i))) ∙ negated (same_owner (owner_under f u.def.owner) (owner_under f t.def.owner)) (same_owner u.def.owner t.def.owner)
            (owner_apart r s f valid is below_s t.def.owner u.def.owner u.carries_home (copied_alone t.def.owner k.home owned)) (first_true _ _ old))
            (ap (λ x. is_named_interface s (owner_interface x)) u.home ∙ named_interface u.def.owner u.carries_home (second_true (not (same_owner u.def.owner t.def.owner)) _ old))

    pub stay_passes : owners.type_ s (f.types n) t.image ≡ true
    unfolding owners
    stay_passes = weaker (same_owner t.def.owner owner.None) (list_all (has_owner r t.def.owner) (used_by_type r t.def)) (is_some t.def.name) (is_use r t.def) (same_owner t.image.owner owner.None)
        (list_all (has_owner s t.image.owner) (used_by_type s t.image)) (is_some t.image.name) (is_use s t.image) (λ h. ap (λ o. same_owner o owner.None) t.home ∙ (unowned f t.def.owner ∙ h))
        (λ h. (λ i. list_all (has_owner s (t.home i)) (used_there i)) ∙ all_owned t.def.owner (used_by_type r t.def) used h) (λ h. named_alike t.image.name t.def.name t.name ∙ h) use_passes
        (type_passes owners r valid.owners n t.def t.found)

  -- an unnamed type is copied
  unnamed_kind : (n : ℕ) (t : IsType r s f n) → is_none t.def.name ≡ true → (is_none t.image.name ≡ true) × HasImageKind f.types f.carries_type t.def t.image
  unnamed_kind n t h = search std_rules

  type_is_there : (p q : TypeDef → Bool) → ((n : ℕ) (t : IsType r s f n) → p t.def ≡ true → q t.image ≡ true)
      → (x : ValueType) → list_all f.carries_type (option_to_list (number_of x)) ≡ true → type_is r p x ≡ true → type_is s q (renamed_type f.types x) ≡ true
  type_is_there p q one x c h = ap (λ o. option_map_or (λ n. option_map_or q (type_at s n) false) o false) (number_under f.types x) ∙ go (number_of x) c h
    where
      go : (o : Option ℕ) → list_all f.carries_type (option_to_list o) ≡ true → option_map_or (λ n. option_map_or p (type_at r n) false) o false ≡ true
          → option_map_or (λ n. option_map_or q (type_at s n) false) (option_map f.types o) false ≡ true
      go None c h = h
      go (Some n) c h =
          let t = is.types n (first_true _ _ c) in
          ap (λ d. option_map_or q d false) t.at_image ∙ one n t (sym (ap (λ d. option_map_or p d false) t.found) ∙ h)

  own_there : (m n : ℕ) (t : IsType r s f n) → is_own_of m t.def ≡ true → is_own_of (f.types m) t.image ≡ true
  own_there m n t h = search (std_rules, unnamed_kind, first_true, both, own_kept, second_true)

  borrow_there : (m n : ℕ) (t : IsType r s f n) → is_borrow_of m t.def ≡ true → is_borrow_of (f.types m) t.image ≡ true
  borrow_there m n t h = search (std_rules, unnamed_kind, first_true, both, borrow_kept, second_true)

  result_there : (m n : ℕ) (t : IsType r s f n) → is_result_of_own r m t.def ≡ true → is_result_of_own s (f.types m) t.image ≡ true
  result_there m n t h =
      let u = unnamed_kind n t (first_true _ _ h) in
      both _ _ u.0 (ok_by_view s (f.types m) t.image.kind ∙ (ap (λ v. option_map_or (type_is s (is_own_of (f.types m))) (view_ok v) false) u.1.kinds
      ∙ (ap (λ o. option_map_or (type_is s (is_own_of (f.types m))) o false) (ok_under f.types (kind_view t.def.kind))
      ∙ go (view_ok (kind_view t.def.kind)) (ok_of_all f.carries_type t.def.kind (members_of_all f.carries_type t.def.kind (kind_carried r s f valid is below_s t.def t.image u.1)))
      (sym (ok_by_view r m t.def.kind) ∙ second_true (is_none t.def.name) _ h))))
    where
      go : (o : Option ValueType) → passes (λ t. list_all f.carries_type (option_to_list (number_of t))) o ≡ true → option_map_or (type_is r (is_own_of m)) o false ≡ true
          → option_map_or (type_is s (is_own_of (f.types m))) (option_map (renamed_type f.types) o) false ≡ true
      go None c h = h
      go (Some x) c h = type_is_there (is_own_of m) (is_own_of (f.types m)) (own_there m) x c h

  -- the name of a resource
  pub resource_named : (o : TypeOwner) (n : ℕ) → f.carries_type n ≡ true → (name : Text) → resource_name r o n ≡ Some name → resource_name s (owner_under f o) (f.types n) ≡ Some name
  resource_named o n c name h = search (std_rules, alias_there, owner_equal, owner_itself)

  module _ (g h : Function) (c : IsFunctionCopy f g h) where
    types_there : function_types h ≡ map (renamed_type f.types) (function_types g)
    types_there = (λ i. params i ++ (ap option_to_list c.result ∙ one_given (renamed_type f.types) g.result) i)
        ∙ sym (map-append (renamed_type f.types) (map (λ p. p.ty) g.params.items) (option_to_list g.result))
      where
        params : map (λ p. p.ty) h.params.items ≡ map (renamed_type f.types) (map (λ p. p.ty) g.params.items)
        params = simp map-map (simp map-map at (ap (map (λ (x : Text × ValueType). x.1)) c.params))

    names_there : map (λ p. text_of p.name) h.params.items ≡ map (λ p. text_of p.name) g.params.items
    names_there = simp map-map at (ap (map (λ (x : Text × ValueType). x.0)) c.params)

    values_carried : list_all f.carries_type (filter_map number_of (function_types g)) ≡ true
    values_carried = first_true _ _ (sym (list_all-append f.carries_type (filter_map number_of (function_types g)) (option_to_list (resource_of g.kind))) ∙ c.parts)

    pub resource_carried : passes f.carries_type (resource_of g.kind) ≡ true
    resource_carried = search (std_rules, all_given, second_true, list_all-append, parts)

    pub function_numbers_there : function_numbers h ≡ map f.types (function_numbers g)
    function_numbers_there = search (std_rules, types_there, numbers_under, resource_under, one_given, map-append)

    -- numbers in range
    pub function_range_passes : function_in_range s h ≡ true
    function_range_passes = ap (list_all (in_list s.types.items)) function_numbers_there
        ∙ (list_all-map (in_list s.types.items) f.types (function_numbers g)
        ∙ all_two f.carries_type f.carries_type (λ n. in_list s.types.items (f.types n)) (λ n d e. let t = is.types n d in lt-ltb _ _ (slice_get_within s.types.items (f.types n) t.image t.at_image))
        (function_numbers g) c.parts c.parts)

    -- labels
    pub function_labels_same : function_labels h ≡ function_labels g
    function_labels_same = search (std_rules, freestanding_under, names_there, stability_alike)

    -- owners
    pub function_stays_passes : (o : TypeOwner) → function_stays r o g ≡ true → function_stays s (owner_under f o) h ≡ true
    function_stays_passes o old =
        let used = used_same r s f valid is below_s (filter_map number_of (function_types g)) values_carried in
        ap (list_all (has_owner s (owner_under f o))) (ap (flat_map (met_by (met_of s))) (ap (filter_map number_of) types_there ∙ numbers_under f.types (function_types g)) ∙ used.0)
        ∙ all_owned o (used_by_values r g) used.1 old

    -- all that it uses
    pub function_uses : (used_by_function s h ≡ map f.types (used_by_function r g)) × (list_all f.carries_type (used_by_function r g) ≡ true)
    function_uses = search (std_rules, used_same r s f valid is below_s (function_numbers g) c.parts, function_numbers_there)

    -- handles
    pub function_handles_pass : list_all (λ t. not (is_resource_type r t)) (function_types g) ≡ true → list_all (λ t. not (is_resource_type s t)) (function_types h) ≡ true
    function_handles_pass old = search (std_rules, types_there, values_pass, no_resource_passes, values_carried)

    -- depths
    pub function_depths_pass : list_all (is_shallow r) (function_types g) ≡ true → list_all (is_shallow s) (function_types h) ≡ true
    function_depths_pass old = search (std_rules, types_there, values_pass, shallow_passes, values_carried)

    -- function names
    abbrev given : ValueType → Bool
    given t = list_all f.carries_type (option_to_list (number_of t))

    -- the types of the parameters, and of the result
    pub given_values : (list_all given (map (λ p. p.ty) g.params.items) ≡ true) × (list_all given (option_to_list g.result) ≡ true)
    given_values =
        let all = sym (list_all-append given (map (λ p. p.ty) g.params.items) (option_to_list g.result)) ∙ (sym (list_all_filter_map f.carries_type number_of (function_types g)) ∙ values_carried) in
        (first_true _ _ all, second_true (list_all given (map (λ p. p.ty) g.params.items)) _ all)

    constructs_there : (n : ℕ) → constructs r n g ≡ true → constructs s (f.types n) h ≡ true
    constructs_there n old = ap (λ o. option_map_or (λ t. type_is s (is_own_of (f.types n)) t || type_is s (is_result_of_own s (f.types n)) t) o false) c.result ∙ go g.result given_values.1 old
      where
        go : (o : Option ValueType) → list_all given (option_to_list o) ≡ true → option_map_or (λ t. type_is r (is_own_of n) t || type_is r (is_result_of_own r n) t) o false ≡ true
            → option_map_or (λ t. type_is s (is_own_of (f.types n)) t || type_is s (is_result_of_own s (f.types n)) t) (option_map (renamed_type f.types) o) false ≡ true
        go None d e = e
        go (Some x) d e = either_passes _ _ _ _ (type_is_there (is_own_of n) (is_own_of (f.types n)) (own_there n) x (first_true _ _ d))
            (type_is_there (is_result_of_own r n) (is_result_of_own s (f.types n)) (result_there n) x (first_true _ _ d)) e

    self_there : (n : ℕ) → takes_self r n g ≡ true → takes_self s (f.types n) h ≡ true
    self_there n old = go g.params.items h.params.items c.params given_values.0 old
      where
        go : (ps qs : List Param) → ◌≡◌ {A = List (Text × ValueType)} (map (λ p. (text_of p.name, p.ty)) qs) (map (λ p. (text_of p.name, renamed_type f.types p.ty)) ps)
            → list_all given (map (λ p. p.ty) ps) ≡ true → option_map_or (λ p. text_eq (text_of p.name) (codes "self") && type_is r (is_borrow_of n) p.ty) (slice_get ps 0) false ≡ true
            → option_map_or (λ p. text_eq (text_of p.name) (codes "self") && type_is s (is_borrow_of (f.types n)) p.ty) (slice_get qs 0) false ≡ true
        go [] qs same d e = no_true e
        go (p ∷ ps) [] same d e = absurd cc
        go (p ∷ ps) (q ∷ qs) same d e =
            let one = heads_equal _ _ _ _ same in
            (λ i. text_eq (one i).0 (codes "self") && type_is s (is_borrow_of (f.types n)) (one i).1)
            ∙ both _ _ (first_true _ _ e) (type_is_there (is_borrow_of n) (is_borrow_of (f.types n)) (borrow_there n) p.ty (first_true _ _ d)
            (second_true (text_eq (text_of p.name) (codes "self")) _ e))

    pub member_passes : (o : TypeOwner) → is_member r o g ≡ true → is_member s (owner_under f o) h ≡ true
    member_passes o old = ap (passes (λ n. option_map_or (λ name. is_member_of s n name h h.kind) (resource_name s (owner_under f o) n) false)) (ap resource_of c.kind ∙ resource_under f g.kind)
        ∙ passes_under f.types f.carries_type (λ n. option_map_or (λ name. is_member_of r n name g g.kind) (resource_name r o n) false)
        (λ n. option_map_or (λ name. is_member_of s n name h h.kind) (resource_name s (owner_under f o) n) false)
        (λ n d. named n d (resource_name r o n) refl) (resource_of g.kind) resource_carried old
      where
        of : (n : ℕ) (name : Text) (k : FunctionKind) → is_member_of r n name g k ≡ true → is_member_of s (f.types n) name h (call_under f k) ≡ true
        of n name x e = search (std_rules, both, first_true, self_there, second_true, constructs_there)

        named : (n : ℕ) → f.carries_type n ≡ true → (x : Option Text) → resource_name r o n ≡ x → option_map_or (λ name. is_member_of r n name g g.kind) x false ≡ true
            → option_map_or (λ name. is_member_of s (f.types n) name h h.kind) (resource_name s (owner_under f o) (f.types n)) false ≡ true
        named n d None e old = no_true old
        named n d (Some name) e old = search (std_rules, resource_named o n d name e, of n name g.kind old)

  interface_there : (n : ℕ) → f.carries_interface n ≡ true → in_list s.interfaces.items (f.interfaces n) ≡ true
  interface_there n c = let i = is.interfaces n c in lt-ltb _ _ (slice_get_within s.interfaces.items (f.interfaces n) i.image i.at_image)

  -- numbers in range
  key_range : (k l : WorldKey) → KeyBecomes f k l → key_in_range s l ≡ true
  key_range x y z = search (std_rules, interface_there)

  item_range : (i j : WorldItem) → ItemBecomes f i j → item_in_range s j ≡ true
  item_range (item.Interface a st docs ext) (item.Interface b st2 docs2 ext2) z = ap (in_list s.interfaces.items) z.0 ∙ interface_there a.0 z.1
  item_range (item.Function g) (item.Function h) z = function_range_passes g h z
  item_range (item.Type_ a) (item.Type_ b) z = grind (arith, lt-ltb, slice_get_within)
  item_range _ _ z = absurd z

  pub entry_range : (a b : WorldKey × WorldItem) → EntryBecomes f a b → true ≡ true → (key_in_range s b.0 && item_in_range s b.1) ≡ true
  entry_range a b z h = both _ _ (key_range a.0 b.0 z.0) (item_range a.1 b.1 z.1)

  -- labels
  key_label_passes : (k l : WorldKey) (i j : WorldItem) → KeyBecomes f k l → ItemBecomes f i j → key_label k i ≡ true → key_label l j ≡ true
  key_label_passes x u i j z y h = search std_rules

  item_labels_pass : (i j : WorldItem) → ItemBecomes f i j → item_labels i ≡ true → item_labels j ≡ true
  item_labels_pass (item.Interface a st docs ext) (item.Interface b st2 docs2 ext2) z h = stability_alike st2 st z.2 ∙ h
  item_labels_pass (item.Function g) (item.Function k) z h = function_labels_same g k z ∙ h
  item_labels_pass (item.Type_ a) (item.Type_ b) z h = refl
  item_labels_pass _ _ z e = absurd z

  pub entry_labels : (a b : WorldKey × WorldItem) → EntryBecomes f a b → (key_label a.0 a.1 && item_labels a.1) ≡ true → (key_label b.0 b.1 && item_labels b.1) ≡ true
  entry_labels a b z h = both _ _ (key_label_passes a.0 b.0 a.1 b.1 z.0 z.1 (first_true _ _ h)) (item_labels_pass a.1 b.1 z.1 (second_true (key_label a.0 a.1) _ h))

  -- what is asked of a function
  pub entry_function : (p q : Function → Bool) → ((g h : Function) → IsFunctionCopy f g h → p g ≡ true → q h ≡ true) → (i j : WorldItem) → ItemBecomes f i j
      → list_all p (option_to_list (item_function i)) ≡ true → list_all q (option_to_list (item_function j)) ≡ true
  entry_function p q one x y z e = search std_rules

  -- function names
  name_key_passes : (s t : Text) → t ≡ s → (k l : WorldKey) → KeyBecomes f k l → is_name_key s k ≡ true → is_name_key t l ≡ true
  name_key_passes s t e x y z h = search std_rules

  pub entry_member : (n : ℕ) → (a b : WorldKey × WorldItem) → EntryBecomes f a b → passes (λ g. is_name_key (text_of g.name) a.0 && is_member r (as_world n) g) (item_function a.1) ≡ true
      → passes (λ g. is_name_key (text_of g.name) b.0 && is_member s (as_world (f.worlds n)) g) (item_function b.1) ≡ true
  entry_member n (k, item.Function g) (l, item.Function h) z e = both _ _ (name_key_passes (text_of g.name) (text_of h.name) z.1.name k l z.0 (first_true _ _ e))
      (member_passes g h z.1 (as_world n) (second_true (is_name_key (text_of g.name) k) _ e))
  entry_member n (k, item.Interface a st docs ext) (l, item.Interface b st2 docs2 ext2) z e = refl
  entry_member n (k, item.Type_ a) (l, item.Type_ b) z e = refl
  entry_member n _ _ z e = absurd z.1

  -- world items
  interface_key_passes : (m k : ℕ) → k ≡ f.interfaces m → f.carries_interface m ≡ true → (i j : WorldItem) → ItemBecomes f i j → is_interface_key r m i ≡ true → is_interface_key s k j ≡ true
  interface_key_passes m k e c i j z h = search (std_rules, both, first_true, named_alike, second_true, equal, same-number, no_true)

  own_type_passes : (n : ℕ) (a b : String Global) → text_of b ≡ text_of a → (m k : ℕ) → k ≡ f.types m → f.copies_type m ≡ true → is_own_type r n (key.Name a) m ≡ true
      → is_own_type s (f.worlds n) (key.Name b) k ≡ true
  own_type_passes n a b same m k e c h = search (std_rules, both, text_alike, first_true, owner_equal, second_true, owner_itself)

  pub entry_import_stands : (n : ℕ) → (a b : WorldKey × WorldItem) → EntryBecomes f a b → import_stands r n a.0 a.1 ≡ true → import_stands s (f.worlds n) b.0 b.1 ≡ true
  entry_import_stands n x y z h = search (std_rules, interface_key_passes, own_type_passes)

  pub entry_export_stands : (a b : WorldKey × WorldItem) → EntryBecomes f a b → export_stands r a.0 a.1 ≡ true → export_stands s b.0 b.1 ≡ true
  entry_export_stands x y z h = search (std_rules, interface_key_passes, freestanding_under, no_true)
