-- The types of an owner, as parts of others: the names in them are of the owner's place.
use Rattle.std.proofs.Common.{rules as std_rules, ◌≡◌, refl, sym, subst, ap, ◌∙◌, ℕ, zero, suc, ◌<◌, Bool, true, false, not, ◌&&◌, ◌||◌, nat_lt, nat_le, List, map, length, unwrap_or, Option, Some, None, String, option_to_list, arith}
use Rattle.std.proofs.lemmas.{Bool.ltb-true, Bool.lt-ltb, Bool.and_from as both, Bool.both_ways, Bool.false_from_ne_true, Option.slice_get_within}
use Rattle.std.proofs.lemmas.List.{Folds.list_all-append, Folds.list_all-map, Elements.Contains-append_left, Elements.Contains-append_right}
use Rattle.std.specs.declared.alloc.Global.{Global}
use Rattle.std.specs.{Prelude.is_some, Prelude.filter_map, Prelude.flat_map, List.Contains, List.list_all, Option.option_map_or}
use Rattle.wit_model.specs.{Text.Text, Text.text_of, Lookup.type_at, Lookup.place_of, Uses.alias_target}
use Rattle.wit_model.specs.Tree.{Tree, Place, Primitive, type_, primitive, named, levels}
use Rattle.wit_model.specs.Types.{declared_by, tree_of, tree_at, tree_of_declaration, type_tree, number_tree, trees_of, no_tree, number_of, declaration_of}
use Rattle.wit_model.specs.Parts.{member_types, handled, kind_numbers, met_by, met_of, used_by_type, same_owner, has_owner, is_resource, is_resource_kind, is_resource_type}
use Rattle.wit_model.specs.Rules.{is_named_kind, is_named_number, passes, in_list, is_use, kind_labels, are_member_labels}
use Rattle.wit_model.specs.Valid.{IsValid, labels, named_kinds, owners, handles, depths}
use Rattle.wit_model.specs.declared.model.{Resolve.Resolve, TypeDef.TypeDef, TypeDefKind.TypeDefKind, TypeOwner.TypeOwner, «Type».«Type» as ValueType}
use Rattle.wit_model.specs.declared.model.TypeId.{TypeId}
use Rattle.wit_model.proofs.{TreeTable.kept_numbers, TreeTable.kept_trees_at, Owners.named_met, Owners.unnamed_met, ValidLemmas.type_passes as type-passes}
use Rattle.wit_model.proofs.{Resources.resource_step, Functions.all_flat, Elements.contains-filter_map, OnePath.found-in, PartsLemmas.owner_same as same-owner}
use Rattle.comp_meaning.proofs.{SameLaws.places_decide, RulesLemmas.distinct_same as distinct-same}
use Rattle.comp_meaning.specs.{Same.same_place, Rules.is_part, Rules.is_declared, Rules.are_labels}
use Rattle.encode_shown.proofs.Basics.{valid-references, or-cases, passed}
use Rattle.encode_shown.proofs.Children.{child_trees, is_unnamed_form, is_alias, children-are, labels-are, form-unnamed, parts-from, declared-from}
use Rattle.base_lemmas.proofs.{Bools.given-not, Bools.not-false, Bools.left_of as first_true, Bools.right_of as second_true, Options.there as some-of}
use Rattle.base_lemmas.proofs.Elements.{all-contained, all_pass as all-from, contains-one}
use Rattle.wit_model.specs.Rules as rules
use Rattle.wit_model.specs.declared.model.TypeDefKind.TheVariants as kind
use Rattle.wit_model.specs.declared.model.TypeOwner.TheVariants as owner
use Rattle.wit_model.specs.declared.model.«Type».TheVariants as ty

pub place-alike : (a : Place) → same_place a a ≡ true
place-alike a = (places_decide a a).1 refl

-- ---- unnamed kinds

-- labels that keep the rule
pub labels-from : (ts : List Text) → are_member_labels ts ≡ true → are_labels ts ≡ true
labels-from ts h = both _ _ (first_true (rules.each_is_label ts) _ h) (sym (distinct-same ts) ∙ second_true (rules.each_is_label ts) _ h)

module _ (r : Resolve) (v : IsValid r) where
  -- ---- trees by number

  named-kind : (n : ℕ) (def : TypeDef) → type_at r n ≡ Some def → is_named_kind def.kind ≡ true → is_some def.name ≡ true
  unfolding named_kinds
  named-kind n def at e = given-not (is_named_kind def.kind) (is_some def.name) e
      (first_true (not (is_named_kind def.kind) || is_some def.name) (passes (is_named_number r) (alias_target def.kind)) (type-passes named_kinds r v.rules.named_kinds n def at))

  unnamed-kind : (n : ℕ) (def : TypeDef) → type_at r n ≡ Some def → def.name ≡ None → is_named_kind def.kind ≡ false
  unnamed-kind n def at none = false_from_ne_true (is_named_kind def.kind) (λ e. let named_ : is_some def.name ≡ true = named-kind n def at e in cc)

  -- a named type is its name where it is used
  pub named-tree : (n : ℕ) (def : TypeDef) (name : String Global) → type_at r n ≡ Some def → def.name ≡ Some name → number_tree r n ≡ named (place_of r def.owner) (text_of name)
  named-tree n def name at is = ap (λ x. unwrap_or x no_tree) (kept_trees_at r v.rules n def at)
      ∙ ap (λ o. option_map_or (λ name. named (place_of r def.owner) (text_of name)) o (tree_of_declaration (declared_by (trees_of r) def.kind))) is

  pub unnamed-tree : (n : ℕ) (def : TypeDef) → type_at r n ≡ Some def → def.name ≡ None → number_tree r n ≡ tree_of_declaration (declared_by (trees_of r) def.kind)
  unnamed-tree n def at none = ap (λ x. unwrap_or x no_tree) (kept_trees_at r v.rules n def at)
      ∙ ap (λ o. option_map_or (λ name. named (place_of r def.owner) (text_of name)) o (tree_of_declaration (declared_by (trees_of r) def.kind))) none

  -- ---- tests of the parts of a kind

  module _ (test : Tree → Bool) (plain : (q : Primitive) → test (primitive q) ≡ true) where
    pub value-passes : (t : ValueType) → ((id : TypeId) → t ≡ ty.Id id → test (number_tree r id.0) ≡ true) → test (type_tree r t) ≡ true
    value-passes (ty.Id id) h = h id refl
    value-passes _ h = plain _

    values-pass : (ts : List ValueType) → ((m : ℕ) → Contains (filter_map number_of ts) m → test (number_tree r m) ≡ true) → list_all test (map (type_tree r) ts) ≡ true
    values-pass ts h = list_all-map test (type_tree r) ts ∙ all-from (λ t. test (type_tree r t)) ts (λ t c. value-passes t (λ id e.
        h id.0 (contains-filter_map number_of ts t id.0 c (subst (λ (u : ValueType). Contains (option_to_list (number_of u)) id.0) (sym e) (contains-one id.0)))))

    children-pass : (k : TypeDefKind) → is_alias k ≡ false → ((m : ℕ) → Contains (kind_numbers k) m → test (number_tree r m) ≡ true) → list_all test (child_trees (declared_by (trees_of r) k)) ≡ true
    children-pass k e h = ap (list_all test) (children-are (trees_of r) k e)
        ∙ list_all-append test (map (tree_of (trees_of r)) (member_types k)) (map (tree_at (trees_of r)) (option_to_list (handled k)))
        ∙ both _ _ (values-pass (member_types k) (λ m c. h m (Contains-append_left (filter_map number_of (member_types k)) _ m c)))
        (list_all-map test (tree_at (trees_of r)) (option_to_list (handled k))
        ∙ all-from (λ m. test (tree_at (trees_of r) m)) (option_to_list (handled k))
        (λ m c. h m (Contains-append_right (filter_map number_of (member_types k)) _ m (Contains-append_left (option_to_list (handled k)) _ m c))))

  -- ---- what is met

  smaller : (n : ℕ) (def : TypeDef) → type_at r n ≡ Some def → (m : ℕ) → Contains (kind_numbers def.kind) m → m < n
  smaller n def at m c = ltb-true m n (all-contained (λ m. nat_lt m n) (kind_numbers def.kind) m (kept_numbers r v.rules n def at) c)

  module _ (o : TypeOwner) where
    abbrev pub all_met : ℕ → Bool
    all_met n = list_all (has_owner r o) (met_by (met_of r) n)

    -- a type all of whose names are of the owner is a part in its place
    part-at : (s n : ℕ) → n < s → n < length r.types.items → all_met n ≡ true → is_part (place_of r o) (number_tree r n) ≡ true
    part-at zero n l inside met = absurd (omega (arith, l))
    part-at (suc s) n l inside met =
        let found = found-in r.types.items n (lt-ltb n (length r.types.items) inside) in
        at-def (part-at s) found.0 found.1 found.0.name refl
      where
        at-def : ((m : ℕ) → m < s → m < length r.types.items → all_met m ≡ true → is_part (place_of r o) (number_tree r m) ≡ true) → (def : TypeDef) → type_at r n ≡ Some def
            → (name : Option (String Global)) → def.name ≡ name → is_part (place_of r o) (number_tree r n) ≡ true
        at-def more def at (Some name) is =
            let own : same_owner def.owner o ≡ true = named_met r (valid-references r v) n def at o (ap is_some is) ∙ met in
            ap (is_part (place_of r o)) (named-tree n def name at is) ∙ ap (λ (a : TypeOwner). same_place (place_of r o) (place_of r a)) (same-owner def.owner o own) ∙ place-alike (place_of r o)
        at-def more def at None is =
            let plain = unnamed-kind n def at is in
            let all : list_all all_met (kind_numbers def.kind) ≡ true = unnamed_met r (valid-references r v) n def at o (ap is_some is) ∙ met in
            let parts = children-pass (is_part (place_of r o)) (λ q. refl) def.kind (search std_rules) (λ m c.
            let below = smaller n def at m c in
            more m (omega (arith, l, below)) (omega (arith, inside, below)) (all-contained all_met (kind_numbers def.kind) m all c)) in
            let form = sym (ap (λ b. b || is_unnamed_form (declared_by (trees_of r) def.kind)) plain) ∙ form-unnamed (trees_of r) def.kind in
            ap (is_part (place_of r o)) (unnamed-tree n def at is) ∙ (search (std_rules, both, parts-from))

    pub number-part : (n : ℕ) → n < length r.types.items → all_met n ≡ true → is_part (place_of r o) (number_tree r n) ≡ true
    number-part n inside met = let l : n < suc n = omega arith in part-at (suc n) n l inside met

    -- so is what a function takes and gives
    pub values-part : (ts : List ValueType) → list_all (in_list r.types.items) (filter_map number_of ts) ≡ true
        → list_all (has_owner r o) (flat_map (met_by (met_of r)) (filter_map number_of ts)) ≡ true → list_all (is_part (place_of r o)) (map (type_tree r) ts) ≡ true
    values-part ts inside met =
        let all : list_all all_met (filter_map number_of ts) ≡ true = sym (all_flat (has_owner r o) (met_by (met_of r)) (filter_map number_of ts)) ∙ met in
        values-pass (is_part (place_of r o)) (λ q. refl) ts (λ m c.
        number-part m (ltb-true m (length r.types.items) (all-contained (in_list r.types.items) (filter_map number_of ts) m inside c)) (all-contained all_met (filter_map number_of ts) m all c))

  -- ---- what a name is declared as

  -- what a handle is of has a name
  handled-level : (n : ℕ) (def : TypeDef) → type_at r n ≡ Some def → (m : ℕ) → Contains (option_to_list (handled def.kind)) m → nat_le (levels (number_tree r m)) 100 ≡ true
  unfolding handles
  handled-level n def at m c =
      let passed = second_true (list_all (λ t. not (is_resource_type r t)) (member_types def.kind)) _ (type-passes handles r v.rules.handles n def at) in
      let is_one : is_resource r m ≡ true = (search std_rules) in
      let below = smaller n def at m (Contains-append_right (filter_map number_of (member_types def.kind)) _ m
      (Contains-append_left (option_to_list (handled def.kind)) (option_to_list (alias_target def.kind)) m c)) in
      let inside : n < length r.types.items = slice_get_within r.types.items n def at in
      let less : m < length r.types.items = omega (arith, below, inside) in
      let found = found-in r.types.items m (lt-ltb m (length r.types.items) less) in
      let resource_kind = sym (resource_step r (valid-references r v) m found.0 found.1) ∙ is_one in
      let kind_of = or-cases (is_named_kind found.0.kind) _ (search std_rules) (λ h. h)
      (λ h. absurd (not-false (is_resource_kind (is_resource r) found.0.kind) h resource_kind)) in
      let name = some-of found.0.name (named-kind m found.0 found.1 kind_of) in
      ap (λ t. nat_le (levels t) 100) (named-tree m found.0 name.0 found.1 name.1)

  shallow-children : (n : ℕ) (def : TypeDef) → type_at r n ≡ Some def → is_alias def.kind ≡ false → list_all (λ t. nat_le (levels t) 100) (child_trees (declared_by (trees_of r) def.kind)) ≡ true
  unfolding depths
  shallow-children n def at e = ap (list_all (λ t. nat_le (levels t) 100)) (children-are (trees_of r) def.kind e)
      ∙ list_all-append (λ t. nat_le (levels t) 100) (map (tree_of (trees_of r)) (member_types def.kind)) (map (tree_at (trees_of r)) (option_to_list (handled def.kind)))
      ∙ both _ _ (list_all-map (λ t. nat_le (levels t) 100) (tree_of (trees_of r)) (member_types def.kind) ∙ type-passes depths r v.rules.depths n def at)
      (list_all-map (λ t. nat_le (levels t) 100) (tree_at (trees_of r)) (option_to_list (handled def.kind)) ∙ all-from (λ m. nat_le (levels (tree_at (trees_of r) m)) 100)
      (option_to_list (handled def.kind)) (handled-level n def at))

  -- the named type that an alias is of
  pub record IsTarget (id : TypeId) : Type 0 where
    pub def : TypeDef
    pub there : type_at r id.0 ≡ Some def
    pub string : String Global
    pub tree : number_tree r id.0 ≡ named (place_of r def.owner) (text_of string)

  pub alias-target : (n : ℕ) (def : TypeDef) → type_at r n ≡ Some def → (id : TypeId) → def.kind ≡ kind.Type_ (ty.Id id) → IsTarget id
  unfolding named_kinds
  alias-target n def at id e =
      let below = smaller n def at id.0 (subst (λ k. Contains (kind_numbers k) id.0) (sym e) (contains-one id.0)) in
      let inside : n < length r.types.items = slice_get_within r.types.items n def at in
      let found = found-in r.types.items id.0 (lt-ltb id.0 (length r.types.items) (omega (arith, below, inside))) in
      let target = second_true (not (is_named_kind def.kind) || is_some def.name) (passes (is_named_number r) (alias_target def.kind)) (type-passes named_kinds r v.rules.named_kinds n def at) in
      let name = some-of found.0.name (ap (passes (λ (d : TypeDef). is_some d.name)) (sym found.1) ∙ (ap (λ k. passes (is_named_number r) (alias_target k)) (sym e) ∙ target)) in
      record { def = found.0; there = found.1; string = name.0; tree = named-tree id.0 found.0 name.0 found.1 name.1 }

  -- an alias of a primitive or a named type
  alias-declared : (place : Place) (n : ℕ) (def : TypeDef) → type_at r n ≡ Some def → (t : ValueType) → def.kind ≡ kind.Type_ t → is_declared place (declaration_of r def) ≡ true
  alias-declared place n def at (ty.Id id) e = ap (λ k. is_declared place (declared_by (trees_of r) k)) e ∙ ap (λ u. is_declared place (type_ u)) (alias-target n def at id e).tree
  alias-declared place n def at _ e = ap (λ k. is_declared place (declared_by (trees_of r) k)) e

  -- what else a type of an owner uses is the owner's
  stays : (n : ℕ) (def : TypeDef) → type_at r n ≡ Some def → same_owner def.owner owner.None ≡ false → is_use r def ≡ false → list_all (has_owner r def.owner) (used_by_type r def) ≡ true
  unfolding owners
  stays n def at owned plain = or-cases (same_owner def.owner owner.None) (list_all (has_owner r def.owner) (used_by_type r def) || (is_some def.name && is_use r def))
      (type-passes owners r v.rules.owners n def at) (λ e. absurd (both_ways _ owned e))
      (λ e. or-cases (list_all (has_owner r def.owner) (used_by_type r def)) (is_some def.name && is_use r def) e (λ h. h) (λ h. absurd (both_ways _ plain (second_true (is_some def.name) _ h))))

  -- a name of an owner is declared as what it may be, in the owner's place
  pub number-declared : (n : ℕ) (def : TypeDef) → type_at r n ≡ Some def → same_owner def.owner owner.None ≡ false → is_declared (place_of r def.owner) (declaration_of r def) ≡ true
  unfolding labels
  number-declared n def at owned = grind (arith, alias-declared, form, is_alias)
    where
      form : is_alias def.kind ≡ false → is_declared (place_of r def.owner) (declaration_of r def) ≡ true
      form e =
          let used = stays n def at owned (search std_rules) in
          let all : list_all (all_met def.owner) (kind_numbers def.kind) ≡ true = sym (all_flat (has_owner r def.owner) (met_by (met_of r)) (kind_numbers def.kind)) ∙ used in
          let inside : n < length r.types.items = slice_get_within r.types.items n def at in
          let names = second_true (passes (λ name. Rattle.wit_model.specs.Names.is_label (text_of name)) def.name) _ (type-passes labels r v.rules.labels n def at) in
          declared-from (place_of r def.owner) (declaration_of r def) (ap are_labels (labels-are (trees_of r) def.kind e)
          ∙ labels-from (kind_labels def.kind) (second_true (rules.is_stability def.stability) _ names)) (children-pass (is_part (place_of r def.owner)) (λ q. refl) def.kind e (λ m c.
          number-part def.owner m (let below = smaller n def at m c in omega (arith, below, inside)) (all-contained (all_met def.owner) (kind_numbers def.kind) m all c))) (shallow-children n def at e)
