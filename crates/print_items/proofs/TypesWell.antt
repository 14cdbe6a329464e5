-- What is shown of a type number is well named, if its parts stand before it.
use Rattle.std.proofs.Common.{rules as std_rules, ◌≡◌, refl, sym, ◌∙◌, subst, ℕ, zero, suc, ◌+◌, ◌^◌, Bool, true, false, ◌&&◌, ◌||◌, not, nat_lt, nat_le, List, [], ◌∷◌, ◌++◌, length, length-append, Option, Some, None, slice_get, filter_map, unwrap_or, arith}
use Rattle.std.proofs.lemmas.{Bool.ltb-true, Bool.and_from as both, List.Folds.list_all-append}
use Rattle.std.specs.{Prelude.option_map, Prelude.option_to_list, Prelude.is_some, Prelude.String, Option.option_map_or, List.list_all}
use Rattle.std.specs.declared.alloc.Global.{Global}
use Rattle.wit_model.specs.declared.model.{Resolve.Resolve, TypeDef.TypeDef, TypeDefKind.TypeDefKind, «Type».«Type» as ValueType}
use Rattle.wit_model.specs.{Text.text_of, Names.is_label, Types.number_of, Lookup.type_at, Rules.passes, Rules.has_shape, Rules.has_items, Rules.is_named_kind}
use Rattle.wit_model.specs.Parts.{kind_numbers, member_types, handled, is_resource, is_resource_type, is_resource_kind, ends_in_resource}
use Rattle.wit_model.specs.Valid.{IsValid, Rule, Keeps, is_place, numbers_in_range, labels, order_of_types, shapes, named_kinds, handles}
use Rattle.wit_model.proofs.Entries.{each_from_at, lists_pass}
use Rattle.print_grammar.specs.{Tree.TypeTree, Tree.TypeTree.Name, WellNamed.is_well_type, WellNamed.are_well_types, WellNamed.are_well_more}
use Rattle.print_items.specs.Shown.{present_name, shown_type, type_name, used_type, used_type_trees, future_type_tree, stream_type_tree, result_type_tree, kind_tree, def_tree, trees_from, type_trees}
use Rattle.print_items.proofs.ShownWell.{given_label}
use Rattle.base_lemmas.proofs.{Bools.left_of, Bools.right_of, Bools.unnamed_kind, Bools.given-not, Elements.all_get, Lists.within_there as one_there}
use Rattle.wit_model.specs.declared.model.TypeDefKind.TheVariants as defined
use Rattle.wit_model.specs.declared.model.Handle.TheVariants as handle

-- a length that fits 32 bits fits 64
short_length : (n : ℕ) → (nat_le 1 n && nat_lt n 4294967296) ≡ true → nat_lt n (2 ^ 64) ≡ true
short_length n h = search std_rules

-- the numbers of types are below this one
abbrev pub is_below : ℕ → ValueType → Bool
is_below n t = passes (λ m. nat_lt m n) (number_of t)

pub below_of_numbers : (n : ℕ) (ts : List ValueType) (rest : List ℕ) → list_all (λ m. nat_lt m n) (filter_map number_of ts ++ rest) ≡ true → list_all (is_below n) ts ≡ true
below_of_numbers n [] rest h = refl
below_of_numbers n (t ∷ ts) rest h = let p = go (number_of t) h in both (is_below n t) _ p.0 (below_of_numbers n ts rest p.1)
  where
    go : (o : Option ℕ) → list_all (λ m. nat_lt m n) (Rattle.std.specs.List.cons_option o (filter_map number_of ts) ++ rest) ≡ true → (passes (λ m. nat_lt m n) o ≡ true)
        × (list_all (λ m. nat_lt m n) (filter_map number_of ts ++ rest) ≡ true)
    go None g = (refl, g)
    go (Some m) g = (left_of _ _ g, right_of (nat_lt m n) _ g)

module _ (trees : List TypeTree) (well : list_all is_well_type trees ≡ true) where
  number_well : (m : ℕ) → nat_lt m (length trees) ≡ true → is_well_type (unwrap_or (slice_get trees m) (Name [])) ≡ true
  number_well m h =
      let there = one_there trees m (ltb-true m (length trees) h) in
      subst (λ o. is_well_type (unwrap_or o (Name [])) ≡ true) (sym there.1) (all_get is_well_type trees m there.0 well there.1)

  pub used_well : (t : ValueType) → is_below (length trees) t ≡ true → is_well_type (used_type trees t) ≡ true
  used_well x h = search (std_rules, number_well)

  more_well : (ts : List ValueType) → list_all (is_below (length trees)) ts ≡ true → are_well_more (used_type_trees trees ts) ≡ true
  more_well [] h = refl
  more_well (t ∷ ts) h = both (is_well_type (used_type trees t)) _ (used_well t (left_of _ _ h)) (more_well ts (right_of (is_below (length trees) t) _ h))

  some_well : (ts : List ValueType) → has_items ts ≡ true → list_all (is_below (length trees)) ts ≡ true → are_well_types (used_type_trees trees ts) ≡ true
  some_well x some h = search (std_rules, both, used_well, left_of, more_well, right_of)

  future_well : (o : Option ValueType) → list_all (is_below (length trees)) (option_to_list o) ≡ true → is_well_type (future_type_tree (option_map (used_type trees) o)) ≡ true
  future_well x h = search (std_rules, used_well, left_of)

  stream_well : (o : Option ValueType) → list_all (is_below (length trees)) (option_to_list o) ≡ true → is_well_type (stream_type_tree (option_map (used_type trees) o)) ≡ true
  stream_well x h = search (std_rules, used_well, left_of)

  result_well : (ok err : Option ValueType) → list_all (is_below (length trees)) (option_to_list ok ++ option_to_list err) ≡ true
      → is_well_type (result_type_tree (option_map (used_type trees) ok) (option_map (used_type trees) err)) ≡ true
  result_well x y h = search (std_rules, used_well, left_of, both, right_of)

  -- A kind without a name of its own, whose parts stand before it, is shown well.
  pub kind_well : (r : Resolve) (k : TypeDefKind) → list_all (λ m. nat_lt m (length trees)) (kind_numbers k) ≡ true → has_shape k ≡ true → is_named_kind k ≡ false
      → passes (λ m. is_label (type_name r (record { 0 = m }))) (handled k) ≡ true → is_well_type (kind_tree r trees k) ≡ true
  kind_well r (defined.Handle (handle.Own id)) b s n h = h
  kind_well r (defined.Handle (handle.Borrow id)) b s n h = h
  kind_well r (defined.Tuple tuple) b s n h = some_well tuple.types.items s (below_of_numbers (length trees) tuple.types.items [] b)
  kind_well r (defined.Option t) b s n h = used_well t (left_of _ _ (below_of_numbers (length trees) (t ∷ []) [] b))
  kind_well r (defined.Result result) b s n h = result_well result.ok result.err (below_of_numbers (length trees) (option_to_list result.ok ++ option_to_list result.err) [] b)
  kind_well r (defined.List t) b s n h = used_well t (left_of _ _ (below_of_numbers (length trees) (t ∷ []) [] b))
  kind_well r (defined.Map k v) b s n h = search (std_rules, below_of_numbers, both, used_well, left_of, right_of)
  kind_well r (defined.FixedLengthList t m) b s n h = both (is_well_type (used_type trees t)) _ (used_well t (left_of _ _ (below_of_numbers (length trees) (t ∷ []) [] b))) (short_length m s)
  kind_well r (defined.Future o) b s n h = future_well o (below_of_numbers (length trees) (option_to_list o) [] b)
  kind_well r (defined.Stream o) b s n h = stream_well o (below_of_numbers (length trees) (option_to_list o) [] b)
  kind_well r _ b s n h = absurd cc

-- What is known of a type number that is shown.
pub record IsShownType (r : Resolve) (n : ℕ) (def : TypeDef) : Type 0 where
  pub label : passes (λ name. is_label (text_of name)) def.name ≡ true
  pub below : list_all (λ m. nat_lt m n) (kind_numbers def.kind) ≡ true
  pub shape : has_shape def.kind ≡ true
  pub named : (not (is_named_kind def.kind) || is_some def.name) ≡ true
  pub handled_ : passes (λ m. is_label (type_name r (record { 0 = m }))) (handled def.kind) ≡ true

def_well : (r : Resolve) (trees : List TypeTree) (def : TypeDef) → list_all is_well_type trees ≡ true → IsShownType r (length trees) def → is_well_type (def_tree r trees def) ≡ true
def_well r trees def well h = go def.name h.label h.named
  where
    go : (name : Option (String Global)) → passes (λ s. is_label (text_of s)) name ≡ true → (not (is_named_kind def.kind) || is_some name) ≡ true
        → is_well_type (option_map_or (λ s. Name (text_of s)) name (kind_tree r trees def.kind)) ≡ true
    go (Some s) label named = label
    go None label named = kind_well trees well r def.kind h.below h.shape (unnamed_kind _ named) h.handled_

-- The trees of type numbers from the front are well named.
pub trees_well : (r : Resolve) (trees : List TypeTree) (defs : List TypeDef) → list_all is_well_type trees ≡ true
    → ((k : ℕ) (def : TypeDef) → slice_get defs k ≡ Some def → IsShownType r (length trees + k) def) → list_all is_well_type (trees_from r trees defs) ≡ true
trees_well r trees [] well each = well
trees_well r trees (def ∷ defs) well each =
    let now : length trees + 0 ≡ length trees = omega arith in
    let one = def_well r trees def well (subst (λ n. IsShownType r n def) now (each 0 def refl)) in
    trees_well r (trees ++ def_tree r trees def ∷ []) defs
    (list_all-append is_well_type trees (def_tree r trees def ∷ []) ∙ both (list_all is_well_type trees) _ well (both (is_well_type (def_tree r trees def)) _ one refl))
    (λ k d e. let next : length trees + suc k ≡ length (trees ++ def_tree r trees def ∷ []) + k = omega (arith, length-append trees (def_tree r trees def ∷ [])) in
    subst (λ n. IsShownType r n d) next (each (suc k) d e))

-- as many trees as type numbers
pub trees_count : (r : Resolve) (trees : List TypeTree) (defs : List TypeDef) → length (trees_from r trees defs) ≡ length trees + length defs
trees_count r trees [] = omega arith
trees_count r trees (def ∷ defs) = omega (arith, trees_count r (trees ++ def_tree r trees def ∷ []) defs, length-append trees (def_tree r trees def ∷ []))

-- ---- what validity says

module _ (r : Resolve) (valid : IsValid r) where
  pub type_rule : (rule : Rule) → Keeps rule r → (n : ℕ) (def : TypeDef) → type_at r n ≡ Some def → rule.type_ r n def ≡ true
  type_rule rule h n def e = search (std_rules, each_from_at, lists_pass)

  pub label_of : (n : ℕ) (def : TypeDef) → type_at r n ≡ Some def → passes (λ name. is_label (text_of name)) def.name ≡ true
  unfolding labels
  label_of n def e = left_of _ _ (type_rule labels valid.rules.labels n def e)

  name_of_kind : (n : ℕ) (def : TypeDef) → type_at r n ≡ Some def → (not (is_named_kind def.kind) || is_some def.name) ≡ true
  unfolding named_kinds
  name_of_kind n def e = left_of _ _ (type_rule named_kinds valid.rules.named_kinds n def e)

  pub shape_of : (n : ℕ) (def : TypeDef) → type_at r n ≡ Some def → has_shape def.kind ≡ true
  unfolding shapes
  shape_of n def e = type_rule shapes valid.rules.shapes n def e

  -- A type with a name has a label.
  pub name_well : (n : ℕ) (def : TypeDef) → type_at r n ≡ Some def → is_some def.name ≡ true → is_label (present_name def.name) ≡ true
  name_well n def e named = given_label def.name named (label_of n def e)

  resource_kind : (test : ℕ → Bool) (k : TypeDefKind) → is_resource_kind test k ≡ true → is_named_kind k ≡ true
  resource_kind test x h = search std_rules

  -- A resource's name is a label.
  pub resource_label : (steps n : ℕ) → ends_in_resource r steps n ≡ true → is_label (type_name r (record { 0 = n })) ≡ true
  unfolding ends_in_resource
  resource_label zero n h = absurd cc
  resource_label (suc steps) n h = go (type_at r n) refl h
    where
      go : (o : Option TypeDef) → type_at r n ≡ o → option_map_or (λ def. is_resource_kind (ends_in_resource r steps) def.kind) o false ≡ true
          → is_label (option_map_or (λ def. present_name def.name) o []) ≡ true
      go None e g = absurd cc
      go (Some def) e g = name_well n def e (given-not (is_named_kind def.kind) (is_some def.name) (resource_kind (ends_in_resource r steps) def.kind g) (name_of_kind n def e))

  -- a handle's target has a label
  pub handled_label : (n : ℕ) (def : TypeDef) → type_at r n ≡ Some def → passes (λ m. is_label (type_name r (record { 0 = m }))) (handled def.kind) ≡ true
  unfolding handles
  handled_label n def e = go (handled def.kind) (right_of (list_all (λ t. not (is_resource_type r t)) (member_types def.kind)) _ (type_rule handles valid.rules.handles n def e))
    where
      go : (o : Option ℕ) → passes (is_resource r) o ≡ true → passes (λ m. is_label (type_name r (record { 0 = m }))) o ≡ true
      go None g = refl
      go (Some m) g = resource_label (length r.types.items) m g

  pub type_is_shown : (n : ℕ) (def : TypeDef) → type_at r n ≡ Some def → IsShownType r n def
  unfolding order_of_types
  type_is_shown n def e = record {
    label = label_of n def e;
    below = left_of _ _ (type_rule order_of_types valid.rules.order_of_types n def e);
    shape = shape_of n def e;
    named = name_of_kind n def e;
    handled_ = handled_label n def e;
  }

  -- The trees of the types of a valid `Resolve` are well named.
  types_well : list_all is_well_type (type_trees r) ≡ true
  types_well = trees_well r [] r.types.items refl (λ k def e.
      let number : k ≡ 0 + k = omega arith in
      subst (λ n. IsShownType r n def) number (type_is_shown k def e))

  as_many : length (type_trees r) ≡ length r.types.items
  as_many = omega (arith, trees_count r [] r.types.items)

  -- So is what is shown of a type in range.
  pub shown_type_well : (t : ValueType) → is_below (length r.types.items) t ≡ true → is_well_type (shown_type r t) ≡ true
  shown_type_well t h = used_well (type_trees r) types_well t (subst (λ n. is_below n t ≡ true) (sym as_many) h)

  -- And what is shown of a kind without a name of its own.
  pub shown_kind_well : (n : ℕ) (def : TypeDef) → type_at r n ≡ Some def → is_named_kind def.kind ≡ false → is_well_type (kind_tree r (type_trees r) def.kind) ≡ true
  unfolding numbers_in_range
  shown_kind_well n def e unnamed =
      let range = left_of _ _ (right_of (is_place n) _ (type_rule numbers_in_range valid.rules.numbers_in_range n def e)) in
      kind_well (type_trees r) types_well r def.kind (subst (λ m. list_all (λ k. nat_lt k m) (kind_numbers def.kind) ≡ true) (sym as_many) range) (shape_of n def e) unnamed (handled_label n def e)
