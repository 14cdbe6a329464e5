-- Definitions over indexes that are well-formed are well-formed trees.
use Rattle.std.proofs.Common.{rules as std_rules, ◌≡◌, refl, sym, ap, subst, ◌∙◌, ℕ, suc, Bool, true, false, nat_le, List, [], ◌∷◌, map, length, Option, Some, None, slice_get, IfSome}
use Rattle.std.proofs.{Math.ListN.length-map, lemmas.Bool.and_from as both}
use Rattle.std.specs.List.{AllByRecursion}
use Rattle.wit_model.specs.{Text.Text, Meaning.Signature, Tree.Place, Tree.Tree, Tree.Trees, Tree.child_list, Tree.children, Tree.is_given}
use Rattle.comp_bytes.specs.declared.forms.ComponentValType.{ComponentValType}
use Rattle.comp_bytes.specs.Raw.{Labeled, DefinedType, FunctionType}
use Rattle.comp_bytes.proofs.Readers.{bind_some, when_some}
use Rattle.comp_meaning.specs.Follow.{Slot, each, given, is_filled, is_key, primitive_of_type, value_in, resource_in, function_in, value_type, field_type, case_type, definition, function_signature}
use Rattle.read_shown.specs.Trees.{AllAt, count_true, HandleStands, TreeStands, PartsStand, SignatureStands, SlotStands}
use Rattle.read_shown.proofs.Lists.{each_found, each_filled, given_found}
use Rattle.base_lemmas.proofs.{Numbers.same_count, Elements.seconds, Options.some_is}
use Rattle.wit_model.proofs.TreeLemmas.{child_list_of_children as listed}
use Rattle.wit_model.specs.Tree as tree
use Rattle.comp_bytes.specs.declared.forms.ComponentValType.TheVariants as values

-- ---- counts

filled_map : {A B : Type 0} (f : A → B) (xs : List A) → is_filled xs ≡ true → is_filled (map f xs) ≡ true
filled_map f x h = search std_rules

-- as many parts of a record as it has labels
fields_counted : (fs : List (Text × Tree)) → length (child_list (children (map (λ f. f.1) fs))) ≡ length (map (λ f. f.0) fs)
fields_counted fs = ap (λ ts. length ts) (listed (map (λ f. f.1) fs)) ∙ (length-map fs (λ f. f.1) ∙ sym (length-map fs (λ f. f.0)))

-- as many parts as are given
given_counted : (os : List (Option Tree)) → length (child_list (tree.given_trees os)) ≡ count_true (map is_given os)
given_counted [] = refl
given_counted (None ∷ os) = given_counted os
given_counted (Some t ∷ os) = ap suc (given_counted os)

-- as many parts of a variant as it has payloads
payloads : (cs : List (Text × Option Tree)) → map is_given (map (λ c. c.1) cs) ≡ map (λ (c : Text × Bool). c.1) (map (λ c. (c.0, is_given c.1)) cs)
payloads [] = refl
payloads (c ∷ cs) = ap (λ bs. is_given c.1 ∷ bs) (payloads cs)

module _ (Met : Place → Text → Bool → Type 0) where
  parts_of : (ts : List Tree) → AllByRecursion (TreeStands Met) ts → PartsStand Met false (children ts)
  parts_of [] all = tt
  parts_of (t ∷ ts) all = (all.0, parts_of ts all.1)

  parts_given : (os : List (Option Tree)) → AllByRecursion (λ o. IfSome o (TreeStands Met)) os → PartsStand Met false (tree.given_trees os)
  parts_given [] all = tt
  parts_given (None ∷ os) all = parts_given os all.1
  parts_given (Some t ∷ os) all = (all.0, parts_given os all.1)

  module _ (slots : List Slot) (all : AllAt (λ n (s : Slot). SlotStands Met s) slots) where
    value_stands : (n : ℕ) (t : Tree) → value_in (slice_get slots n) ≡ Some t → TreeStands Met t
    value_stands n t e = by (slice_get slots n) refl e
      where
        by : (o : Option Slot) → slice_get slots n ≡ o → value_in o ≡ Some t → TreeStands Met t
        by (Some (Slot.value u)) at h = subst (TreeStands Met) (some_is u t h) (all n (Slot.value u) at)
        by _ at h = absurd cc

    resource_stands : (n : ℕ) (t : Tree) → resource_in (slice_get slots n) ≡ Some t → HandleStands Met (Trees.child t Trees.no_children)
    resource_stands n t e = by (slice_get slots n) refl e
      where
        by : (o : Option Slot) → slice_get slots n ≡ o → resource_in o ≡ Some t → HandleStands Met (Trees.child t Trees.no_children)
        by (Some (Slot.resource place name)) at h = subst (λ u. HandleStands Met (Trees.child u Trees.no_children)) (some_is (Tree.named place name) t h) (all n (Slot.resource place name) at)
        by _ at h = absurd cc

    pub function_stands : (n : ℕ) (f : Signature) → function_in (slice_get slots n) ≡ Some f → SignatureStands Met f
    function_stands n f e = by (slice_get slots n) refl e
      where
        by : (o : Option Slot) → slice_get slots n ≡ o → function_in o ≡ Some f → SignatureStands Met f
        by (Some (Slot.function g)) at h = subst (SignatureStands Met) (some_is g f h) (all n (Slot.function g) at)
        by _ at h = absurd cc

    type_stands : (v : ComponentValType) (t : Tree) → value_type slots v ≡ Some t → TreeStands Met t
    type_stands (values.Primitive p) t e = subst (TreeStands Met) (some_is (Tree.primitive (primitive_of_type p)) t e) tt
    type_stands (values.Type_ n) t e = value_stands n t e

    field_stands : (x : Labeled ComponentValType) (y : Text × Tree) → field_type slots x ≡ Some y → TreeStands Met y.1
    field_stands x y e =
        let b = bind_some (value_type slots x.type_of) _ y e in
        subst (λ (z : Text × Tree). TreeStands Met z.1) (some_is (x.label, b.0) y b.2) (type_stands x.type_of b.0 b.1)

    case_stands : (x : Labeled (Option ComponentValType)) (y : Text × Option Tree) → case_type slots x ≡ Some y → IfSome y.1 (TreeStands Met)
    case_stands x y e =
        let b = bind_some (given (value_type slots) x.type_of) _ y e in
        subst (λ (z : Text × Option Tree). IfSome z.1 (TreeStands Met)) (some_is (x.label, b.0) y b.2) (given_found (value_type slots) (TreeStands Met) type_stands x.type_of b.0 b.1)

    optional_stands : (o : Option ComponentValType) (p : Option Tree) → given (value_type slots) o ≡ Some p → IfSome p (TreeStands Met)
    optional_stands o p e = given_found (value_type slots) (TreeStands Met) type_stands o p e

    record_stands : (fs : List (Text × Tree)) → AllByRecursion (λ f. TreeStands Met f.1) fs → is_filled fs ≡ true → TreeStands Met (tree.record_tree fs)
    record_stands fs parts some = search (std_rules, both, filled_map, same_count, fields_counted, parts_of, seconds)

    variant_stands : (cs : List (Text × Option Tree)) → AllByRecursion (λ c. IfSome c.1 (TreeStands Met)) cs → is_filled cs ≡ true → TreeStands Met (tree.variant_tree cs)
    variant_stands cs parts some = search (std_rules, both, filled_map, same_count, given_counted, payloads, parts_given, seconds)

    pub definition_stands : (d : DefinedType) (t : Tree) → definition slots d ≡ Some t → TreeStands Met t
    definition_stands (DefinedType.primitive p) t e = subst (TreeStands Met) (some_is (Tree.primitive (primitive_of_type p)) t e) tt
    definition_stands (DefinedType.record_of fields) t e = search (std_rules, bind_some, when_some, each_filled, some_is, record_stands, each_found, field_stands)
    definition_stands (DefinedType.variant_of cases) t e =
        let b = bind_some (each (case_type slots) cases) _ t e in
        let w = when_some (is_filled cases) (Some (tree.variant_tree b.0)) t b.2 in
        subst (TreeStands Met) (some_is (tree.variant_tree b.0) t w.1) (variant_stands b.0
        (each_found (case_type slots) (λ (c : Text × Option Tree). IfSome c.1 (TreeStands Met)) case_stands cases b.0 b.1) (each_filled (case_type slots) cases b.0 b.1 w.0))
    definition_stands (DefinedType.list_of v) t e =
        let b = bind_some (value_type slots v) _ t e in
        subst (TreeStands Met) (some_is (tree.list_tree b.0) t b.2) (refl, (type_stands v b.0 b.1, tt))
    definition_stands (DefinedType.fixed_length_list_of v n) t e =
        let b = bind_some (value_type slots v) _ t e in
        let w = when_some (nat_le 1 n) (Some (tree.fixed_list_tree b.0 n)) t b.2 in
        subst (TreeStands Met) (some_is (tree.fixed_list_tree b.0 n) t w.1) (both (nat_le 1 n) true w.0 refl, (type_stands v b.0 b.1, tt))
    definition_stands (DefinedType.tuple_of vs) t e =
        let b = bind_some (each (value_type slots) vs) _ t e in
        let w = when_some (is_filled vs) (Some (tree.tuple_tree b.0)) t b.2 in
        let filled = ap (λ (ts : List Tree). is_filled ts) (listed b.0) ∙ each_filled (value_type slots) vs b.0 b.1 w.0 in
        subst (TreeStands Met) (some_is (tree.tuple_tree b.0) t w.1) (filled, parts_of b.0 (each_found (value_type slots) (TreeStands Met) type_stands vs b.0 b.1))
    definition_stands (DefinedType.flags_of names) t e = search (std_rules, when_some, some_is, both)
    definition_stands (DefinedType.enum_of names) t e = search (std_rules, when_some, some_is, both)
    definition_stands (DefinedType.option_of v) t e =
        let b = bind_some (value_type slots v) _ t e in
        subst (TreeStands Met) (some_is (tree.option_tree b.0) t b.2) (refl, (type_stands v b.0 b.1, tt))
    definition_stands (DefinedType.result_of ok err) t e =
        let b = bind_some (given (value_type slots) ok) _ t e in
        let c = bind_some (given (value_type slots) err) _ t b.2 in
        let stand = parts_given (b.0 ∷ c.0 ∷ []) (optional_stands ok b.0 b.1, (optional_stands err c.0 c.1, tt)) in
        subst (TreeStands Met) (some_is (tree.result_tree b.0 c.0) t c.2) (same_count _ _ (given_counted (b.0 ∷ c.0 ∷ [])), stand)
    definition_stands (DefinedType.own_of n) t e = search (std_rules, bind_some, some_is, resource_stands)
    definition_stands (DefinedType.borrow_of n) t e = search (std_rules, bind_some, some_is, resource_stands)
    definition_stands (DefinedType.stream_of v) t e =
        let b = bind_some (given (value_type slots) v) _ t e in
        subst (TreeStands Met) (some_is (tree.stream_tree b.0) t b.2) (same_count _ _ (given_counted (b.0 ∷ [])), parts_given (b.0 ∷ []) (optional_stands v b.0 b.1, tt))
    definition_stands (DefinedType.future_of v) t e =
        let b = bind_some (given (value_type slots) v) _ t e in
        subst (TreeStands Met) (some_is (tree.future_tree b.0) t b.2) (same_count _ _ (given_counted (b.0 ∷ [])), parts_given (b.0 ∷ []) (optional_stands v b.0 b.1, tt))
    definition_stands (DefinedType.map_of k v) t e =
        let b = bind_some (value_type slots k) _ t e in
        let c = bind_some (value_type slots v) _ t b.2 in
        let w = when_some (is_key b.0) (Some (tree.map_tree b.0 c.0)) t c.2 in
        subst (TreeStands Met) (some_is (tree.map_tree b.0 c.0) t w.1) ((both (is_key b.0) true w.0 refl), (type_stands k b.0 b.1, (type_stands v c.0 c.1, tt)))

    pub signature_stands : (f : FunctionType) (s : Signature) → function_signature slots f ≡ Some s → SignatureStands Met s
    signature_stands f s e =
        let ps = bind_some (each (field_type slots) f.parameters) _ s e in
        let r = bind_some (given (value_type slots) f.result_type) _ s ps.2 in
        let params = each_found (field_type slots) (λ (p : Text × Tree). TreeStands Met p.1) field_stands f.parameters ps.0 ps.1 in
        subst (SignatureStands Met) (some_is (record { is_async = f.is_async; params = ps.0; result = r.0 }) s r.2) (params, optional_stands f.result_type r.0 r.1)
