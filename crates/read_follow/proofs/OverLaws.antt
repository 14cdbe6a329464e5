-- What a definition stands for is over the places that the slots are over.
use Rattle.std.proofs.Common.{rules as std_rules, ◌≡◌, inl, inr, refl, subst, ℕ, List, [], ◌∷◌, map, Option, Some, None, slice_get, IfSome, nat_le}
use Rattle.std.proofs.lemmas.List.Elements.{Contains-append_cases}
use Rattle.std.specs.List.{AllByRecursion, Contains}
use Rattle.wit_model.specs.{Meaning.Signature, Text.Text, Tree.Place, Tree.Tree, Tree.children}
use Rattle.comp_bytes.specs.declared.forms.{ComponentValType.ComponentValType, ComponentTypeRef.ComponentTypeRef}
use Rattle.comp_bytes.specs.{Raw.Labeled, Raw.DefinedType, Raw.FunctionType, Reading.◌>>=◌}
use Rattle.comp_bytes.proofs.Readers.{bind_some, when_some}
use Rattle.comp_meaning.specs.Follow.{Slot as Meant, resource, each, given, provided, is_filled, is_key, primitive_of_type, value_in, resource_in, value_type, field_type, case_type, declared_by_slot, definition, function_signature, named_like, named_type}
use Rattle.read_follow.specs.{Facts.places, Facts.places_in, Placed.DeclarationOver, Placed.SignatureOver, Placed.SlotOver, Placed.TreeOver}
use Rattle.read_follow.proofs.DefiningLaws.{all_at}
use Rattle.base_lemmas.proofs.{Elements.none_in, Elements.seconds, Options.some_is}
use Rattle.wit_model.specs.Tree as tree
use Rattle.comp_bytes.specs.declared.forms.ComponentValType.TheVariants as values
use Rattle.comp_bytes.specs.declared.forms.ComponentTypeRef.TheVariants as refs

-- ---- what is found for each

each_over : {A B : Type 0} (f : A → Option B) (Q : B → Type 0) → ((x : A) (y : B) → f x ≡ Some y → Q y) → (xs : List A) (ys : List B) → each f xs ≡ Some ys → AllByRecursion Q ys
each_over f Q found [] ys e = subst (λ zs. AllByRecursion Q zs) (some_is [] ys e) tt
each_over f Q found (x ∷ xs) ys e =
    let first = bind_some (f x) (λ y. each f xs >>= λ zs. Some (y ∷ zs)) ys e in
    let more = bind_some (each f xs) (λ zs. Some (first.0 ∷ zs)) ys first.2 in
    subst (λ zs. AllByRecursion Q zs) (some_is (first.0 ∷ more.0) ys more.2) (found x first.0 first.1, each_over f Q found xs more.0 more.1)

given_over : {A B : Type 0} (f : A → Option B) (Q : B → Type 0) → ((x : A) (y : B) → f x ≡ Some y → Q y) → (o : Option A) (p : Option B) → given f o ≡ Some p → IfSome p Q
given_over f z found u p e = search std_rules

module _ (P : Place → Type 0) where
  -- ---- names

  pub name_over : (place : Place) (name : Text) → P place → TreeOver P (Tree.named place name)
  name_over place name p x c = search std_rules

  -- ---- parts

  parts_over : (ts : List Tree) → AllByRecursion (TreeOver P) ts → (x : Place) → Contains (places_in (children ts)) x → P x
  parts_over [] all x c = absurd (none_in x c)
  parts_over (t ∷ ts) all x c = elim (Contains-append_cases (places t) (places_in (children ts)) x c) [ inl h ↦ all.0 x h | inr h ↦ parts_over ts all.1 x h ]

  given_parts : (os : List (Option Tree)) → AllByRecursion (λ o. IfSome o (TreeOver P)) os → (x : Place) → Contains (places_in (tree.given_trees os)) x → P x
  given_parts [] all x c = absurd (none_in x c)
  given_parts (None ∷ os) all x c = given_parts os all.1 x c
  given_parts (Some t ∷ os) all x c = elim (Contains-append_cases (places t) (places_in (tree.given_trees os)) x c) [ inl h ↦ all.0 x h | inr h ↦ given_parts os all.1 x h ]

  -- ---- indexes

  module _ (slots : List Meant) (all : AllByRecursion (SlotOver P) slots) where
    value_over : (n : ℕ) (t : Tree) → value_in (slice_get slots n) ≡ Some t → TreeOver P t
    value_over n t e = by (slice_get slots n) refl e
      where
        by : (o : Option Meant) → slice_get slots n ≡ o → value_in o ≡ Some t → TreeOver P t
        by x at h = search (std_rules, some_is, all_at)

    resource_over : (n : ℕ) (t : Tree) → resource_in (slice_get slots n) ≡ Some t → AllByRecursion (TreeOver P) (t ∷ [])
    resource_over n t e = by (slice_get slots n) refl e
      where
        by : (o : Option Meant) → slice_get slots n ≡ o → resource_in o ≡ Some t → AllByRecursion (TreeOver P) (t ∷ [])
        by x at h = search (std_rules, some_is, name_over, all_at)

    type_over : (v : ComponentValType) (t : Tree) → value_type slots v ≡ Some t → TreeOver P t
    type_over (values.Primitive p) t e = subst (TreeOver P) (some_is (Tree.primitive (primitive_of_type p)) t e) (λ x c. absurd (none_in x c))
    type_over (values.Type_ n) t e = value_over n t e

    field_over : (x : Labeled ComponentValType) (y : Text × Tree) → field_type slots x ≡ Some y → TreeOver P y.1
    field_over x y e =
        let b = bind_some (value_type slots x.type_of) (λ t. Some (x.label, t)) y e in
        subst (λ (z : Text × Tree). TreeOver P z.1) (some_is (x.label, b.0) y b.2) (type_over x.type_of b.0 b.1)

    case_over : (x : Labeled (Option ComponentValType)) (y : Text × Option Tree) → case_type slots x ≡ Some y → IfSome y.1 (TreeOver P)
    case_over x y e =
        let b = bind_some (given (value_type slots) x.type_of) (λ t. Some (x.label, t)) y e in
        subst (λ (z : Text × Option Tree). IfSome z.1 (TreeOver P)) (some_is (x.label, b.0) y b.2) (given_over (value_type slots) (TreeOver P) type_over x.type_of b.0 b.1)

    optional_over : (o : Option ComponentValType) (p : Option Tree) → given (value_type slots) o ≡ Some p → IfSome p (TreeOver P)
    optional_over o p e = given_over (value_type slots) (TreeOver P) type_over o p e

    -- ---- definitions

    pub definition_over : (d : DefinedType) (t : Tree) → definition slots d ≡ Some t → TreeOver P t
    definition_over (DefinedType.primitive p) t e = subst (TreeOver P) (some_is (Tree.primitive (primitive_of_type p)) t e) (λ x c. absurd (none_in x c))
    definition_over (DefinedType.record_of fields) t e =
        let b = bind_some (each (field_type slots) fields) (λ fs. provided (is_filled fields) (tree.record_tree fs)) t e in
        subst (TreeOver P) (some_is (tree.record_tree b.0) t (when_some (is_filled fields) (Some (tree.record_tree b.0)) t b.2).1)
        (parts_over (map (λ f. f.1) b.0) (seconds (TreeOver P) b.0 (each_over (field_type slots) (λ (f : Text × Tree). TreeOver P f.1) field_over fields b.0 b.1)))
    definition_over (DefinedType.variant_of cases) t e =
        let b = bind_some (each (case_type slots) cases) (λ cs. provided (is_filled cases) (tree.variant_tree cs)) t e in
        subst (TreeOver P) (some_is (tree.variant_tree b.0) t (when_some (is_filled cases) (Some (tree.variant_tree b.0)) t b.2).1)
        (given_parts (map (λ c. c.1) b.0) (seconds (λ o. IfSome o (TreeOver P)) b.0 (each_over (case_type slots) (λ (c : Text × Option Tree). IfSome c.1 (TreeOver P)) case_over cases b.0 b.1)))
    definition_over (DefinedType.list_of v) t e =
        let b = bind_some (value_type slots v) (λ u. Some (tree.list_tree u)) t e in
        subst (TreeOver P) (some_is (tree.list_tree b.0) t b.2) (parts_over (b.0 ∷ []) (type_over v b.0 b.1, tt))
    definition_over (DefinedType.fixed_length_list_of v n) t e =
        let b = bind_some (value_type slots v) (λ u. provided (nat_le 1 n) (tree.fixed_list_tree u n)) t e in
        subst (TreeOver P) (some_is (tree.fixed_list_tree b.0 n) t (when_some (nat_le 1 n) (Some (tree.fixed_list_tree b.0 n)) t b.2).1) (parts_over (b.0 ∷ []) (type_over v b.0 b.1, tt))
    definition_over (DefinedType.tuple_of vs) t e =
        let b = bind_some (each (value_type slots) vs) (λ ts. provided (is_filled vs) (tree.tuple_tree ts)) t e in
        let w = when_some (is_filled vs) (Some (tree.tuple_tree b.0)) t b.2 in
        subst (TreeOver P) (some_is (tree.tuple_tree b.0) t w.1) (parts_over b.0 (each_over (value_type slots) (TreeOver P) type_over vs b.0 b.1))
    definition_over (DefinedType.flags_of names) t e = subst (TreeOver P) (some_is (tree.flags_tree names) t (when_some (is_filled names) (Some (tree.flags_tree names)) t e).1) (parts_over [] tt)
    definition_over (DefinedType.enum_of names) t e = subst (TreeOver P) (some_is (tree.enum_tree names) t (when_some (is_filled names) (Some (tree.enum_tree names)) t e).1) (parts_over [] tt)
    definition_over (DefinedType.option_of v) t e =
        let b = bind_some (value_type slots v) (λ u. Some (tree.option_tree u)) t e in
        subst (TreeOver P) (some_is (tree.option_tree b.0) t b.2) (parts_over (b.0 ∷ []) (type_over v b.0 b.1, tt))
    definition_over (DefinedType.result_of ok err) t e =
        let b = bind_some (given (value_type slots) ok) (λ o. given (value_type slots) err >>= λ p. Some (tree.result_tree o p)) t e in
        let c = bind_some (given (value_type slots) err) (λ p. Some (tree.result_tree b.0 p)) t b.2 in
        subst (TreeOver P) (some_is (tree.result_tree b.0 c.0) t c.2) (given_parts (b.0 ∷ c.0 ∷ []) (optional_over ok b.0 b.1, (optional_over err c.0 c.1, tt)))
    definition_over (DefinedType.own_of n) t e =
        let b = bind_some (resource_in (slice_get slots n)) (λ r. Some (tree.own_tree r)) t e in
        subst (TreeOver P) (some_is (tree.own_tree b.0) t b.2) (parts_over (b.0 ∷ []) (resource_over n b.0 b.1))
    definition_over (DefinedType.borrow_of n) t e =
        let b = bind_some (resource_in (slice_get slots n)) (λ r. Some (tree.borrow_tree r)) t e in
        subst (TreeOver P) (some_is (tree.borrow_tree b.0) t b.2) (parts_over (b.0 ∷ []) (resource_over n b.0 b.1))
    definition_over (DefinedType.stream_of v) t e =
        let b = bind_some (given (value_type slots) v) (λ o. Some (tree.stream_tree o)) t e in
        subst (TreeOver P) (some_is (tree.stream_tree b.0) t b.2) (given_parts (b.0 ∷ []) (optional_over v b.0 b.1, tt))
    definition_over (DefinedType.future_of v) t e =
        let b = bind_some (given (value_type slots) v) (λ o. Some (tree.future_tree o)) t e in
        subst (TreeOver P) (some_is (tree.future_tree b.0) t b.2) (given_parts (b.0 ∷ []) (optional_over v b.0 b.1, tt))
    definition_over (DefinedType.map_of k v) t e =
        let b = bind_some (value_type slots k) (λ key. value_type slots v >>= λ u. provided (is_key key) (tree.map_tree key u)) t e in
        let c = bind_some (value_type slots v) (λ u. provided (is_key b.0) (tree.map_tree b.0 u)) t b.2 in
        let w = when_some (is_key b.0) (Some (tree.map_tree b.0 c.0)) t c.2 in
        subst (TreeOver P) (some_is (tree.map_tree b.0 c.0) t w.1) (parts_over (b.0 ∷ c.0 ∷ []) (type_over k b.0 b.1, (type_over v c.0 c.1, tt)))

    pub signature_over : (f : FunctionType) (s : Signature) → function_signature slots f ≡ Some s → SignatureOver P s
    signature_over f s e =
        let ps = bind_some _ _ s e in
        let r = bind_some _ _ s ps.2 in
        subst (SignatureOver P) (some_is _ s r.2) (each_over (field_type slots) (λ (p : Text × Tree). TreeOver P p.1) field_over f.parameters ps.0 ps.1, optional_over f.result_type r.0 r.1)

    -- ---- imports and exports of types

    pub named_over : (place : Place) (name : Text) (kind : ComponentTypeRef) (found : tree.TypeDeclaration × Meant) → named_type slots place name kind ≡ Some found → DeclarationOver P found.0
    named_over place name (refs.TypeEq n) found e = by (slice_get slots n) refl e
      where
        first : (d : tree.TypeDeclaration) (slot : Meant) → DeclarationOver P d → Some (d, slot) ≡ Some found → DeclarationOver P found.0
        first d slot h same = subst (λ (x : tree.TypeDeclaration × Meant). DeclarationOver P x.0) (some_is (d, slot) found same) h

        by : (o : Option Meant) → slice_get slots n ≡ o → (o >>= λ slot. declared_by_slot slot >>= λ d. Some (d, named_like slot place name)) ≡ Some found → DeclarationOver P found.0
        by x at h = search (std_rules, first, all_at, name_over)
    named_over place name refs.SubResource found e = subst (λ (x : tree.TypeDeclaration × Meant). DeclarationOver P x.0) (some_is (tree.TypeDeclaration.resource, resource place name) found e) tt
    named_over place name _ found e = absurd cc
