-- A definition that can be followed stands for one tree alone, and where that is well formed it can be followed strictly.
use Rattle.std.proofs.Common.{rules as std_rules, ◌≡◌, refl, sym, ap, ◌∙◌, ℕ, zero, suc, Bool, true, false, not, ◌&&◌, List, [], ◌∷◌, map, Option, Some, None, slice_get, option_to_list}
use Rattle.std.proofs.lemmas.Bool.{not-true as not-false}
use Rattle.std.specs.{List.AllZip, List.list_all, Borrow.Bor}
use Rattle.wit_model.specs.{Text.Text, Meaning.Signature}
use Rattle.wit_model.specs.Tree.{Tree, primitive, children, child_list, given_trees, is_given, variant_tree, flags_tree, enum_tree, tuple_tree}
use Rattle.comp_bytes.specs.declared.forms.{PrimitiveValType.PrimitiveValType, ComponentDefinedType.ComponentDefinedType, ComponentFuncType.ComponentFuncType}
use Rattle.comp_bytes.specs.declared.forms.ComponentValType.{ComponentValType}
use Rattle.comp_bytes.specs.{RawOf.labeled, RawOf.raw_defined, RawOf.raw_function, Reading.◌>>=◌}
use Rattle.comp_meaning.specs.Follow.{Slot, each, provided, primitive_of_type, resource_in, value_type, field_type, case_type, definition, function_signature, is_filled}
use Rattle.encode_types.specs.Slots.{tree, primitive_of, StandsFor, StandsForOptional, NamedStands, CaseStands, texts, Follows, FollowsFunction}
use Rattle.encode_types.specs.{Resources.Names, Resources.is_resource_tree, Formed.are_values, Formed.is_formed}
use Rattle.wit_encode.specs.Instance.{SlotsStand, is_slot_of}
use Rattle.base_lemmas.proofs.Bools.{left_of as first_true, right_of as second_true}
use Rattle.wit_model.proofs.TreeLemmas.{child_list_of_children as children-list}
use Rattle.comp_bytes.specs.declared.forms.ComponentValType.TheVariants as v
use Rattle.comp_bytes.specs.declared.forms.ComponentDefinedType.TheVariants as form
use Rattle.comp_meaning.specs.Follow as follow

primitive-same : (x : PrimitiveValType) → primitive_of x ≡ primitive_of_type x
primitive-same x = search std_rules

pub bind : {A B : Type 0} (o : Option A) (x : A) (f : A → Option B) → o ≡ Some x → (o >>= f) ≡ f x
bind o x f e = ap (λ z. z >>= f) e

pub provided-true : {A : Type 0} (b : Bool) (x : A) → b ≡ true → provided b x ≡ Some x
provided-true b x e = ap (λ z. provided z x) e

pub slot-at : (test : Slot → Bool) (slots : List Slot) (i : ℕ) (x : Slot) → list_all test slots ≡ true → slice_get slots i ≡ Some x → test x ≡ true
slot-at test [] i x h e = absurd cc
slot-at test (y ∷ ys) zero x h e = let s : y ≡ x = cc in ap test (sym s) ∙ first_true (test y) (list_all test ys) h
slot-at test (y ∷ ys) (suc i) x h e = slot-at test ys i x (second_true (test y) (list_all test ys) h) e

-- ---- two lists, place by place

zip-filled : {A B C D : Type 0} (R : A → B → Type 0) (f : A → C) (g : B → D) (xs : List A) (ys : List B) → AllZip R xs ys → is_filled (map g ys) ≡ true → is_filled (map f xs) ≡ true
zip-filled R f g [] [] h e = e
zip-filled R f g [] (y ∷ ys) h e = absurd h
zip-filled R f g (x ∷ xs) ys h e = refl

zip-full : {A B : Type 0} (R : A → B → Type 0) (xs : List A) (ys : List B) → AllZip R xs ys → is_filled ys ≡ true → is_filled xs ≡ true
zip-full x y ys h e = search std_rules

zip-once : {A B : Type 0} (R : A → B → Type 0) → ((a : A) (b c : B) → R a b → R a c → b ≡ c) → (xs : List A) (ys zs : List B) → AllZip R xs ys → AllZip R xs zs → ys ≡ zs
zip-once R once [] [] [] h k = refl
zip-once R once [] [] (z ∷ zs) h k = absurd k
zip-once R once [] (y ∷ ys) zs h k = absurd h
zip-once R once (x ∷ xs) [] zs h k = absurd h
zip-once R once (x ∷ xs) (y ∷ ys) [] h k = absurd k
zip-once R once (x ∷ xs) (y ∷ ys) (z ∷ zs) h k = λ i. once x y z h.0 k.0 i ∷ zip-once R once xs ys zs h.1 k.1 i

module _ (resources : Names) (slots : List Slot) (sound : list_all (is_slot_of resources) slots ≡ true) where
  -- ---- parts

  pub value-there : (i : ℕ) (t : Tree) → SlotsStand slots i (tree t) → is_resource_tree resources t ≡ false → slice_get slots i ≡ Some (Slot.value t)
  value-there i t h f = search (std_rules, slot-at)

  pub resource-there : (i : ℕ) (t : Tree) → SlotsStand slots i (tree t) → is_resource_tree resources t ≡ true → resource_in (slice_get slots i) ≡ Some t
  resource-there i t h f = search (std_rules, not-false, slot-at)

  pub value-strict : (x : ComponentValType) (t : Tree) → StandsFor (SlotsStand slots) x t → not (is_resource_tree resources t) ≡ true → value_type slots x ≡ Some t
  value-strict x t h f = search (std_rules, primitive-same, value-there, not-false)

  pub optional-strict : (x : Option ComponentValType) (t : Option Tree) → StandsForOptional (SlotsStand slots) x t → are_values resources (option_to_list t) ≡ true
      → follow.given (value_type slots) x ≡ Some t
  optional-strict z u h f = search (std_rules, bind, value-strict, first_true)

  pub fields-strict : (xs : List (Bor Text × ComponentValType)) (fs : List (Text × Tree)) → AllZip (NamedStands (SlotsStand slots)) xs fs → are_values resources (map (λ f. f.1) fs) ≡ true
      → each (field_type slots) (map labeled xs) ≡ Some fs
  fields-strict [] [] h f = refl
  fields-strict [] (t ∷ ts) h f = absurd h
  fields-strict (x ∷ xs) [] h f = absurd h
  fields-strict (x ∷ xs) (t ∷ ts) h f =
      search (std_rules, bind, value-strict, first_true, second_true, fields-strict xs ts h.1 (second_true (not (is_resource_tree resources t.1)) (are_values resources (map (λ f. f.1) ts)) f))

  pub cases-strict : (xs : List (Bor Text × Option ComponentValType)) (cs : List (Text × Option Tree)) → AllZip (CaseStands (SlotsStand slots)) xs cs
      → are_values resources (child_list (given_trees (map (λ c. c.1) cs))) ≡ true → each (case_type slots) (map labeled xs) ≡ Some cs
  cases-strict [] [] h f = refl
  cases-strict [] (t ∷ ts) h f = absurd h
  cases-strict (x ∷ xs) [] h f = absurd h
  cases-strict (x ∷ xs) (t ∷ ts) h f =
      let both = parted t.1 f in
      let one : case_type slots (labeled x) ≡ Some t = bind (follow.given (value_type slots) x.1) t.1 (λ y. Some (x.0.now, y)) (optional-strict x.1 t.1 h.0.1 both.0) ∙ ap (λ n. Some (n, t.1)) h.0.0 in
      bind (case_type slots (labeled x)) t (λ y. each (case_type slots) (map labeled xs) >>= λ ys. Some (y ∷ ys)) one
      ∙ bind (each (case_type slots) (map labeled xs)) ts (λ ys. Some (t ∷ ys)) (cases-strict xs ts h.1 both.1)
    where
      parted : (o : Option Tree) → are_values resources (child_list (given_trees (o ∷ map (λ c. c.1) ts))) ≡ true → (are_values resources (option_to_list o) ≡ true)
          × (are_values resources (child_list (given_trees (map (λ c. c.1) ts))) ≡ true)
      parted None f = (refl, f)
      parted (Some u) f = (
        λ i. first_true (not (is_resource_tree resources u)) (are_values resources (child_list (given_trees (map (λ c. c.1) ts)))) f i && true,
        second_true (not (is_resource_tree resources u)) (are_values resources (child_list (given_trees (map (λ c. c.1) ts)))) f,
      )

  pub values-strict : (xs : List ComponentValType) (ts : List Tree) → AllZip (StandsFor (SlotsStand slots)) xs ts → are_values resources ts ≡ true → each (value_type slots) xs ≡ Some ts
  values-strict [] [] h f = refl
  values-strict [] (t ∷ ts) h f = absurd h
  values-strict (x ∷ xs) [] h f = absurd h
  values-strict (x ∷ xs) (t ∷ ts) h f =
      search (std_rules, bind, value-strict, first_true, second_true, values-strict xs ts h.1 (second_true (not (is_resource_tree resources t)) (are_values resources ts) f))

  one-part : (u : Option Tree) → are_values resources (child_list (given_trees (u ∷ []))) ≡ true → are_values resources (option_to_list u) ≡ true
  one-part x g = search std_rules

  -- ---- definitions

  pub definition-strict : (d : ComponentDefinedType) (t : Tree) → Follows (SlotsStand slots) d t → is_formed resources t ≡ true → definition slots (raw_defined d) ≡ Some t
  definition-strict (form.Primitive x) t h f = ap Some (sym (h ∙ ap primitive (primitive-same x)))
  definition-strict (form.Record fields) t (fs, z, e) f = search (std_rules, children-list, second_true, bind, fields-strict, provided-true, zip-filled, first_true)
  definition-strict (form.Variant cases) t (cs, z, e) f =
      let g = sym (ap (is_formed resources) e) ∙ f in
      let values = second_true (is_filled (map (λ c. (c.0, is_given c.1)) cs)) (are_values resources (child_list (given_trees (map (λ c. c.1) cs)))) g in
      bind (each (case_type slots) (map labeled cases.items)) cs (λ cs. provided (is_filled (map labeled cases.items)) (variant_tree cs)) (cases-strict cases.items cs z values)
      ∙ provided-true (is_filled (map labeled cases.items)) (variant_tree cs)
      (zip-filled (CaseStands (SlotsStand slots)) labeled (λ c. (c.0, is_given c.1)) cases.items cs z
      (first_true (is_filled (map (λ c. (c.0, is_given c.1)) cs)) (are_values resources (child_list (given_trees (map (λ c. c.1) cs)))) g)) ∙ ap Some (sym e)
  definition-strict (form.List x) t (u, h, e) f = search (std_rules, bind, value-strict, first_true)
  definition-strict (form.FixedLengthList x n) t (u, h, e) f = search (std_rules, bind, value-strict, first_true, second_true, provided-true)
  definition-strict (form.Map x y) t (a, b, h, k, e) f = search (std_rules, second_true, bind, value-strict, first_true, provided-true)
  definition-strict (form.Tuple xs) t (ts, z, e) f =
      let g = sym (ap (is_formed resources) e) ∙ f in
      let same = children-list ts in
      let values = ap (are_values resources) (sym same) ∙ second_true (is_filled (child_list (children ts))) (are_values resources (child_list (children ts))) g in
      let filled = ap is_filled (sym same) ∙ first_true (is_filled (child_list (children ts))) (are_values resources (child_list (children ts))) g in
      bind (each (value_type slots) xs.items) ts (λ ts. provided (is_filled xs.items) (tuple_tree ts)) (values-strict xs.items ts z values)
      ∙ provided-true (is_filled xs.items) (tuple_tree ts) (zip-full (StandsFor (SlotsStand slots)) xs.items ts z filled) ∙ ap Some (sym e)
  definition-strict (form.Flags names) t h f = provided-true (is_filled (texts names.items)) (flags_tree (texts names.items)) (sym (ap (is_formed resources) h) ∙ f) ∙ ap Some (sym h)
  definition-strict (form.Enum names) t h f = provided-true (is_filled (texts names.items)) (enum_tree (texts names.items)) (sym (ap (is_formed resources) h) ∙ f) ∙ ap Some (sym h)
  definition-strict (form.Option x) t (u, h, e) f = search (std_rules, bind, value-strict, first_true)
  definition-strict (form.Result x y) t (a, b, h, k, e) f = search (std_rules, bind, optional-strict, first_true, second_true)
  definition-strict (form.Own i) t (u, h, e) f = search (std_rules, bind, resource-there, first_true)
  definition-strict (form.Borrow i) t (u, h, e) f = search (std_rules, bind, resource-there, first_true)
  definition-strict (form.Stream x) t (u, h, e) f = search (std_rules, bind, optional-strict, one-part)
  definition-strict (form.Future x) t (u, h, e) f = search (std_rules, bind, optional-strict, one-part)

  pub function-strict : (f : ComponentFuncType) (s : Signature) → FollowsFunction (SlotsStand slots) f s → are_values resources (map (λ q. q.1) s.params) ≡ true
      → are_values resources (option_to_list s.result) ≡ true → function_signature slots (raw_function f) ≡ Some s
  function-strict f s h ps r = search (std_rules, bind, fields-strict, optional-strict)

-- ---- one tree alone

module _ (slots : List Slot) where
  stands-once : (i : ℕ) (t u : Tree) → SlotsStand slots i (tree t) → SlotsStand slots i (tree u) → t ≡ u
  stands-once i t u h k = cc (sym h ∙ k)

  part-once : (x : ComponentValType) (t u : Tree) → StandsFor (SlotsStand slots) x t → StandsFor (SlotsStand slots) x u → t ≡ u
  part-once x t u h k = search std_rules

  optional-once : (x : Option ComponentValType) (t u : Option Tree) → StandsForOptional (SlotsStand slots) x t → StandsForOptional (SlotsStand slots) x u → t ≡ u
  optional-once y z u h k = search std_rules

  named-once : (x : Bor Text × ComponentValType) (f g : Text × Tree) → NamedStands (SlotsStand slots) x f → NamedStands (SlotsStand slots) x g → f ≡ g
  named-once x f g h k = λ i. ((sym h.0 ∙ k.0) i, part-once x.1 f.1 g.1 h.1 k.1 i)

  case-once : (x : Bor Text × Option ComponentValType) (f g : Text × Option Tree) → CaseStands (SlotsStand slots) x f → CaseStands (SlotsStand slots) x g → f ≡ g
  case-once x f g h k = λ i. ((sym h.0 ∙ k.0) i, optional-once x.1 f.1 g.1 h.1 k.1 i)

  pub follows-once : (d : ComponentDefinedType) (t u : Tree) → Follows (SlotsStand slots) d t → Follows (SlotsStand slots) d u → t ≡ u
  follows-once u t v h k = search (std_rules, zip-once, named-once, case-once, part-once, optional-once, stands-once)

  pub signature-once : (f : ComponentFuncType) (s r : Signature) → FollowsFunction (SlotsStand slots) f s → FollowsFunction (SlotsStand slots) f r → s ≡ r
  signature-once f s r h k = search (std_rules, zip-once, named-once, optional-once)
