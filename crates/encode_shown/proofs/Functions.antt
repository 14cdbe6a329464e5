-- A function of an owner obeys the rules in the owner's place.
use Rattle.std.proofs.Common.{rules as std_rules, ◌≡◌, refl, sym, ap, ◌∙◌, ℕ, Bool, true, false, not, ◌&&◌, ◌||◌, ◌==◌, cond, List, [], ◌∷◌, map, slice_get, Option, Some, None, String, option_map, option_to_list}
use Rattle.std.proofs.lemmas.{List.Folds.list_all-append, List.Folds.list_all-map, Bool.and_from as both, Bool.or_left as or-first, Bool.or_right as or-second}
use Rattle.std.proofs.lemmas.{Simd.map-map, Option.same_Some as same-some}
use Rattle.std.specs.declared.alloc.Global.{Global}
use Rattle.std.specs.{Prelude.is_some, Prelude.is_none, Prelude.filter_map, Prelude.codes, List.Contains, List.list_all, List.list_any, Option.option_map_or}
use Rattle.wit_model.specs.{Text.Text, Text.text_of, Text.text_eq, Text.optional_text, Lookup.type_at, Lookup.place_of, Lookup.resource_of, Lookup.is_async}
use Rattle.wit_model.specs.{Names.is_label, Names.constructor_name, Names.method_name, Names.static_name, Parts.same_owner, Parts.function_types, Valid.IsValid}
use Rattle.wit_model.specs.{Tree.Tree, Tree.Place, Tree.named, Tree.own_tree, Tree.borrow_tree, Tree.result_tree, Meant.signature_of}
use Rattle.wit_model.specs.Types.{type_tree, number_tree, number_of, declared_by, trees_of, tree_of_declaration}
use Rattle.wit_model.specs.Rules.{passes, in_list, after_prefix, function_in_range, function_labels, function_stays, is_freestanding, are_member_labels, is_shallow, is_member, is_member_of, is_member_name, resource_name, is_resource_itself, takes_self, type_is, is_own_of, is_borrow_of, is_own_kind, is_borrow_kind, has_own_ok, is_result_of_own}
use Rattle.wit_model.specs.declared.model.{Resolve.Resolve, FunctionKind.FunctionKind, TypeDefKind.TypeDefKind, TypeOwner.TypeOwner, «Type».«Type» as ValueType}
use Rattle.wit_model.specs.declared.model.{Function.Function, Param.Param, TypeDef.TypeDef}
use Rattle.comp_meaning.specs.Same.{same_tree}
use Rattle.comp_meaning.specs.Rules.{is_part, is_parameter_type, is_result_type, is_signature, own_of_name, borrow_name, is_label_behind, begins_with_self, is_function_of, is_function}
use Rattle.comp_meaning.proofs.SameLaws.{tree_itself}
use Rattle.encode_shown.proofs.{Basics.or-cases, Basics.given-by, Basics.passed, Parts.labels-from, Parts.named-tree, Parts.unnamed-tree, Parts.values-part}
use Rattle.base_lemmas.proofs.{Elements.all_two, Elements.any-at, Options.none_is, Bools.given-not, Bools.left_of as first_true, Bools.right_of as second_true}
use Rattle.wit_model.proofs.PartsLemmas.{owner_same as same-owner}
use Rattle.wit_model.specs.declared.model.FunctionKind.TheVariants as call
use Rattle.wit_model.specs.declared.model.TypeDefKind.TheVariants as kind
use Rattle.comp_meaning.specs.Rules as shown

-- ---- prefixes

-- a label behind a prefix
label-behind : (ps bs : Text) → option_map_or is_label (after_prefix ps bs) false ≡ true → is_label_behind ps bs ≡ true
label-behind [] bs h = h
label-behind (p ∷ ps) [] h = absurd cc
label-behind (p ∷ ps) (b ∷ bs) h = go (label-behind ps bs) (p == b) refl h
  where
    go : (option_map_or is_label (after_prefix ps bs) false ≡ true → is_label_behind ps bs ≡ true) → (v : Bool) → (p == b) ≡ v
        → option_map_or is_label (cond v (after_prefix ps bs) None) false ≡ true → is_label_behind (p ∷ ps) (b ∷ bs) ≡ true
    go more x e h = search std_rules

-- ---- signatures

module _ (place : Place) (r : Resolve) where
  abbrev is_value : ValueType → Bool
  is_value t = is_parameter_type place (type_tree r t)

  abbrev shown_param : Param → Text × Tree
  shown_param p = (text_of p.name, type_tree r p.ty)

  result-passes : (o : Option ValueType) → list_all is_value (option_to_list o) ≡ true → is_result_type place (option_map (type_tree r) o) ≡ true
  result-passes x h = search std_rules

  signature-from : (f : Function) → are_member_labels (map (λ p. text_of p.name) f.params.items) ≡ true → list_all is_value (function_types f) ≡ true → is_signature place (signature_of r f) ≡ true
  signature-from f names values = search (std_rules, list_all-append, both, map-map, labels-from, list_all-map, first_true, result-passes, second_true)

module _ (r : Resolve) (v : IsValid r) where
  -- ---- handles of a resource

  -- an unnamed type whose kind passes a test is as its kind says
  unnamed-type : (test : TypeDefKind → Bool) (t : ValueType) → type_is r (λ def. is_none def.name && test def.kind) t ≡ true
      → (k : TypeDefKind) × (type_tree r t ≡ tree_of_declaration (declared_by (trees_of r) k)) × (test k ≡ true)
  unnamed-type test x h = search (std_rules, passed, unnamed-tree, none_is, first_true, second_true)

  own-kind : (n : ℕ) (k : TypeDefKind) → is_own_kind n k ≡ true → tree_of_declaration (declared_by (trees_of r) k) ≡ own_tree (number_tree r n)
  own-kind n x h = search std_rules

  borrow-kind : (n : ℕ) (k : TypeDefKind) → is_borrow_kind n k ≡ true → tree_of_declaration (declared_by (trees_of r) k) ≡ borrow_tree (number_tree r n)
  borrow-kind n x h = search std_rules

  -- ---- functions of resources

  module _ (place : Place) (name : Text) (n : ℕ) (tree_is : number_tree r n ≡ named place name) where
    own-named : (t : ValueType) → type_is r (is_own_of n) t ≡ true → type_tree r t ≡ own_of_name place name
    own-named t h = let k = unnamed-type (is_own_kind n) t h in k.1 ∙ own-kind n k.0 k.2 ∙ ap own_tree tree_is

    constructs-result : (k : TypeDefKind) → has_own_ok r n k ≡ true → shown.may_construct (own_of_name place name) (Some (tree_of_declaration (declared_by (trees_of r) k))) ≡ true
    constructs-result (kind.Result x) h =
        let ok = passed (type_is r (is_own_of n)) x.ok h in
        ap (λ o. shown.may_construct (own_of_name place name) (Some (result_tree (option_map (type_tree r) o) (option_map (type_tree r) x.err)))) ok.1
        ∙ ap (λ u. same_tree u (own_of_name place name)) (own-named ok.0 ok.2) ∙ tree_itself (own_of_name place name)
    constructs-result _ h = absurd cc

    constructs-shown : (o : Option ValueType) → option_map_or (λ t. type_is r (is_own_of n) t || type_is r (is_result_of_own r n) t) o false ≡ true
        → shown.may_construct (own_of_name place name) (option_map (type_tree r) o) ≡ true
    constructs-shown None h = absurd cc
    constructs-shown (Some t) h = or-cases (type_is r (is_own_of n) t) (type_is r (is_result_of_own r n) t) h
        (λ e. ap (λ u. shown.may_construct (own_of_name place name) (Some u)) (own-named t e) ∙ tree_itself (own_of_name place name))
        (λ e. let k = unnamed-type (has_own_ok r n) t e in ap (λ u. shown.may_construct (own_of_name place name) (Some u)) k.1 ∙ constructs-result k.0 k.2)

    self-shown : (ps : List Param) → option_map_or (λ p. text_eq (text_of p.name) (codes "self") && type_is r (is_borrow_of n) p.ty) (slice_get ps 0) false ≡ true
        → begins_with_self (borrow_name place name) (map (shown_param place r) ps) ≡ true
    self-shown [] h = absurd cc
    self-shown (p ∷ ps) h =
        let k = unnamed-type (is_borrow_kind n) p.ty (second_true (text_eq (text_of p.name) (codes "self")) _ h) in
        both _ _ (first_true (text_eq (text_of p.name) (codes "self")) _ h)
        (ap (λ u. same_tree u (borrow_name place name)) (k.1 ∙ borrow-kind n k.0 k.2 ∙ ap borrow_tree tree_is) ∙ tree_itself (borrow_name place name))

    -- a function of the resource of this number
    member-shown : (f : Function) → is_some (resource_of f.kind) ≡ true → is_member_of r n name f f.kind ≡ true → is_function_of place (text_of f.name) (signature_of r f) name ≡ true
    member-shown f some h = go f.kind refl some h
      where
        constructor_ : Bool
        constructor_ = (text_eq (text_of f.name) (constructor_name name) && not (is_async f.kind)) && shown.may_construct (own_of_name place name) (option_map (type_tree r) f.result)

        method_ : Bool
        method_ = is_label_behind (method_name name []) (text_of f.name) && begins_with_self (borrow_name place name) (signature_of r f).params

        static_ : Bool
        static_ = is_label_behind (static_name name []) (text_of f.name)

        as-method : (is_member_name (method_name name []) f && takes_self r n f) ≡ true → is_function_of place (text_of f.name) (signature_of r f) name ≡ true
        as-method h = or-first (constructor_ || method_) static_ (or-second constructor_ method_
            (both _ _ (label-behind (method_name name []) (text_of f.name) (first_true (is_member_name (method_name name []) f) _ h))
            (self-shown f.params.items (second_true (is_member_name (method_name name []) f) _ h))))

        as-static : is_member_name (static_name name []) f ≡ true → is_function_of place (text_of f.name) (signature_of r f) name ≡ true
        as-static h = or-second (constructor_ || method_) static_ (label-behind (static_name name []) (text_of f.name) h)

        go : (k : FunctionKind) → f.kind ≡ k → is_some (resource_of k) ≡ true → is_member_of r n name f k ≡ true → is_function_of place (text_of f.name) (signature_of r f) name ≡ true
        go (call.Method id) e s h = as-method h
        go (call.AsyncMethod id) e s h = as-method h
        go (call.Static id) e s h = as-static h
        go (call.AsyncStatic id) e s h = as-static h
        go (call.Constructor id) e s h = or-first (constructor_ || method_) static_ (or-first constructor_ method_
            (both _ _ (both _ _ (first_true (text_eq (text_of f.name) (constructor_name name)) _ h) (ap (λ k. not (is_async k)) e))
            (constructs-shown f.result (second_true (text_eq (text_of f.name) (constructor_name name)) _ h))))
        go _ e s h = absurd cc

  -- ---- functions of an owner

  -- the resource that a function belongs to
  pub record IsResourceOf (o : TypeOwner) (n : ℕ) (name : Text) : Type 0 where
    pub def : TypeDef
    pub there : type_at r n ≡ Some def
    pub itself : is_resource_itself def.kind ≡ true
    pub owned : def.owner ≡ o
    pub string : String Global
    pub named_ : def.name ≡ Some string
    pub text : name ≡ text_of string

  resource-found : (o : TypeOwner) (n : ℕ) (name : Text) → resource_name r o n ≡ Some name → IsResourceOf o n name
  resource-found o n name h =
      let given = given-by (λ (def : TypeDef). cond (is_resource_itself def.kind && same_owner def.owner o) (optional_text def.name) None) (type_at r n) name h in
      tested given.0 given.1 (is_resource_itself given.0.kind && same_owner given.0.owner o) refl given.0.name refl given.2
    where
      tested : (def : TypeDef) → type_at r n ≡ Some def → (b : Bool) → (is_resource_itself def.kind && same_owner def.owner o) ≡ b → (x : Option (String Global)) → def.name ≡ x
          → cond b (optional_text x) None ≡ Some name → IsResourceOf o n name
      tested def at true e (Some s) q h = record {
        def = def;
        there = at;
        itself = first_true (is_resource_itself def.kind) _ e;
        owned = same-owner def.owner o (second_true (is_resource_itself def.kind) _ e);
        string = s;
        named_ = q;
        text = sym (same-some (text_of s) name h);
      }
      tested def at _ e _ q h = absurd cc

  module _ (o : TypeOwner) (f : Function) (resources : List Text) where
    -- A function of the owner may stand where its resource does.
    pub function-shown : function_in_range r f ≡ true → function_labels f ≡ true → function_stays r o f ≡ true → list_all (is_shallow r) (function_types f) ≡ true → is_member r o f ≡ true
        → ((n : ℕ) (name : Text) → resource_of f.kind ≡ Some n → IsResourceOf o n name → Contains resources name) → is_function (place_of r o) resources (text_of f.name) (signature_of r f) ≡ true
    function-shown range labelled stay flat member home = both _ _ (signature-from (place_of r o) r f (first_true (are_member_labels (map (λ p. text_of p.name) f.params.items)) _
        (second_true (not (is_freestanding f.kind) || is_label (text_of f.name)) _ labelled)) values)
        (go (resource_of f.kind) refl member)
      where
        inside : list_all (in_list r.types.items) (filter_map number_of (function_types f)) ≡ true
        inside = first_true _ _ (sym (list_all-append (in_list r.types.items) (filter_map number_of (function_types f)) (option_to_list (resource_of f.kind))) ∙ range)

        values : list_all (is_value (place_of r o) r) (function_types f) ≡ true
        values = all_two (λ t. is_part (place_of r o) (type_tree r t)) (is_shallow r) (is_value (place_of r o) r) (λ t h g. both _ _ h g) (function_types f)
            (sym (list_all-map (is_part (place_of r o)) (type_tree r) (function_types f)) ∙ values-part r v o (function_types f) inside stay) flat

        go : (x : Option ℕ) → resource_of f.kind ≡ x → passes (λ n. option_map_or (λ name. is_member_of r n name f f.kind) (resource_name r o n) false) x ≡ true
            → (is_label (text_of f.name) || list_any (is_function_of (place_of r o) (text_of f.name) (signature_of r f)) resources) ≡ true
        go None e h = or-first (is_label (text_of f.name)) _ (given-not (is_freestanding f.kind) (is_label (text_of f.name)) (ap is_none e)
            (first_true (not (is_freestanding f.kind) || is_label (text_of f.name)) _ labelled))
        go (Some n) e h =
            let name = passed (λ name. is_member_of r n name f f.kind) (resource_name r o n) h in
            let is = resource-found o n name.0 name.1 in
            let tree : number_tree r n ≡ named (place_of r o) name.0 = named-tree r v n is.def is.string is.there is.named_ ∙ (λ i. named (place_of r (is.owned i)) (sym is.text i)) in
            or-second (is_label (text_of f.name)) _ (any-at (is_function_of (place_of r o) (text_of f.name) (signature_of r f)) resources name.0 (home n name.0 e is)
            (member-shown (place_of r o) name.0 n tree f (ap is_some e) name.2))
