-- What the kinds of two `Resolve`s' types declare.
use Rattle.std.proofs.Common.{rules as std_rules, ◌≡◌, ◌↔◌, refl, sym, ap, subst, ◌∙◌, ◌⊎◌, inl, inr, ℕ, Bool, true, false, List, [], ◌∷◌, map, length, Some, None, is_some, unwrap_or, IsTrue, Vec, Result, Ok, Err, IfOk}
use Rattle.std.proofs.{Math.ListN.length-map, lemmas.Option.slice_get_within as below_length}
use Rattle.std.specs.declared.alloc.{Global.Global, AllocError.AllocError}
use Rattle.std.specs.List.{Contains}
use Rattle.wit_model.specs.declared.model.{Resolve.Resolve, TypeDef.TypeDef, TypeId.TypeId, TypeDefKind.TypeDefKind, «Type».«Type» as ValueType}
use Rattle.wit_model.specs.{Lookup.type_at, Text.optional_text, Valid.IsValid, Valid.named_kinds, Meant.type_meaning_at, Rules.is_named_number, Rules.passes, Rules.is_resource_itself}
use Rattle.wit_model.specs.Tree.{Tree, Form, TypeDeclaration, type_, resource, primitive, named, node, children, child_list}
use Rattle.wit_model.specs.Types.{number_of, type_tree, tree_of, trees_of, no_tree, declared_by, tree_of_declaration}
use Rattle.wit_model.proofs.{Entries.each_from_at, Entries.lists_pass, TreeTable.kept_numbers, TreeLemmas.child_list_of_children as children_back}
use Rattle.compat_meaning.specs.declared.look.Look.{Look}
use Rattle.compat_meaning.specs.{Opened.form_of, Opened.places_of, TwoSides.AreParted, TwoSides.aliased, TwoSides.IsKindOf, TwoSides.SameDeclared, TwoSides.TellsDeclared}
use Rattle.compat_meaning.specs.Table.{AllInRange, InRange}
use Rattle.compat_meaning.proofs.{Alike.is_below, Alike.node_children, Alike.node_form, OpenedTable.opened_built}
use Rattle.compat_meaning.proofs.Sided.{named_is, never, number_case, places_in_range}
use Rattle.base_lemmas.proofs.{Bools.right_of as second_true, Elements.last_of as one-contained, Lists.within_there as found_at}
use Rattle.wit_model.specs.declared.model.TypeDefKind.TheVariants as kind
use Rattle.wit_model.specs.declared.model.Handle.TheVariants as handle
use Rattle.wit_model.specs.declared.model.«Type».TheVariants as ty
use Rattle.compat_meaning.specs.declared.look.Look.TheVariants as look

true_false : {P : Type 0} → true ≡ false → P
true_false e = let wrong : ⊥ = cc in absurd wrong

-- ---- what a declaration is

-- whether it is something of its own, and not another name
abbrev is_own : TypeDeclaration → Bool
is_own resource = true
is_own (type_ (primitive p)) = false
is_own (type_ (named place name)) = false
is_own (type_ (node f ts)) = true

alias_kind : (k : TypeDefKind) (t : ValueType) → aliased k ≡ Some t → k ≡ kind.Type_ t
alias_kind x t e = search std_rules

own : (trees : List Tree) (k : TypeDefKind) → aliased k ≡ None → is_own (declared_by trees k) ≡ true
own trees x e = search std_rules

-- a kind that is neither an alias nor a resource has a form
formed : (k : TypeDefKind) → aliased k ≡ None → is_resource_itself k ≡ false → (f : Form) × (form_of k ≡ Some f)
    × ((trees : List Tree) → declared_by trees k ≡ type_ (node f (children (map (tree_of trees) (places_of k)))))
formed (kind.Type_ t) e h = let wrong : ⊥ = cc in absurd wrong
formed kind.Resource e h = true_false h
formed (kind.Handle (handle.Own id)) e h = (_, refl, λ trees. refl)
formed (kind.Record x) e h = (_, refl, λ trees. ap type_ (opened_built trees no_tree (kind.Record x) refl))
formed (kind.Variant x) e h = (_, refl, λ trees. ap type_ (opened_built trees no_tree (kind.Variant x) refl))
formed (kind.Result x) e h = (_, refl, λ trees. ap type_ (opened_built trees no_tree (kind.Result x) refl))
formed (kind.Future t) e h = (_, refl, λ trees. ap type_ (opened_built trees no_tree (kind.Future t) refl))
formed (kind.Stream t) e h = (_, refl, λ trees. ap type_ (opened_built trees no_tree (kind.Stream t) refl))
formed _ e h = (_, refl, λ trees. refl)

-- ---- the target of an alias: a primitive or a name

module _ (r : Resolve) (v : IsValid r) where
  target_range : (k : TypeDefKind) → IsKindOf r k → (t : ValueType) → aliased k ≡ Some t → InRange r t
  target_range k (n, def, at, is) t e id same = search (std_rules, is_below n t, alias_kind k t e, kept_numbers r v.rules n def at, below_length r.types.items n def at)

  number_named : (n : ℕ) (def : TypeDef) → type_at r n ≡ Some def → (t : ValueType) → def.kind ≡ kind.Type_ t → passes (is_named_number r) (number_of t) ≡ true
  unfolding named_kinds
  number_named n def at t is = search (std_rules, second_true, each_from_at, lists_pass)

  target_named : (k : TypeDefKind) → IsKindOf r k → (t : ValueType) → aliased k ≡ Some t → is_own (type_ (type_tree r t)) ≡ false
  target_named k w t e = by (number_case t)
    where
      primitive_own : (u : ValueType) → number_of u ≡ None → is_own (type_ (tree_of (trees_of r) u)) ≡ false
      primitive_own (ty.Id id) q = let wrong : ⊥ = cc in absurd wrong
      primitive_own _ q = refl

      by : (number_of t ≡ None) ⊎ ((id : TypeId) × (t ≡ ty.Id id)) → is_own (type_ (type_tree r t)) ≡ false
      by (inl q) = primitive_own t q
      by (inr (id, q)) =
          let found = found_at r.types.items id.0 (target_range k w t e id q) in
          let rule : passes (is_named_number r) (Some id.0) ≡ true = ap (λ u. passes (is_named_number r) (number_of u)) (sym q) ∙ number_named w.0 w.1 w.2 t (w.3 ∙ alias_kind k t e) in
          let has_name : is_some found.0.name ≡ true = ap (λ o. passes (λ def. is_some def.name) o) (sym found.1) ∙ rule in
          ap (λ u. is_own (type_ (type_tree r u))) q ∙ ap (λ x. is_own (type_ x)) (named_is r v id.0 found.0 found.1 has_name)

  kind_places : (k : TypeDefKind) → IsKindOf r k → AllInRange r (places_of k)
  kind_places k (n, def, at, is) = subst (λ x. AllInRange r (places_of x)) is (places_in_range r v n def at)

-- ---- two kinds

tree_of_type : (a b : Tree) → type_ a ≡ type_ b → a ≡ b
tree_of_type a b e = ap tree_of_declaration e

module _ (d e : TypeDefKind) where
  -- an alias is another name, and nothing else is
  pub alias_apart : (t : ValueType) → aliased d ≡ Some t → aliased e ≡ None → TellsDeclared d e (look.Known false)
  alias_apart t p q a b va vb dk ek =
      never _ (λ same. true_false (sym (own (trees_of b) e q) ∙ ap is_own (sym same) ∙ ap (λ k. is_own (declared_by (trees_of a) k)) (alias_kind d t p) ∙ target_named a va d dk t p))

  pub apart_alias : (u : ValueType) → aliased d ≡ None → aliased e ≡ Some u → TellsDeclared d e (look.Known false)
  apart_alias u p q a b va vb dk ek =
      never _ (λ same. true_false (sym (own (trees_of a) d p) ∙ ap is_own same ∙ ap (λ k. is_own (declared_by (trees_of b) k)) (alias_kind e u q) ∙ target_named b vb e ek u q))

  pub aliases : (t u : ValueType) (ts us : Vec ValueType Global) → aliased d ≡ Some t → aliased e ≡ Some u → ts.items ≡ t ∷ [] → us.items ≡ u ∷ [] → TellsDeclared d e (look.Parts ts us)
  aliases t u ts us p q tis uis a b va vb dk ek =
      let left = ap (declared_by (trees_of a)) (alias_kind d t p) in
      let right = ap (declared_by (trees_of b)) (alias_kind e u q) in
      record {
        left = λ x c. target_range a va d dk x (p ∙ ap Some (one-contained t x (subst (λ xs. Contains xs x) tis c)));
        right = λ x c. target_range b vb e ek x (q ∙ ap Some (one-contained u x (subst (λ xs. Contains xs x) uis c)));
        same = λ m. left ∙ ap type_ (cc) ∙ sym right;
        back = λ s. ap (map (type_tree a)) tis ∙ ap (λ x. x ∷ []) (tree_of_type (type_tree a t) (type_tree b u) (sym left ∙ s ∙ right)) ∙ ap (map (type_tree b)) (sym uis);
      }

  -- a resource is a resource alone
  pub resource_first : (y : Bool) → is_resource_itself d ≡ true → y ≡ is_resource_itself e → TellsDeclared d e (look.Known y)
  resource_first y p q a b va vb dk ek = search std_rules

  pub resource_second : is_resource_itself d ≡ false → is_resource_itself e ≡ true → TellsDeclared d e (look.Known false)
  resource_second p q a b va vb dk ek = search std_rules

  module _ (da : aliased d ≡ None) (ea : aliased e ≡ None) (dr : is_resource_itself d ≡ false) (er : is_resource_itself e ≡ false) where
    module _ (a b : Resolve) where
      nodes : SameDeclared a b d e → node (formed d da dr).0 (children (map (type_tree a) (places_of d))) ≡ node (formed e ea er).0 (children (map (type_tree b) (places_of e)))
      nodes same = tree_of_type _ _ (sym ((formed d da dr).2 (trees_of a)) ∙ same ∙ (formed e ea er).2 (trees_of b))

      forms_same : SameDeclared a b d e → form_of d ≡ form_of e
      forms_same same = (formed d da dr).1 ∙ ap Some (node_form _ _ _ _ (nodes same)) ∙ sym (formed e ea er).1

      parts_same : SameDeclared a b d e → map (type_tree a) (places_of d) ≡ map (type_tree b) (places_of e)
      parts_same same = sym (children_back _) ∙ ap child_list (node_children _ _ _ _ (nodes same)) ∙ children_back _

      lengths_same : SameDeclared a b d e → length (places_of d) ≡ length (places_of e)
      lengths_same same = sym (length-map (places_of d) (type_tree a)) ∙ ap length (parts_same same) ∙ length-map (places_of e) (type_tree b)

      again : form_of d ≡ form_of e → map (type_tree a) (places_of d) ≡ map (type_tree b) (places_of e) → SameDeclared a b d e
      again f ts =
          let forms : (formed d da dr).0 ≡ (formed e ea er).0 = ap (λ o. unwrap_or o (formed d da dr).0) (sym (formed d da dr).1 ∙ f ∙ (formed e ea er).1) in
          (formed d da dr).2 (trees_of a) ∙ (λ i. type_ (node (forms i) (children (ts i)))) ∙ sym ((formed e ea er).2 (trees_of b))

    pub looked : (x : Result Look AllocError) → IfOk x (λ l. (y : Bool) → l ≡ look.Known y → (y ≡ false) × (form_of d ≡ form_of e → length (places_of d) ≡ length (places_of e) → ⊥))
        → IfOk x (λ l. (ts us : Vec ValueType Global) → l ≡ look.Parts ts us → (form_of d ≡ form_of e) × (ts.items ≡ places_of d) × (us.items ≡ places_of e) × (length ts.items ≡ length us.items))
        → IfOk x (TellsDeclared d e)
    looked (Err x) h k = tt
    looked (Ok (look.Known y)) h k = λ a b va vb dk ek. (λ t. true_false (sym t ∙ (h y refl).0), λ same. absurd ((h y refl).1 (forms_same a b same) (lengths_same a b same)))
    looked (Ok (look.Parts ts us)) h k = λ a b va vb dk ek.
        let w = k ts us refl in
        record {
          left = subst (AllInRange a) (sym w.1) (kind_places a va d dk);
          right = subst (AllInRange b) (sym w.2) (kind_places b vb e ek);
          same = λ m. again a b w.0 (ap (map (type_tree a)) (sym w.1) ∙ m ∙ ap (map (type_tree b)) w.2);
          back = λ s. ap (map (type_tree a)) w.1 ∙ parts_same a b s ∙ ap (map (type_tree b)) (sym w.2);
        }

-- what a look says of the lists that it gives
pub parts_told : (d e : TypeDefKind) (l : Look) (ts us : Vec ValueType Global) → TellsDeclared d e l → l ≡ look.Parts ts us → (a b : Resolve) → IsValid a → IsValid b → IsKindOf a d → IsKindOf b e
    → AreParted a b d e ts.items us.items
parts_told d e l ts us told is = subst (TellsDeclared d e) is told

-- ---- two types under their names

module _ (a b : Resolve) (n m : ℕ) (d e : TypeDef) (dat : type_at a n ≡ Some d) (eat : type_at b m ≡ Some e) where
  pub meanings : optional_text d.external_id ≡ optional_text e.external_id → (y : Bool) → (IsTrue y ↔ SameDeclared a b d.kind e.kind) → IsTrue y ↔ (type_meaning_at a n ≡ type_meaning_at b m)
  meanings ids y h = search std_rules
