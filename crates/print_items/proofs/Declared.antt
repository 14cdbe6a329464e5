-- Declared types, part by part.
use Rattle.std.proofs.Common.{rules as std_rules, ◌≡◌, refl, sym, ap, subst, ◌∙◌, Bool, true, false, ◌&&◌, ◌||◌, not, List, [], map, Option, Some, None}
use Rattle.std.proofs.lemmas.{List.Folds.list_all-map, Bool.lt-ltb, Bool.ltb-true, Option.slice_get_within}
use Rattle.std.specs.{Prelude.String, Prelude.is_some, Option.option_map_or, List.list_all}
use Rattle.std.specs.declared.alloc.Global.{Global}
use Rattle.wit_model.specs.declared.model.{Resolve.Resolve, TypeDef.TypeDef, TypeId.TypeId, Handle.Handle, «Type».«Type» as ValueType}
use Rattle.wit_model.specs.{Lookup.type_at, Parts.handle_target, Uses.alias_target}
use Rattle.wit_model.specs.{Rules.in_list, Rules.is_named_kind, Rules.is_named_number, Rules.passes, Text.Text, Text.text_of, Valid.IsValid, Valid.named_kinds}
use Rattle.print_output.specs.OutputCall.{lines_begun_after}
use Rattle.print_grammar.specs.{Tree.TypeTree, Calls.declared_calls, Calls.type_calls}
use Rattle.print_grammar.specs.{Tree.TypeTree.Name, Tree.Declared.AliasOf, WellNamed.are_well_some, WellNamed.is_well_type}
use Rattle.print_items.specs.{Shown.kind_tree, Shown.shown_type, Shown.type_trees, TypeParts.handles_label, TypeParts.is_labelled, TypeParts.kind_calls}
use Rattle.print_items.specs.DeclaredCalls.{alias_calls, is_word}
use Rattle.print_items.proofs.{TypesWell.type_rule, TypeParts.handles_at, TypeParts.shown_at, TypeParts.type_stays, TypeParts.well_in_range}
use Rattle.base_lemmas.proofs.{Bools.right_of, Lists.within_there as one_there}
use Rattle.wit_model.specs.declared.model.TypeDefKind.TheVariants as defined
use Rattle.wit_model.specs.declared.model.«Type».TheVariants as value
use Rattle.print_output.specs.declared.type_kind.TypeKind.TheVariants as kind

-- what is in a block passes the test, as it is shown
pub block_members : {X Y : Type 0} (well : Y → Bool) (show : X → Y) (label : Bool) (xs : List X) → (label && are_well_some well (map show xs)) ≡ true → list_all (λ x. well (show x)) xs ≡ true
block_members well show label xs h = sym (list_all-map well show xs) ∙ right_of _ _ (right_of label _ h)

-- ---- what `type` declares

-- a word alone
pub word_alias : (name : Text) (t : TypeTree) → is_word t ≡ true → alias_calls name kind.TypeName (type_calls t) ≡ declared_calls true (AliasOf name t)
word_alias name t h = search std_rules

-- a kind behind other text leaves its line as it is
pub kind_stays : (r : Resolve) (id : TypeId) → lines_begun_after false (kind_calls r id) ≡ false
kind_stays r id = search (std_rules, type_stays)

module _ (r : Resolve) (id : TypeId) (def : TypeDef) (at : type_at r id.0 ≡ Some def) where
  pub in_range_at : in_list r.types.items id.0 ≡ true
  in_range_at = lt-ltb _ _ (slice_get_within r.types.items id.0 def at)

  -- the kind of a type number
  pub kind_of : kind_calls r id ≡ type_calls (kind_tree r (type_trees r) def.kind)
  kind_of = ap (λ o. option_map_or (λ d. type_calls (kind_tree r (type_trees r) d.kind)) o []) at

  module _ (valid : IsValid r) where
    -- a handle's resource has a label
    pub handle_labelled : (h : Handle) → def.kind ≡ defined.Handle h → is_labelled r (handle_target h) ≡ true
    handle_labelled h e = subst (λ k. handles_label r k ≡ true) e (handles_at r valid id def at)

    named_word : (t : TypeId) (target : TypeDef) → type_at r t.0 ≡ Some target → is_some target.name ≡ true → is_word (shown_type r (value.Id t)) ≡ true
    named_word t target there named = subst (λ tree. is_word tree ≡ true) (sym (shown_at r valid t target there)) (go target.name named)
      where
        go : (name : Option (String Global)) → is_some name ≡ true → is_word (option_map_or (λ s. Name (text_of s)) name (kind_tree r (type_trees r) target.kind)) ≡ true
        go None h = absurd cc
        go (Some s) h = refl

    -- an alias of a number is one of a name
    pub alias_word : (t : ValueType) → def.kind ≡ defined.Type_ t → is_well_type (shown_type r t) ≡ true → is_word (shown_type r t) ≡ true
    unfolding named_kinds
    alias_word (value.Id t) e well =
        let rule = right_of (not (is_named_kind def.kind) || is_some def.name) _ (type_rule r valid named_kinds valid.rules.named_kinds id.0 def at) in
        let there = one_there r.types.items t.0 (ltb-true _ _ (well_in_range r (value.Id t) well)) in
        named_word t there.0 there.1 (subst (λ o. passes (λ target. is_some target.name) o ≡ true) there.1 (subst (λ a. passes (is_named_number r) a ≡ true) (ap alias_target e) rule))
    alias_word t e well = refl
