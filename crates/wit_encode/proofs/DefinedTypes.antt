-- Which value types a scope defines, from what has been defined call by call.
use Rattle.std.proofs.Common.{◌≡◌, refl, sym, ap, subst, ◌∙◌, ℕ, suc, Bool, true, false, List, [], ◌∷◌, ◌++◌, map, Option, Some, None, arith, count_by, inl, inr}
use Rattle.std.proofs.{lemmas.List.Elements.Contains-append_right, lemmas.Bool.cases_Bool}
use Rattle.std.proofs.lemmas.List.Sorted.{IsPermutation-refl, IsPermutation-trans, IsPermutation-sym, IsPermutation-cons, IsPermutation-middle, IsPermutation-append_left, Contains-permutation}
use Rattle.std.specs.Prelude.{nat_eq, not, cond, filter, IsPermutation, String, ◌||◌}
use Rattle.std.specs.{List.Contains, List.AllZip, Option.option_map_or, Option.is_some, Set.is_member, Set.distinct_count}
use Rattle.std.specs.declared.alloc.Global.{Global}
use Rattle.wit_model.specs.{Text.Text, Text.text_of, Uses.alias_target, Parts.kind_numbers}
use Rattle.wit_model.specs.{Tree.Tree, Tree.Place, Tree.named, Types.number_tree, Types.trees_of, Types.tree_of_declaration, Types.declared_by}
use Rattle.wit_model.specs.{Rules.is_named_kind, Rules.is_named_number, Rules.passes, Lookup.type_at, Lookup.place_of, Valid.IsValid, Valid.named_kinds}
use Rattle.wit_model.specs.declared.model.{Resolve.Resolve, InterfaceId.InterfaceId, TypeDefKind.TypeDefKind, «Type».«Type» as ValueType, Function.Function}
use Rattle.wit_model.specs.declared.model.{TypeId.TypeId, TypeDef.TypeDef}
use Rattle.comp_bytes.specs.Raw.{Declarations}
use Rattle.encode_types.specs.declared.maps.TypeEncodingMaps.{TypeEncodingMaps}
use Rattle.encode_types.specs.{Codes.kind_code, Codes.lists_of, Codes.ListKey, Maps.MapsAgree, Maps.by_kind, Maps.by_number}
use Rattle.encode_types.specs.{Kinds.kind_tree, Scope.Scope, Distinct.defined_under_names, Distinct.value_slots, Distinct.targets_of, Distinct.DefinesTypes}
use Rattle.encode_types.specs.{Slots.Pairs, Slots.Standing, Slots.tree, MetKinds.AreMetKinds, MetKinds.referred}
use Rattle.encode_types.specs.Counts.{Definitions, Marked, slots_of, named_slots, other_slots, kind_slots, names_defined, is_defined_by_name, IsTarget, AddsSlots}
use Rattle.encode_types.proofs.Encoding.{tabled}
use Rattle.wit_encode.proofs.{Validity.valid-unnamed, Validity.valid-layered, Reached.part-at, ValueSlots.IsPlain}
use Rattle.base_lemmas.proofs.{Bools.right_of as second_true, Elements.contains-one, Elements.member-there as slot-there, Elements.there-member as has-slot}
use Rattle.wit_model.proofs.ValidLemmas.{type_passes}

-- ---- lists of slots

-- the slots of kinds, and behind them those of names
split-marked : (xs : Marked) → IsPermutation (slots_of xs) (other_slots xs ++ named_slots xs)
split-marked [] = IsPermutation-refl []
split-marked ((false, i) ∷ xs) = IsPermutation-cons i (slots_of xs) (other_slots xs ++ named_slots xs) (split-marked xs)
split-marked ((true, i) ∷ xs) = IsPermutation-trans (i ∷ slots_of xs) (i ∷ (other_slots xs ++ named_slots xs)) (other_slots xs ++ i ∷ named_slots xs)
    (IsPermutation-cons i (slots_of xs) (other_slots xs ++ named_slots xs) (split-marked xs)) (IsPermutation-sym _ _ (IsPermutation-middle (other_slots xs) i (named_slots xs)))

-- where a test holds of the marked ones alone, they pass
passes-marked : (p : ℕ → Bool) (xs : Marked) → ((i : ℕ) → Contains (named_slots xs) i → p i ≡ true) → ((i : ℕ) → Contains (other_slots xs) i → p i ≡ false) → filter p (slots_of xs) ≡ named_slots xs
passes-marked p [] y n = refl
passes-marked p ((true, i) ∷ xs) y n = keep (p i) (y i (0, omega arith, refl)) (passes-marked p xs (λ j c. y j (suc c.0, omega (arith, c.1), c.2)) n)
  where
    keep : (b : Bool) → b ≡ true → filter p (slots_of xs) ≡ named_slots xs → cond b (i ∷ filter p (slots_of xs)) (filter p (slots_of xs)) ≡ i ∷ named_slots xs
    keep true h e = ap (λ ys. i ∷ ys) e
    keep false h e = absurd cc
passes-marked p ((false, i) ∷ xs) y n = drop (p i) (n i (0, omega arith, refl)) (passes-marked p xs y (λ j c. n j (suc c.0, omega (arith, c.1), c.2)))
  where
    drop : (b : Bool) → b ≡ false → filter p (slots_of xs) ≡ named_slots xs → cond b (i ∷ filter p (slots_of xs)) (filter p (slots_of xs)) ≡ named_slots xs
    drop true h e = absurd cc
    drop false h e = e

-- ---- what names and kinds stand for

-- the tree of a named number is its name
named-number : (r : Resolve) → IsValid r → (m : ℕ) (d : TypeDef) → type_at r m ≡ Some d → is_some d.name ≡ true → (place : Place) × (name : Text) × (number_tree r m ≡ named place name)
named-number r v m d at given = go d.name refl given
  where
    go : (o : Option (String Global)) → d.name ≡ o → is_some o ≡ true → (place : Place) × (name : Text) × (number_tree r m ≡ named place name)
    go None e h = absurd cc
    go (Some name) e h = (
      place_of r d.owner,
      text_of name,
      tabled r (valid-layered r v) m d at ∙ ap (λ o. option_map_or (λ name. named (place_of r d.owner) (text_of name)) o (tree_of_declaration (declared_by (trees_of r) d.kind))) e,
    )

-- what another name is exported from stands for a name
target-named : (r : Resolve) → IsValid r → (m : TypeEncodingMaps) (S : Pairs) (i : ℕ) → MapsAgree r m S → IsTarget r m i → (place : Place) × (name : Text) × S i (tree (named place name))
unfolding named_kinds
target-named r v m S i agree t =
    let rule = second_true (not (is_named_kind t.def.kind) || is_some t.def.name) (passes (is_named_number r) (alias_target t.def.kind))
    (type_passes named_kinds r v.rules.named_kinds t.number t.def t.there) in
    let target : is_named_number r t.target.0 ≡ true = ap (λ k. passes (is_named_number r) (alias_target k)) (sym t.alias) ∙ rule in
    let part = part-at r v t.number t.def t.there t.target.0 (subst (λ (k : TypeDefKind). Contains (kind_numbers k) t.target.0) (sym t.alias) (contains-one t.target.0)) in
    let is = named-number r v t.target.0 part.0 part.1 (ap (passes (λ (d : TypeDef). is_some d.name)) (sym part.1) ∙ target) in
    (is.0, is.1, subst (λ (x : Tree). S i (tree x)) is.2 (agree.says (by_number t.target.0) i t.index))

abbrev first : List (List ℕ) → List ℕ
first [] = []
first (y ∷ ys) = y

abbrev behind : List (List ℕ) → List (List ℕ)
behind [] = []
behind (y ∷ ys) = ys

-- the slot of each kind that is known
kinds-stand : (r : Resolve) (m : TypeEncodingMaps) (S : Pairs) → MapsAgree r m S → (es : List (ListKey × ℕ)) (ks : List TypeDefKind)
    → map (λ e. e.0) (map {B = List ℕ × ℕ} (λ e. (e.0.0.items, e.1)) es) ≡ map kind_code ks
    → ((x : List ℕ × ℕ) → Contains (map {B = List ℕ × ℕ} (λ e. (e.0.0.items, e.1)) es) x → Contains (lists_of m.def_to_index) x) → ((k : TypeDefKind) → Contains ks k → is_named_kind k ≡ false)
    → AllZip (λ k i. S i (tree (kind_tree r k))) ks (map (λ e. e.1) es)
kinds-stand r m S agree [] [] e known unnamed = tt
kinds-stand r m S agree [] (k ∷ ks) e known unnamed = absurd cc
kinds-stand r m S agree (x ∷ es) [] e known unnamed = absurd cc
kinds-stand r m S agree (x ∷ es) (k ∷ ks) e known unnamed = (
  agree.says (by_kind k) x.1 (unnamed k (0, omega arith, refl), subst (λ (l : List ℕ). Contains (lists_of m.def_to_index) (l, x.1)) (head e) (known (x.0.0.items, x.1) (0, omega arith, refl))),
  kinds-stand r m S agree es ks (tail e) (λ y c. known y (suc c.0, (let l = c.1 in omega arith), c.2)) (λ y c. unnamed y (suc c.0, (let l = c.1 in omega arith), c.2)),
)
  where
    head : x.0.0.items ∷ map (λ e. e.0) (map {B = List ℕ × ℕ} (λ e. (e.0.0.items, e.1)) es) ≡ kind_code k ∷ map kind_code ks → x.0.0.items ≡ kind_code k
    head h = ap first h

    tail : x.0.0.items ∷ map (λ e. e.0) (map {B = List ℕ × ℕ} (λ e. (e.0.0.items, e.1)) es) ≡ kind_code k ∷ map kind_code ks
        → map (λ e. e.0) (map {B = List ℕ × ℕ} (λ e. (e.0.0.items, e.1)) es) ≡ map kind_code ks
    tail h = ap behind h

-- ---- the whole

-- these kinds are those whose lists the maps hold, each once
pub record HeldKinds (r : Resolve) (own : Option InterfaceId) (ts : List ValueType) (m : TypeEncodingMaps) : Type 0 where
  pub kinds : List TypeDefKind
  pub lists : map (λ e. e.0) (lists_of m.def_to_index) ≡ map kind_code kinds
  pub met : AreMetKinds r own ts kinds

module _ (r : Resolve) (v : IsValid r) (own : Option InterfaceId) (scope : Scope) (S : Pairs) (m m' : TypeEncodingMaps) (d d' : Definitions) (ts : List TypeId) (fs : List Function)
    (declared : Declarations) (a : AddsSlots r scope m m' d d') (agree : MapsAgree r m' S) (once : (i : ℕ) (s t : Standing) → S i s → S i t → s ≡ t)
    (plain : (i : ℕ) → Contains (value_slots declared) i → (t : Tree) × S i (tree t) × IsPlain t)
    (values : value_slots declared ≡ slots_of a.added) (targets : targets_of declared ≡ slots_of a.targets) where
  is-value : (i : ℕ) → Contains (named_slots a.targets) i → is_member nat_eq (value_slots declared) i ≡ true
  is-value i c =
      let there : Contains (slots_of a.added) i = Contains-permutation (other_slots a.added ++ named_slots a.added) (slots_of a.added) i (IsPermutation-sym _ _ (split-marked a.added))
      (Contains-append_right (other_slots a.added) (named_slots a.added) i (subst (λ xs. Contains xs i) a.own c)) in
      has-slot (value_slots declared) i (subst (λ xs. Contains xs i) (sym values) there)

  no-value : (i : ℕ) → Contains (other_slots a.targets) i → is_member nat_eq (value_slots declared) i ≡ false
  no-value i c = elim (cases_Bool (is_member nat_eq (value_slots declared) i)) [
    | inl e ↦ (let p = plain i (slot-there (value_slots declared) i e) in
        let n = target-named r v m' S i agree (a.others i c) in
        let same : tree p.0 ≡ tree (named n.0 n.1) = once i (tree p.0) (tree (named n.0 n.1)) p.1 n.2 in
        absurd (p.2 n.0 n.1 cc))
    | inr e ↦ e
  ]

  pub defines-types : m.id_to_index.entries ≡ [] → m.def_to_index.entries ≡ [] → HeldKinds r own (referred ts fs) m' → names_defined r scope m' ≡ distinct_count nat_eq (defined_under_names r own ts)
      → DefinesTypes r own S ts fs declared
  defines-types no_numbers no_kinds held defined = record {
    kinds = held.kinds;
    met = held.met;
    kind_slots = kind_slots m';
    stand = kinds-stand r m' S agree m'.def_to_index.entries held.kinds held.lists (λ x c. c)
        (λ k c. let met = held.met.met k c in subst (λ (z : TypeDefKind). is_named_kind z ≡ false) met.same (valid-unnamed r v met.number met.def met.there met.unnamed));
    name_slots = named_slots a.added;
    named = ap (filter (is_member nat_eq (value_slots declared))) targets ∙ passes-marked (is_member nat_eq (value_slots declared)) a.targets is-value no-value ∙ a.own;
    count = omega (arith, a.names, ap (count_by (λ (e : ℕ × ℕ). is_defined_by_name r scope e.0)) no_numbers);
    all = subst (λ xs. IsPermutation xs (kind_slots m' ++ named_slots a.added)) (sym values)
        (IsPermutation-trans (slots_of a.added) (other_slots a.added ++ named_slots a.added) (kind_slots m' ++ named_slots a.added) (split-marked a.added)
        (IsPermutation-append_left (named_slots a.added) (other_slots a.added) (kind_slots m')
        (subst (λ xs. IsPermutation (xs ++ other_slots a.added) (kind_slots m')) (ap (map (λ (e : ListKey × ℕ). e.1)) no_kinds) a.kinds)));
  }
