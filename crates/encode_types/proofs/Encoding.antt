-- The loop that defines what types need, in order.
use Rattle.std.proofs.Common.{◌≡◌, refl, subst, ap, ◌∙◌, ℕ, ◌+◌, ◌<◌, ◌≤◌, false, ◌&&◌, List, ◌++◌, inl, inr, Option, Some, None, length, take, get_or, arith, unwrap_or}
use Rattle.std.proofs.lemmas.List.{take_more, take_all}
use Rattle.std.proofs.lemmas.List.Elements.{Contains-push_cases, Contains-push, Contains-append_left, Contains-append_right}
use Rattle.std.specs.Prelude.{is_none, is_some, String, option_and_then, option_map, cond}
use Rattle.std.specs.{Option.option_map_or, List.Contains}
use Rattle.std.specs.declared.alloc.Global.{Global}
use Rattle.wit_model.specs.{Text.text_of, Lookup.type_at, Types.no_tree, Types.number_tree, Types.trees_of, Types.tree_of_definition}
use Rattle.wit_model.proofs.TreeTable.{trees_at}
use Rattle.wit_model.specs.declared.model.{Resolve.Resolve, TypeDef.TypeDef, InterfaceId.InterfaceId, «Type».«Type» as ValueType}
use Rattle.encode_types.specs.declared.maps.TypeEncodingMaps.{TypeEncodingMaps}
use Rattle.encode_types.specs.{Kinds.parts_of, Kinds.has_definition, Maps.IsKnown, Maps.AllReady, Maps.MapsGrow, Maps.LearnsOnly, Maps.LearnsOne, Scope.Scope, Counts.is_defined_by_name, Counts.is_defined_under_name, Counts.own_name, Counts.name_of_own}
use Rattle.encode_types.specs.Plan.{foreign_owner, Reaches, itself, through, Meets, at_once, further, MetFrom, IsLayered, InRange, IsOrdered, IsOrderOf}
use Rattle.encode_types.proofs.{Agree.known-grow, Planning.part-smaller}

-- ---- single numbers

-- the tree of a number is made of the trees of its parts
pub tabled : (r : Resolve) → IsLayered r → (n : ℕ) (def : TypeDef) → type_at r n ≡ Some def → number_tree r n ≡ tree_of_definition r (trees_of r) def
tabled r l n def at = ap (λ o. unwrap_or o no_tree) (trees_at r n def at (l.smaller n def at))

pub defined-at : (r : Resolve) (scope : Scope) (n : ℕ) (def : TypeDef) → type_at r n ≡ Some def → is_defined_by_name r scope n ≡ is_defined_under_name scope def
defined-at r scope n def at = ap (λ o. option_map_or (is_defined_under_name scope) o false) at

pub foreign-undefined : (r : Resolve) (scope : Scope) (n : ℕ) (def : TypeDef) (i : InterfaceId) → type_at r n ≡ Some def → foreign_owner scope.own_interface def.owner ≡ Some i
    → is_defined_by_name r scope n ≡ false
foreign-undefined r scope n def i at f = defined-at r scope n def at ∙ ap (λ o. is_none o && (is_some def.name && has_definition def.kind)) f

pub named-defined : (r : Resolve) (scope : Scope) (n : ℕ) (def : TypeDef) (name : String Global) → type_at r n ≡ Some def → foreign_owner scope.own_interface def.owner ≡ None → def.name ≡ Some name
    → is_defined_by_name r scope n ≡ has_definition def.kind
named-defined r scope n def name at f e = defined-at r scope n def at ∙ ap (λ o. is_none o && (is_some def.name && has_definition def.kind)) f ∙ ap (λ o. is_some o && has_definition def.kind) e

-- ---- names that are shown

pub shown-at : (r : Resolve) (scope : Scope) (n : ℕ) (def : TypeDef) → type_at r n ≡ Some def → own_name r scope n ≡ name_of_own scope def
shown-at r scope n def at = ap (option_and_then (name_of_own scope)) at

pub foreign-unshown : (r : Resolve) (scope : Scope) (n : ℕ) (def : TypeDef) (i : InterfaceId) → type_at r n ≡ Some def → foreign_owner scope.own_interface def.owner ≡ Some i
    → own_name r scope n ≡ None
foreign-unshown r scope n def i at f = shown-at r scope n def at ∙ ap (λ o. cond (is_none o) (option_map text_of def.name) None) f

pub named-shown : (r : Resolve) (scope : Scope) (n : ℕ) (def : TypeDef) (name : String Global) → type_at r n ≡ Some def → foreign_owner scope.own_interface def.owner ≡ None → def.name ≡ Some name
    → own_name r scope n ≡ Some (text_of name)
named-shown r scope n def name at f e = shown-at r scope n def at ∙ ap (λ o. cond (is_none o) (option_map text_of def.name) None) f ∙ ap (option_map text_of) e

-- what is met is reached
pub meets-reaches : (r : Resolve) (own : Option InterfaceId) (m : TypeEncodingMaps) (t : ValueType) (n : ℕ) → Meets r own m t n → Reaches r own t n
meets-reaches r own m _ _ (at_once id lacks) = itself id
meets-reaches r own m _ _ (further id def t n lacks at f c p) = through id def t n at f c (meets-reaches r own m t n p)

-- what larger maps lack, smaller ones lack too
pub meets-before : (r : Resolve) (own : Option InterfaceId) (m m' : TypeEncodingMaps) → MapsGrow m m' → (t : ValueType) (n : ℕ) → Meets r own m' t n → Meets r own m t n
meets-before r own m m' g _ _ (at_once id lacks) = at_once id (λ k. lacks (known-grow m m' id.0 g k))
meets-before r own m m' g _ _ (further id def t n lacks at f c p) = further id def t n (λ k. lacks (known-grow m m' id.0 g k)) at f c (meets-before r own m m' g t n p)

-- ---- the loop

pub reaches-in_range : (r : Resolve) (own : Option InterfaceId) → IsLayered r → (t : ValueType) (n : ℕ) → InRange r t → Reaches r own t n → n < length r.types.items
reaches-in_range r own l _ _ inside (itself id) = inside id refl
reaches-in_range r own l _ _ inside (through id def t n at f c re) = reaches-in_range r own l t n (λ id' e. let here : id.0 < length r.types.items = inside id refl in
    let below : id'.0 < id.0 = part-smaller r l id.0 def id' at (subst (λ (x : ValueType). Contains (parts_of def.kind) x) e c) in omega arith)
    re

pub ready-now : (r : Resolve) (own : Option InterfaceId) (m₀ m : TypeEncodingMaps) (items : List ℕ) (k : ℕ) → IsOrdered r own m₀ items → k < length items → MapsGrow m₀ m
    → ((j : ℕ) → Contains (take k items) j → IsKnown m j) → (def : TypeDef) → type_at r (get_or items k 0) ≡ Some def → foreign_owner own def.owner ≡ None → AllReady m (parts_of def.kind)
ready-now r own m₀ m items k o lt g known def at f t c id e =
    elim (o k lt def id at f (subst (λ (x : ValueType). Contains (parts_of def.kind) x) e c)) [ inl q ↦ known-grow m₀ m id.0 g q | inr q ↦ known id.0 q ]

pub known-more : (m m' : TypeEncodingMaps) (items : List ℕ) (k : ℕ) → k < length items → MapsGrow m m' → ((j : ℕ) → Contains (take k items) j → IsKnown m j) → IsKnown m' (get_or items k 0)
    → (j : ℕ) → Contains (take (k + 1) items) j → IsKnown m' j
known-more m m' items k lt g known here j h =
    elim (Contains-push_cases _ _ _ (subst (λ (xs : List ℕ). Contains xs j) (take_more items k 0 lt) h)) [ inl q ↦ known-grow m m' j g (known j q) | inr e ↦ subst (λ (x : ℕ). IsKnown m' x) e here ]

pub ready-at-last : (r : Resolve) (own : Option InterfaceId) (m₀ m : TypeEncodingMaps) (ts : List ValueType) (items : List ℕ) (k : ℕ) → IsOrderOf r own m₀ ts items → length items ≤ k → MapsGrow m₀ m
    → ((j : ℕ) → Contains (take k items) j → IsKnown m j) → AllReady m ts
ready-at-last r own m₀ m ts items k p le g known t c id e = elim (p.stands t c id e) [ inl q ↦ known-grow m₀ m id.0 g q | inr q ↦ known id.0 (rw (take_all k items le) q) ]

pub learns-nothing : (P : ℕ → Type 0) (m : TypeEncodingMaps) → LearnsOnly P m m
learns-nothing P m = record { each = λ id i c. inl c }

-- one turn of the loop
pub learns-more : (m m' m'' : TypeEncodingMaps) (items : List ℕ) (k : ℕ) → k < length items → LearnsOnly (λ n. Contains (take k items) n) m m' → LearnsOne m' m'' (get_or items k 0)
    → LearnsOnly (λ n. Contains (take (k + 1) items) n) m m''
learns-more m m' m'' items k lt l o = record {
  each = λ id i c. elim (o.only.each id i c) [
    | inl q ↦ elim (l.each id i q) [ inl p ↦ inl p | inr p ↦ inr (rw (take_more items k 0 lt) (Contains-append_left (take k items) _ id p)) ]
    | inr e ↦ inr (rw (take_more items k 0 lt, e) (Contains-push (take k items) (get_or items k 0)))
  ];
}

pub learns-at-last : (r : Resolve) (own : Option InterfaceId) (m m' : TypeEncodingMaps) (ts : List ValueType) (items : List ℕ) (k : ℕ) → IsOrderOf r own m ts items → length items ≤ k
    → LearnsOnly (λ n. Contains (take k items) n) m m' → LearnsOnly (MetFrom r own m ts) m m'
learns-at-last r own m m' ts items k o le l = record { each = λ id i c. elim (l.each id i c) [ inl q ↦ inl q | inr q ↦ inr (o.added id (rw (take_all k items le) at q)) ] }

-- two lists of types, one after the other
pub learns-both : (r : Resolve) (own own' : Option InterfaceId) (a b c : TypeEncodingMaps) (xs ys : List ValueType) → own' ≡ own → MapsGrow a b → LearnsOnly (MetFrom r own a xs) a b
    → LearnsOnly (MetFrom r own' b ys) b c → LearnsOnly (MetFrom r own a (xs ++ ys)) a c
learns-both r own own' a b c xs ys e g p q = record {
  each = λ id i h. elim (q.each id i h) [
    | inl x ↦ elim (p.each id i x) [ inl y ↦ inl y | inr y ↦ inr (y.0, Contains-append_left xs ys y.0 y.1, y.2) ]
    | inr y ↦ inr (y.0, Contains-append_right xs ys y.0 y.1, meets-before r own a b g y.0 id (subst (λ (o : Option InterfaceId). Meets r o b y.0 id) e y.2))
  ];
}

pub learns-same : {P : ℕ → Type 0} (a b c : TypeEncodingMaps) → LearnsOnly P a b → c.id_to_index.entries ≡ b.id_to_index.entries → LearnsOnly P a c
learns-same a b c l e = record { each = λ id i h. l.each id i (subst (λ (xs : List (ℕ × ℕ)). Contains xs (id, i)) e h) }
