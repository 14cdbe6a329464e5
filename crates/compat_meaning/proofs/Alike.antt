-- Two numbers have the same opened tree exactly where their kinds are the same and what stands at equal places has the same tree.
use Rattle.std.proofs.Common.{rules as std_rules, ◌+◌, ◌≡◌, refl, sym, ap, subst, ◌∙◌, ℕ, zero, suc, ◌<◌, ◌≤◌, true, false, nat_lt, T, ltb→lt, List, [], ◌∷◌, take, Some, None, slice_get, unwrap_or, arith, length, Bool, map, option_to_list, Option, inl, inr}
use Rattle.std.proofs.{lemmas.List.Folds.list_all-append, lemmas.Option.slice_get_within, lemmas.List.length-take-le, lemmas.List.take_all}
use Rattle.std.specs.{List.list_all, List.AllZip, List.Contains, Option.option_map_or}
use Rattle.wit_model.specs.declared.model.{Resolve.Resolve, TypeDef.TypeDef, TypeId.TypeId, TypeDefKind.TypeDefKind, «Type».«Type» as ValueType}
use Rattle.wit_model.specs.{Lookup.type_at, Parts.kind_numbers, Types.number_of, Types.tree_of, Types.tree_at}
use Rattle.wit_model.specs.Tree.{Tree, Trees, Form, Primitive, node, named, primitive, children, child_list}
use Rattle.wit_model.proofs.{Tables.grow_at, Lists.list_all_filter_map, TreeLemmas.child_list_of_children as children_back}
use Rattle.compat_meaning.specs.Opened.{opened_of, resource_leaf, opened_kind, places_of, form_of}
use Rattle.compat_meaning.specs.Walk.{in_heads, head_of_kind, head_of, heads_of, Pair, both, pairs_at, places_at, pairs_below, Reached, root, below}
use Rattle.compat_meaning.specs.Table.{IsLayered, InRange, is_alias, IsHead, AllInRange, Joined, IsApart, Apart, SomeApart, SameKinds, IsMatched, AreHeads, IsTable, SameTrees}
use Rattle.compat_meaning.proofs.{OpenedTable.opened_tree_at, OpenedTable.opened_built, OpenedTable.built, Either.of_two}
use Rattle.base_lemmas.proofs.{Bools.left_of as first_true, Elements.all-contained as all_contained, Elements.contains-later, Elements.first-contained, Elements.none_in}
use Rattle.base_lemmas.proofs.Lists.{heads_equal, one_item, slice_take as slice_get-take, tails_equal, within_there as get_within}
use Rattle.wit_model.specs.declared.model.TypeDefKind.TheVariants as kind
use Rattle.wit_model.specs.declared.model.«Type».TheVariants as ty

-- ---- What a type number is, aliases followed.

head_same : (n : ℕ) (heads : List ValueType) (k : TypeDefKind) → length (take n heads) ≡ n → list_all (λ m. nat_lt m n) (kind_numbers k) ≡ true → is_alias k ≡ false
    → head_of_kind (take n heads) k ≡ ty.Id (record { 0 = n })
head_same n heads k len h a = search std_rules

-- what holds of a type, and of what it is with aliases followed: the same tree, and a number that is no larger
abbrev Leads : Resolve → ℕ → ValueType → ValueType → Type 0
Leads r n t h = (tree_of (opened_of r) h ≡ tree_of (opened_of r) t) × ((a : ℕ) → number_of h ≡ Some a → (a ≤ n) × IsHead r a)

no_number : {A : Type 0} (a : ℕ) → None ≡ Some a → A
no_number a e = absurd (let z : ⊥ = cc in z)

module _ (r : Resolve) (l : IsLayered r) where
  abbrev heads : List ValueType
  heads = heads_of r

  head_is : (n : ℕ) (def : TypeDef) → type_at r n ≡ Some def → slice_get heads n ≡ Some (head_of (take n heads) def)
  unfolding heads_of
  head_is n def is = grow_at head_of r.types.items n def is

  -- of a number whose kind is no alias
  own_head : (n : ℕ) (def : TypeDef) → type_at r n ≡ Some def → is_alias def.kind ≡ false → slice_get heads n ≡ Some (ty.Id (record { 0 = n }))
  own_head n def is a =
      let p = head_is n def is in
      p ∙ ap Some (head_same n heads def.kind (length-take-le n heads (omega (arith, slice_get_within heads n _ p))) (l.smaller n def is) a)

  alias_type : (n : ℕ) (t : ValueType) → list_all (λ m. nat_lt m n) (kind_numbers (kind.Type_ t)) ≡ true
      → ((id : TypeId) → id.0 < n → Leads r id.0 (ty.Id id) (in_heads heads (ty.Id id))) → Leads r n t (in_heads (take n heads) t)
  alias_type n x h k = search (std_rules, first_true, unwrap_or, slice_get-take, no_number)

  at_kind : (id : TypeId) (def : TypeDef) → type_at r id.0 ≡ Some def → (k : TypeDefKind) → def.kind ≡ k
      → ((j : TypeId) → j.0 < id.0 → Leads r j.0 (ty.Id j) (in_heads heads (ty.Id j))) → Leads r id.0 (ty.Id id) (in_heads heads (ty.Id id))
  at_kind id def is (kind.Type_ t) e k =
      let p : in_heads heads (ty.Id id) ≡ in_heads (take id.0 heads) t = ap (λ o. unwrap_or o (ty.Id id)) (head_is id.0 def is ∙ ap (λ x. Some (head_of_kind (take id.0 heads) x)) e) in
      let f = alias_type id.0 t (ap (λ x. list_all (λ m. nat_lt m id.0) (kind_numbers x)) (sym e) ∙ l.smaller id.0 def is) k in
      (ap (tree_of (opened_of r)) p ∙ f.0 ∙ sym (opened_tree_at r l id.0 def is ∙ ap (opened_kind (resource_leaf r def) (opened_of r)) e), λ a q. f.1 a (ap number_of (sym p) ∙ q))
  at_kind id def is x e k =
      let n_a : is_alias def.kind ≡ false = ap is_alias e in
      let p : in_heads heads (ty.Id id) ≡ ty.Id id = ap (λ o. unwrap_or o (ty.Id id)) (own_head id.0 def is n_a) in
      (ap (tree_of (opened_of r)) p, λ a q. let s : Some id.0 ≡ Some a = ap number_of (sym p) ∙ q in let s' : id.0 ≡ a = cc in (omega (arith, s'), subst (λ m. IsHead r m) s' (def, is, n_a)))

  number_leads : (bound : ℕ) (id : TypeId) → id.0 < bound → id.0 < length r.types.items → Leads r id.0 (ty.Id id) (in_heads heads (ty.Id id))
  number_leads zero id low within = absurd (omega (arith, low))
  number_leads (suc bound) id low within =
      let d = get_within r.types.items id.0 within in
      at_kind id d.0 d.1 d.0.kind refl (λ j lt. number_leads bound j (omega (arith, low, lt)) (omega (arith, lt, within)))

  -- ---- what the rest cites

  pub same_tree : (t : ValueType) → InRange r t → tree_of (opened_of r) (in_heads heads t) ≡ tree_of (opened_of r) t
  same_tree x h = search (std_rules, number_leads)

  pub is_head : (t : ValueType) → InRange r t → (a : ℕ) → number_of (in_heads heads t) ≡ Some a → IsHead r a
  is_head (ty.Id id) h a q = ((number_leads (id.0 + 1) id (omega arith) (h id refl)).1 a q).1
  is_head _ h a q = no_number a q

  pub no_larger : (t : ValueType) → InRange r t → (a : ℕ) → number_of (in_heads heads t) ≡ Some a → (n : ℕ) → ((id : TypeId) → t ≡ ty.Id id → id.0 < n) → a < n
  no_larger (ty.Id id) h a q n k = let g = ((number_leads (id.0 + 1) id (omega arith) (h id refl)).1 a q).0 in let j : id.0 < n = k id refl in omega (arith, g, j)
  no_larger _ h a q n k = no_number a q

-- ---- the places of a kind refer to smaller numbers

abbrev pub is_below : ℕ → ValueType → Bool
is_below n t = list_all (λ m. nat_lt m n) (option_to_list (number_of t))

pub below_number : (n : ℕ) (t : ValueType) → is_below n t ≡ true → (id : TypeId) → t ≡ ty.Id id → id.0 < n
below_number n t h id e = ltb→lt id.0 n (subst T (sym (first_true _ _ (ap (is_below n) (sym e) ∙ h))) tt)

pub places_below : (n : ℕ) (k : TypeDefKind) → list_all (λ m. nat_lt m n) (kind_numbers k) ≡ true → list_all (is_below n) (places_of k) ≡ true
places_below n k h = search (std_rules, first_true, list_all_filter_map, list_all-append)

-- ---- trees

pub tree_of_number : (trees : List Tree) (t : ValueType) (a : ℕ) → number_of t ≡ Some a → tree_of trees t ≡ tree_at trees a
tree_of_number trees x a e = search std_rules

abbrev type_of_primitive : Primitive → ValueType
type_of_primitive Primitive.bool = ty.Bool
type_of_primitive Primitive.u8 = ty.U8
type_of_primitive Primitive.u16 = ty.U16
type_of_primitive Primitive.u32 = ty.U32
type_of_primitive Primitive.u64 = ty.U64
type_of_primitive Primitive.s8 = ty.S8
type_of_primitive Primitive.s16 = ty.S16
type_of_primitive Primitive.s32 = ty.S32
type_of_primitive Primitive.s64 = ty.S64
type_of_primitive Primitive.f32 = ty.F32
type_of_primitive Primitive.f64 = ty.F64
type_of_primitive Primitive.char = ty.Char
type_of_primitive Primitive.string = ty.String
type_of_primitive Primitive.error_context = ty.ErrorContext

abbrev pub primitive_in : Tree → Option ValueType
primitive_in (primitive p) = Some (type_of_primitive p)
primitive_in (named place name) = None
primitive_in (node f ts) = None

pub primitive_back : (trees : List Tree) (t : ValueType) → number_of t ≡ None → primitive_in (tree_of trees t) ≡ Some t
primitive_back trees x e = search std_rules

-- ---- a form over children, or a leaf

leaf_places : (k : TypeDefKind) → is_alias k ≡ false → form_of k ≡ None → places_of k ≡ []
leaf_places x a e = search std_rules

pub node_form : (f g : Form) (ts us : Trees) → node f ts ≡ node g us → f ≡ g
node_form f g ts us e = cc

pub node_children : (f g : Form) (ts us : Trees) → node f ts ≡ node g us → ts ≡ us
node_children f g ts us e = cc

-- equal trees come from the same forms or leaves, and from equal children
abbrev Parted : Tree → Tree → Option Form → Option Form → Trees → Trees → Type 0
Parted a b f g ts us = (f ≡ g) × (f ≡ None → a ≡ b) × ((f ≡ None → ⊥) → ts ≡ us)

parted : (r : Resolve) (d e : TypeDef) (f g : Option Form) (ts us : Trees) → built (resource_leaf r d) f ts ≡ built (resource_leaf r e) g us → Parted (resource_leaf r d) (resource_leaf r e) f g ts us
parted r d e x y ts us q = search std_rules

module _ (r : Resolve) (l : IsLayered r) where
  abbrev pub tree : ValueType → Tree
  tree t = tree_of (opened_of r) t

  kind_tree : (n : ℕ) (def : TypeDef) → type_at r n ≡ Some def → is_alias def.kind ≡ false
      → tree_at (opened_of r) n ≡ built (resource_leaf r def) (form_of def.kind) (children (map tree (places_of def.kind)))
  kind_tree n def is a = opened_tree_at r l n def is ∙ opened_built (opened_of r) (resource_leaf r def) def.kind a

  head_no_primitive : (n : ℕ) → IsHead r n → primitive_in (tree_at (opened_of r) n) ≡ None
  head_no_primitive n h = search (std_rules, kind_tree n h.0 h.1 h.2)

  -- the places of a kind are below the number, and in range
  place_low : (n : ℕ) (def : TypeDef) → type_at r n ≡ Some def → (t : ValueType) → Contains (places_of def.kind) t → (id : TypeId) → t ≡ ty.Id id → id.0 < n
  place_low n def is t c = below_number n t (all_contained (is_below n) (places_of def.kind) t (places_below n def.kind (l.smaller n def is)) c)

  pub places_range : (n : ℕ) (def : TypeDef) → type_at r n ≡ Some def → AllInRange r (places_of def.kind)
  places_range n def is t c id e = let low = place_low n def is t c id e in let within = slice_get_within r.types.items n def is in omega (arith, low, within)

  -- ---- two types

  pub joined_same : (pairs : List Pair) (n : ℕ) (t u : ValueType) → InRange r t → InRange r u → ((id : TypeId) → t ≡ ty.Id id → id.0 < n) → ((p : Pair) → Contains pairs p → p.0 < n → SameTrees r p)
      → Joined (heads_of r) pairs t u → tree t ≡ tree u
  joined_same pairs n t u rt ru low k (inl (none, e)) = sym (same_tree r l t rt) ∙ ap tree e ∙ same_tree r l u ru
  joined_same pairs n t u rt ru low k (inr (a, b, ea, eb, c)) = sym (same_tree r l t rt) ∙ tree_of_number (opened_of r) (in_heads (heads_of r) t) a ea ∙ k (a, b) c (no_larger r l t rt a ea n low)
      ∙ sym (tree_of_number (opened_of r) (in_heads (heads_of r) u) b eb) ∙ same_tree r l u ru

  apart_differ : (t u : ValueType) → InRange r t → InRange r u → Apart (heads_of r) t u → tree t ≡ tree u → ⊥
  apart_differ t u rt ru a e = go (in_heads (heads_of r) t) (in_heads (heads_of r) u) (is_head r l t rt) (is_head r l u ru) a (same_tree r l t rt ∙ e ∙ sym (same_tree r l u ru))
    where
      other : (v w : ValueType) → ((a : ℕ) → number_of w ≡ Some a → IsHead r a) → number_of v ≡ None → (v ≡ w → ⊥) → tree v ≡ tree w → (o : Option ℕ) → number_of w ≡ o → ⊥
      other v w hw none ne q None e' =
          let s : Some v ≡ Some w = sym (primitive_back (opened_of r) v none) ∙ ap primitive_in q ∙ primitive_back (opened_of r) w e' in
          ne (let z : v ≡ w = cc in z)
      other v w hw none ne q (Some b) e' =
          let s : Some v ≡ None = sym (primitive_back (opened_of r) v none) ∙ ap primitive_in q ∙ (ap primitive_in (tree_of_number (opened_of r) w b e') ∙ head_no_primitive b (hw b e')) in
          (let z : ⊥ = cc in z)

      go : (v w : ValueType) → ((a : ℕ) → number_of v ≡ Some a → IsHead r a) → ((a : ℕ) → number_of w ≡ Some a → IsHead r a) → IsApart v w → tree v ≡ tree w → ⊥
      go v w hv hw (inl (none, ne)) q = other v w hw none ne q (number_of w) refl
      go v w hv hw (inr (a, ea, none)) q =
          let s : None ≡ Some w = sym (head_no_primitive a (hv a ea)) ∙ (ap primitive_in (sym (tree_of_number (opened_of r) v a ea)) ∙ ap primitive_in q ∙ primitive_back (opened_of r) w none) in
          (let z : ⊥ = cc in z)

  -- ---- two lists of types

  tail_range : (t : ValueType) (ts : List ValueType) → AllInRange r (t ∷ ts) → AllInRange r ts
  tail_range t ts h u c = h u (contains-later t ts u c)

  head_range : (t : ValueType) (ts : List ValueType) → AllInRange r (t ∷ ts) → InRange r t
  head_range t ts h = h t (first-contained t ts)

  pub joined_trees : (pairs : List Pair) (n : ℕ) (ts us : List ValueType) → AllInRange r ts → AllInRange r us → ((t : ValueType) → Contains ts t → (id : TypeId) → t ≡ ty.Id id → id.0 < n)
      → ((p : Pair) → Contains pairs p → p.0 < n → SameTrees r p) → AllZip (Joined (heads_of r) pairs) ts us → map tree ts ≡ map tree us
  joined_trees pairs n [] [] rt ru low k z = refl
  joined_trees pairs n (t ∷ ts) (u ∷ us) rt ru low k z =
      let es = joined_trees pairs n ts us (tail_range t ts rt) (tail_range u us ru) (λ x c. low x (contains-later t ts x c)) k z.1 in
      λ i. (joined_same pairs n t u (head_range t ts rt) (head_range u us ru) (low t (first-contained t ts)) k z.0) i ∷ es i
  joined_trees pairs n _ _ rt ru low k z = absurd z

  pub some_apart : (ts us : List ValueType) → AllInRange r ts → AllInRange r us → SomeApart (heads_of r) ts us → map tree ts ≡ map tree us → ⊥
  some_apart (t ∷ ts) (u ∷ us) rt ru (inl a) e = apart_differ t u (head_range t ts rt) (head_range u us ru) a (heads_equal _ _ _ _ e)
  some_apart (t ∷ ts) (u ∷ us) rt ru (inr s) e = some_apart ts us (tail_range t ts rt) (tail_range u us ru) s (tails_equal _ _ _ _ e)
  some_apart _ _ rt ru s e = absurd s

  both_is : (a b : Option ℕ) (q : Pair) → Contains (both a b) q → (a ≡ Some q.0) × (b ≡ Some q.1)
  both_is x b q c = search std_rules

  -- a pair at equal places: each is what a type leads to
  pub pair_place : (ts us : List ValueType) → AllInRange r ts → AllInRange r us → (q : Pair) → Contains (pairs_at (heads_of r) ts us) q → (IsHead r q.0 × IsHead r q.1)
      × (map tree ts ≡ map tree us → SameTrees r q)
  pair_place (t ∷ ts) (u ∷ us) rt ru q c =
      of_two _ (pairs_at (heads_of r) ts us) q here (λ d. let f = pair_place ts us (tail_range t ts rt) (tail_range u us ru) q d in
      (f.0, λ m. f.1 (tails_equal _ _ _ _ m))) c
    where
      here : Contains (both (number_of (in_heads (heads_of r) t)) (number_of (in_heads (heads_of r) u))) q → (IsHead r q.0 × IsHead r q.1) × (map tree (t ∷ ts) ≡ map tree (u ∷ us) → SameTrees r q)
      here c =
          let e = both_is _ _ q c in
          let ht = head_range t ts rt in
          let hu = head_range u us ru in (
            (is_head r l t ht q.0 e.0, is_head r l u hu q.1 e.1),
            λ m. sym (tree_of_number (opened_of r) _ q.0 e.0) ∙ same_tree r l t ht ∙ heads_equal _ _ _ _ m ∙ sym (same_tree r l u hu) ∙ tree_of_number (opened_of r) _ q.1 e.1,
          )
  pair_place _ _ rt ru q c = absurd (none_in q c)

  -- what is joined holds the pairs at equal places
  pub joined_pairs : (pairs : List Pair) (ts us : List ValueType) → AllZip (Joined (heads_of r) pairs) ts us → (q : Pair) → Contains (pairs_at (heads_of r) ts us) q → Contains pairs q
  joined_pairs pairs (t ∷ ts) (u ∷ us) z q c = of_two _ (pairs_at (heads_of r) ts us) q (here z.0) (λ d. joined_pairs pairs ts us z.1 q d) c
    where
      here : Joined (heads_of r) pairs t u → Contains (both (number_of (in_heads (heads_of r) t)) (number_of (in_heads (heads_of r) u))) q → Contains pairs q
      here x d = search std_rules
  joined_pairs pairs _ _ z q c = absurd (none_in q c)

  -- ---- two kinds

  -- and equal trees are of such kinds
  pub trees_same_kinds : (p : Pair) (d e : TypeDef) → type_at r p.0 ≡ Some d → type_at r p.1 ≡ Some e → is_alias d.kind ≡ false → is_alias e.kind ≡ false → SameTrees r p → SameKinds r d e
      × (map tree (places_of d.kind) ≡ map tree (places_of e.kind))
  trees_same_kinds p d e dis eis da ea q =
      let b = parted r d e (form_of d.kind) (form_of e.kind) (children (map tree (places_of d.kind))) (children (map tree (places_of e.kind)))
      (sym (kind_tree p.0 d dis da) ∙ q ∙ kind_tree p.1 e eis ea) in
      ((b.0, b.1), by (form_of d.kind) refl b.0 b.2)
    where
      by : (o : Option Form) → form_of d.kind ≡ o → form_of d.kind ≡ form_of e.kind → ((form_of d.kind ≡ None → ⊥) → children (map tree (places_of d.kind)) ≡ children (map tree (places_of e.kind)))
          → map tree (places_of d.kind) ≡ map tree (places_of e.kind)
      by None f s k = ap (map tree) (leaf_places d.kind da f) ∙ sym (ap (map tree) (leaf_places e.kind ea (sym s ∙ f)))
      by (Some x) f s k =
          let some : form_of d.kind ≡ None → ⊥ = λ n. (let z : ⊥ = cc in z) in
          sym (children_back (map tree (places_of d.kind))) ∙ ap child_list (k some) ∙ children_back (map tree (places_of e.kind))

  pub alias_of : (n : ℕ) (d : TypeDef) → IsHead r n → type_at r n ≡ Some d → is_alias d.kind ≡ false
  alias_of n d h is = ap (λ (x : TypeDef). is_alias x.kind) (one_item r.types.items n d h.0 is h.1) ∙ h.2

  -- ---- a table whose pairs have all been compared

  all_same_below : (pairs : List Pair) → AreHeads r pairs → ((p : Pair) → Contains pairs p → IsMatched r pairs p) → (bound : ℕ) (p : Pair) → p.0 < bound → Contains pairs p → SameTrees r p
  all_same_below pairs hs ms zero p lt c = absurd (omega (arith, lt))
  all_same_below pairs hs ms (suc bound) p lt c =
      let m = ms p c in
      let h = hs p c in
      let e = joined_trees pairs p.0 (places_of m.prev.kind) (places_of m.new.kind) (places_range p.0 m.prev m.prev_at) (places_range p.1 m.new m.new_at)
      (place_low p.0 m.prev m.prev_at) (λ q d low. all_same_below pairs hs ms bound q (omega (arith, lt, low)) d)
      m.places in
      (kind_tree p.0 m.prev m.prev_at (alias_of p.0 m.prev h.0 m.prev_at) ∙ (search std_rules) ∙ sym (kind_tree p.1 m.new m.new_at (alias_of p.1 m.new h.1 m.new_at)))

  -- Pairs that have all been compared have the same trees.
  pub all_same : (pairs : List Pair) → IsTable r pairs (length pairs) → (p : Pair) → Contains pairs p → SameTrees r p
  all_same pairs t p c = all_same_below pairs t.heads (λ q d. t.matched q (subst (λ (ps : List Pair). Contains ps q) (sym (take_all (length pairs) pairs (omega arith))) d)) (p.0 + 1) p (omega arith) c

  -- ---- what is reached

  places_is : (n : ℕ) (d : TypeDef) → type_at r n ≡ Some d → places_at r n ≡ places_of d.kind
  places_is n d is = ap (λ o. option_map_or (λ def. places_of def.kind) o []) is

  pub below_is : (p : Pair) (d e : TypeDef) → type_at r p.0 ≡ Some d → type_at r p.1 ≡ Some e → pairs_below r p ≡ pairs_at (heads_of r) (places_of d.kind) (places_of e.kind)
  below_is p d e dis eis = λ i. pairs_at (heads_of r) (places_is p.0 d dis i) (places_is p.1 e eis i)

  -- what is below a pair of numbers is such a pair, and has the same trees where they have
  pub below_place : (p q : Pair) → IsHead r p.0 × IsHead r p.1 → Contains (pairs_below r p) q → (IsHead r q.0 × IsHead r q.1) × (SameTrees r p → SameTrees r q)
  below_place p q (h, k) c =
      let w = pair_place _ _ (places_range p.0 h.0 h.1) (places_range p.1 k.0 k.1) q
      (subst (λ (ps : List Pair). Contains ps q) (below_is p h.0 k.0 h.1 k.1) c) in
      (w.0, λ s. w.1 (trees_same_kinds p h.0 k.0 h.1 k.1 h.2 k.2 s).1)

  pub reached_heads : (roots : List Pair) → AreHeads r roots → (p : Pair) → Reached r roots p → IsHead r p.0 × IsHead r p.1
  reached_heads roots h _ (root p c) = h p c
  reached_heads roots h _ (below p q w c) = (below_place p q (reached_heads roots h p w) c).0

  -- Where the trees of the first pairs are the same, so are those of every pair that is reached.
  pub reached_same : (roots : List Pair) → AreHeads r roots → ((p : Pair) → Contains roots p → SameTrees r p) → (p : Pair) → Reached r roots p → SameTrees r p
  reached_same roots h k _ (root p c) = k p c
  reached_same roots h k _ (below p q w c) = (below_place p q (reached_heads roots h p w) c).1 (reached_same roots h k p w)

  -- A table whose pairs have all been compared holds what is reached from it.
  pub closed : (pairs roots : List Pair) → IsTable r pairs (length pairs) → ((p : Pair) → Contains roots p → Contains pairs p) → (p : Pair) → Reached r roots p → Contains pairs p
  closed pairs roots t k _ (root p c) = k p c
  closed pairs roots t k _ (below p q w c) =
      let m = t.matched p (subst (λ (ps : List Pair). Contains ps p) (sym (take_all (length pairs) pairs (omega arith))) (closed pairs roots t k p w)) in
      joined_pairs pairs _ _ m.places q (subst (λ (ps : List Pair). Contains ps q) (below_is p m.prev m.new m.prev_at m.new_at) c)
