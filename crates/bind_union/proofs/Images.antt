-- Types under other numbers stand for the same trees.
use Rattle.std.proofs.Common.{rules as std_rules, ◌≡◌, refl, sym, ap, ◌∙◌, ℕ, ◌<◌, Bool, true, nat_lt, List, [], ◌∷◌, ◌++◌, map, ltb-true, append-nil, Option, Some, None, option_map, unwrap_or}
use Rattle.std.specs.{Prelude.String, Prelude.option_to_list, List.list_all, List.flat_map, List.filter_map, List.cons_option}
use Rattle.std.specs.declared.alloc.Global.{Global}
use Rattle.wit_model.specs.declared.model.{Resolve.Resolve, TypeDef.TypeDef, TypeDefKind.TypeDefKind, «Type».«Type» as ValueType, Field.Field, Case.Case}
use Rattle.wit_model.specs.{Text.Text, Text.text_of, Text.optional_text, Lookup.type_at, Lookup.place_of, Parts.kind_numbers}
use Rattle.wit_model.specs.Tree.{Tree, Place, named, type_, option_tree, result_tree, list_tree, map_tree, fixed_list_tree, future_tree, stream_tree, own_tree, borrow_tree}
use Rattle.wit_model.specs.Types.{no_tree, number_of, tree_at, tree_of, declared_by, tree_of_definition, tree_of_declaration, trees_of, number_tree, declaration_of}
use Rattle.wit_model.proofs.TreeTable.{trees_at}
use Rattle.bind_union.specs.Views.{KindView, record_view, variant_view, tuple_view, own_view, borrow_view, option_view, result_view, list_view, map_view, fixed_list_view, future_view, stream_view, alias_view, kind_view, renamed_type, renamed, declared_view, type_numbers, optional_numbers, view_numbers}
use Rattle.bind_union.specs.Images.{HasImageKind, IsCarriedType, AreCarried, RefersBelow, SameTrees, SameDeclarations}
use Rattle.bind_union.proofs.Lists.{by_less}
use Rattle.base_lemmas.proofs.{Bools.left_of as first_true, Bools.right_of as second_true, Lists.map_of_map as mapped_twice}
use Rattle.wit_model.specs.declared.model.TypeDefKind.TheVariants as kind
use Rattle.wit_model.specs.declared.model.Handle.TheVariants as handle

-- ---- by the view

-- a kind declares what its view does
pub declared_by_view : (trees : List Tree) (k : TypeDefKind) → declared_view trees (kind_view k) ≡ declared_by trees k
declared_by_view trees x = search (std_rules, mapped_twice)

-- ---- under other numbers

-- each of the numbers has the fact
abbrev pub Each : (ℕ → Type 0) → List ℕ → Type 0
Each P [] = Unit {0}
Each P (n ∷ ns) = P n × Each P ns

each_split : (P : ℕ → Type 0) (xs ys : List ℕ) → Each P (xs ++ ys) → Each P xs × Each P ys
each_split P [] ys h = (tt, h)
each_split P (x ∷ xs) ys h = ((h.0, (each_split P xs ys h.1).0), (each_split P xs ys h.1).1)

abbrev field_tree : List Tree → Text × ValueType → Text × Tree
field_tree trees x = (x.0, tree_of trees x.1)

abbrev case_tree : List Tree → Text × Option ValueType → Text × Option Tree
case_tree trees x = (x.0, option_map (tree_of trees) x.1)

abbrev renamed_field : (ℕ → ℕ) → Text × ValueType → Text × ValueType
renamed_field f x = (x.0, renamed_type f x.1)

abbrev renamed_case : (ℕ → ℕ) → Text × Option ValueType → Text × Option ValueType
renamed_case f x = (x.0, option_map (renamed_type f) x.1)

pub filter_map_none : {X Y : Type 0} (h : X → Option Y) (x : X) (xs : List X) → h x ≡ None → filter_map h (x ∷ xs) ≡ filter_map h xs
filter_map_none h x xs e = ap (λ o. cons_option o (filter_map h xs)) e

pub filter_map_some : {X Y : Type 0} (h : X → Option Y) (x : X) (y : Y) (xs : List X) → h x ≡ Some y → filter_map h (x ∷ xs) ≡ y ∷ filter_map h xs
filter_map_some h x y xs e = ap (λ o. cons_option o (filter_map h xs)) e

module _ (f : ℕ → ℕ) (us trees : List Tree) where
  abbrev pub Same : ℕ → Type 0
  Same n = tree_at us (f n) ≡ tree_at trees n

  type_same : (t : ValueType) → Each Same (type_numbers t) → tree_of us (renamed_type f t) ≡ tree_of trees t
  type_same x h = search std_rules

  option_same : (t : Option ValueType) → Each Same (optional_numbers t) → option_map (tree_of us) (option_map (renamed_type f) t) ≡ option_map (tree_of trees) t
  option_same x h = search std_rules

  -- what is made of each
  each_made : {X Y : Type 0} (numbers : X → List ℕ) (old new : X → Y) → ((x : X) → Each Same (numbers x) → new x ≡ old x) → (xs : List X) → Each Same (flat_map numbers xs) → map new xs ≡ map old xs
  each_made numbers old new one [] h = refl
  each_made numbers old new one (x ∷ xs) h =
      let parts = each_split Same (numbers x) (flat_map numbers xs) h in λ i. one x parts.0 i ∷ each_made numbers old new one xs parts.1 i

  pub view_same : (v : KindView) → Each Same (view_numbers v) → declared_view us (renamed f v) ≡ declared_view trees v
  view_same (record_view fields) h = search (std_rules, mapped_twice, each_made, type_same)
  view_same (variant_view cases) h = search (std_rules, mapped_twice, each_made, option_same)
  view_same (tuple_view ts) h = search (std_rules, mapped_twice, each_made, type_same)
  view_same (own_view n) h = ap (λ t. type_ (own_tree t)) h.0
  view_same (borrow_view n) h = ap (λ t. type_ (borrow_tree t)) h.0
  view_same (option_view t) h = ap (λ x. type_ (option_tree x)) (type_same t h)
  view_same (result_view ok err) h = let parts = each_split Same (optional_numbers ok) (optional_numbers err) h in λ i. type_ (result_tree (option_same ok parts.0 i) (option_same err parts.1 i))
  view_same (list_view t) h = ap (λ x. type_ (list_tree x)) (type_same t h)
  view_same (map_view k v) h = let parts = each_split Same (type_numbers k) (type_numbers v) h in λ i. type_ (map_tree (type_same k parts.0 i) (type_same v parts.1 i))
  view_same (fixed_list_view t n) h = ap (λ x. type_ (fixed_list_tree x n)) (type_same t h)
  view_same (future_view t) h = ap (λ x. type_ (future_tree x)) (option_same t h)
  view_same (stream_view t) h = ap (λ x. type_ (stream_tree x)) (option_same t h)
  view_same (alias_view t) h = ap type_ (type_same t h)
  view_same _ h = refl

-- ---- the numbers of a view

pub numbers_cons : (t : ValueType) (ts : List ValueType) → filter_map number_of (t ∷ ts) ≡ type_numbers t ++ filter_map number_of ts
numbers_cons x ts = search std_rules

flat_numbers : (ts : List ValueType) → flat_map type_numbers ts ≡ filter_map number_of ts
flat_numbers [] = refl
flat_numbers (t ∷ ts) = ap (λ ns. type_numbers t ++ ns) (flat_numbers ts) ∙ sym (numbers_cons t ts)

field_numbers : (fs : List Field) → flat_map (λ x. type_numbers x.1) (map {B = Text × ValueType} (λ f. (text_of f.name, f.ty)) fs) ≡ filter_map number_of (map (λ f. f.ty) fs)
field_numbers [] = refl
field_numbers (f ∷ fs) = ap (λ ns. type_numbers f.ty ++ ns) (field_numbers fs) ∙ sym (numbers_cons f.ty (map (λ x. x.ty) fs))

case_numbers : (cs : List Case) → flat_map (λ x. optional_numbers x.1) (map {B = Text × Option ValueType} (λ c. (text_of c.name, c.ty)) cs) ≡ filter_map number_of (filter_map (λ c. c.ty) cs)
case_numbers [] = refl
case_numbers (c ∷ cs) = search (std_rules, numbers_cons, case_numbers cs)

behind : (xs : List ℕ) (ts : List ValueType) → xs ≡ filter_map number_of ts → xs ≡ filter_map number_of ts ++ ([] ++ [])
behind xs ts e = e ∙ sym (append-nil (filter_map number_of ts))

one_number : (t : ValueType) → type_numbers t ≡ filter_map number_of (t ∷ [])
one_number t = sym (append-nil (type_numbers t)) ∙ sym (numbers_cons t [])

pub given_numbers : (t : Option ValueType) → optional_numbers t ≡ filter_map number_of (option_to_list t)
given_numbers x = search std_rules

alias_numbers : (t : ValueType) → type_numbers t ≡ option_to_list (number_of t)
alias_numbers x = search std_rules

-- the numbers in a kind are those in its view
pub numbers_of_view : (k : TypeDefKind) → view_numbers (kind_view k) ≡ kind_numbers k
numbers_of_view (kind.Record record_) = behind _ (map (λ f. f.ty) record_.fields.items) (field_numbers record_.fields.items)
numbers_of_view (kind.Handle (handle.Own id)) = refl
numbers_of_view (kind.Tuple tuple) = behind _ tuple.types.items (flat_numbers tuple.types.items)
numbers_of_view (kind.Variant variant) = behind _ (filter_map (λ c. c.ty) variant.cases.items) (case_numbers variant.cases.items)
numbers_of_view (kind.Option t) = behind _ (t ∷ []) (one_number t)
numbers_of_view (kind.Result result) = search std_rules
numbers_of_view (kind.List t) = behind _ (t ∷ []) (one_number t)
numbers_of_view (kind.Map k v) = behind _ (k ∷ v ∷ []) (ap (λ ns. type_numbers k ++ ns) (one_number v) ∙ sym (numbers_cons k (v ∷ [])))
numbers_of_view (kind.FixedLengthList t n) = behind _ (t ∷ []) (one_number t)
numbers_of_view (kind.Future t) = behind _ (option_to_list t) (given_numbers t)
numbers_of_view (kind.Stream t) = behind _ (option_to_list t) (given_numbers t)
numbers_of_view (kind.Type_ t) = alias_numbers t
numbers_of_view _ = refl

-- ---- trees

-- the tree of a definition by the text of its name
abbrev by_name : Place → Option Text → Tree → Tree
by_name place None tree = tree
by_name place (Some name) tree = named place name

tree_by_name : (r : Resolve) (trees : List Tree) (def : TypeDef)
    → tree_of_definition r trees def ≡ by_name (place_of r def.owner) (optional_text def.name) (tree_of_declaration (declared_by trees def.kind))
tree_by_name r trees def = search std_rules

module _ (r s : Resolve) (f : ℕ → ℕ) (carried : ℕ → Bool) (below_r : RefersBelow r) (below_s : RefersBelow s) (are : AreCarried r s f carried) where
  abbrev same_at : ℕ → Type 0
  same_at n = carried n ≡ true → number_tree s (f n) ≡ number_tree r n

  each_of : (p q : ℕ → Bool) → ((m : ℕ) → p m ≡ true → q m ≡ true → number_tree s (f m) ≡ number_tree r m) → (ns : List ℕ) → list_all p ns ≡ true → list_all q ns ≡ true
      → Each (Same f (trees_of s) (trees_of r)) ns
  each_of p q one [] h k = tt
  each_of p q one (n ∷ ns) h k = (one n (first_true _ _ h) (first_true _ _ k), each_of p q one ns (second_true _ _ h) (second_true _ _ k))

  -- from smaller numbers, those that are carried
  each_same : (n : ℕ) → ((m : ℕ) → m < n → same_at m) → (ns : List ℕ) → list_all (λ m. nat_lt m n) ns ≡ true → list_all carried ns ≡ true → Each (Same f (trees_of s) (trees_of r)) ns
  each_same n same = each_of (λ m. nat_lt m n) carried (λ m low. same m (ltb-true m n low))

  found_in : (x : Resolve) → RefersBelow x → (n : ℕ) (def : TypeDef) → type_at x n ≡ Some def
      → number_tree x n ≡ by_name (place_of x def.owner) (optional_text def.name) (tree_of_declaration (declared_by (trees_of x) def.kind))
  found_in x below n def is = ap (λ o. unwrap_or o no_tree) (trees_at x n def is (below n def is)) ∙ tree_by_name x (trees_of x) def

  -- a kind whose numbers stand for the same declares the same
  kind_same : (def image : TypeDef) → HasImageKind f carried def image → Each (Same f (trees_of s) (trees_of r)) (view_numbers (kind_view def.kind))
      → declared_by (trees_of s) image.kind ≡ declared_by (trees_of r) def.kind
  kind_same def image h each = search (std_rules, declared_by_view, view_same)

  one_same : (n : ℕ) → ((m : ℕ) → m < n → same_at m) → same_at n
  one_same n same is =
      let c = are n is in
      found_in s below_s (f n) c.image c.at_image ∙ ((λ i. by_name (c.is_image.place i) (c.is_image.name i) (tree_of_declaration (declared_by (trees_of s) c.image.kind)))
      ∙ (unnamed_same c (c.def.name) refl ∙ sym (found_in r below_r n c.def c.found)))
    where
      unnamed_same : (c : IsCarriedType r s f carried n) (o : Option (String Global)) → c.def.name ≡ o →
          by_name (place_of r c.def.owner) (optional_text c.def.name) (tree_of_declaration (declared_by (trees_of s) c.image.kind))
          ≡ by_name (place_of r c.def.owner) (optional_text c.def.name) (tree_of_declaration (declared_by (trees_of r) c.def.kind))
      unnamed_same c x e = search (std_rules, kind_same, each_same, numbers_of_view)

  pub all_same : (n : ℕ) → carried n ≡ true → number_tree s (f n) ≡ number_tree r n
  all_same = by_less same_at one_same

  pub declarations_same : (def image : TypeDef) → HasImageKind f carried def image → declaration_of s image ≡ declaration_of r def
  declarations_same def image h = kind_same def image h (each_of carried carried (λ n c d. all_same n c) (view_numbers (kind_view def.kind)) h.parts h.parts)

pub same_trees : SameTrees
same_trees r s f carried below_r below_s are n is = all_same r s f carried below_r below_s are n is

pub same_declarations : SameDeclarations
same_declarations r s f carried below_r below_s are def image h = declarations_same r s f carried below_r below_s are def image h
