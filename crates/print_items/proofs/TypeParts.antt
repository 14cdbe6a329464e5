-- What is shown of a type number: its name, or the calls for its kind part by part.
use Rattle.std.proofs.Common.{◌≡◌, refl, sym, ap, ◌∙◌, subst, ℕ, zero, suc, ◌+◌, ◌<◌, ◌≤◌, Bool, true, false, IsTrue, ◌&&◌, ◌||◌, not, nat_lt, List, [], ◌∷◌, ◌++◌, length, take, drop, Option, Some, None, slice_get, get_or, unwrap_or, arith, append-nil, append_assoc, add-one, codes, is_some}
use Rattle.std.proofs.lemmas.{Bool.ltb-true, Bool.lt-ltb, Bool.not-true, Bool.and_from as both, List.drop_all}
use Rattle.std.proofs.lemmas.Option.{get_or_from_slice_get, slice_get_read, slice_get_within}
use Rattle.std.specs.{Prelude.option_map, Prelude.option_to_list, Prelude.String, Option.option_map_or, List.list_all}
use Rattle.std.specs.declared.alloc.Global.{Global}
use Rattle.wit_model.specs.declared.model.{Resolve.Resolve, TypeDef.TypeDef, TypeDefKind.TypeDefKind, TypeId.TypeId, «Type».«Type» as ValueType}
use Rattle.wit_model.specs.{Text.text_of, Names.is_label, Lookup.type_at, Types.grow, Types.number_of, Uses.alias_target, Valid.IsValid}
use Rattle.wit_model.specs.{Parts.kind_numbers, Parts.member_types, Parts.handled, Parts.handle_target, Rules.in_list, Rules.passes, Rules.is_named_kind}
use Rattle.wit_model.proofs.Tables.{grow_at}
use Rattle.print_output.specs.OutputCall.{OutputCall, lines_begun_after, line_begun_after, may_follow}
use Rattle.print_grammar.specs.{Tree.TypeTree, Tree.TypeTrees, WellNamed.is_well_type}
use Rattle.print_grammar.specs.Tree.TypeTree.{Name, TupleOf, OptionOf, ListOf, FixedListOf, MapOf, ResultOk, ResultErr, ResultOf, FutureOf, StreamOf}
use Rattle.print_grammar.specs.{Tree.TypeTrees.NoTypes, Tree.TypeTrees.AndTypes, Keyword.escaped, Calls.type_calls, Calls.types_calls, Calls.more_types_calls}
use Rattle.print_items.specs.Shown.{shown_type, type_name, used_type, used_type_trees, future_type_tree, stream_type_tree, result_type_tree, kind_tree, def_tree, trees_from, type_trees}
use Rattle.print_items.specs.TypeParts.{kind_start, kind_end, result_start, result_end, carrier_end, types_from, comma_calls, handles_label, may_be_unnamed, kind_calls}
use Rattle.print_output.specs.declared.type_kind.TypeKind.TheVariants.{Other}
use Rattle.print_items.proofs.{Runs.drop_next, TypesWell.is_below, TypesWell.below_of_numbers, TypesWell.IsShownType, TypesWell.type_is_shown, TypesWell.trees_count}
use Rattle.base_lemmas.proofs.{Bools.left_of, Bools.right_of, Bools.unnamed_kind, Elements.all_get, Lists.slice_take as slice_get-take}
use Rattle.wit_model.specs.declared.model.TypeDefKind.TheVariants as defined
use Rattle.wit_model.specs.declared.model.Handle.TheVariants as handle
use Rattle.wit_model.specs.declared.model.«Type».TheVariants as value

-- ---- the trees of the type numbers

-- the trees are a table
table : (r : Resolve) (done : List TypeTree) (defs : List TypeDef) → trees_from r done defs ≡ grow (def_tree r) done defs
table r done [] = refl
table r done (def ∷ defs) = table r (done ++ def_tree r done def ∷ []) defs

module _ (n : ℕ) (trees : List TypeTree) where
  used_same : (t : ValueType) → is_below n t ≡ true → used_type (take n trees) t ≡ used_type trees t
  used_same (value.Id id) h = ap (λ o. unwrap_or o (Name [])) (slice_get-take trees n id.0 (ltb-true id.0 n h))
  used_same _ h = refl

  all_same : (ts : List ValueType) → list_all (is_below n) ts ≡ true → used_type_trees (take n trees) ts ≡ used_type_trees trees ts
  all_same [] h = refl
  all_same (t ∷ ts) h = λ i. AndTypes (used_same t (left_of _ _ h) i) (all_same ts (right_of (is_below n t) _ h) i)

  one_same : (o : Option ValueType) (rest : List ValueType) → list_all (is_below n) (option_to_list o ++ rest) ≡ true → (option_map (used_type (take n trees)) o ≡ option_map (used_type trees) o)
      × (list_all (is_below n) rest ≡ true)
  one_same None rest h = (refl, h)
  one_same (Some t) rest h = (ap Some (used_same t (left_of _ _ h)), right_of (is_below n t) _ h)

  payload_same : (o : Option ValueType) → list_all (is_below n) (option_to_list o) ≡ true → option_map (used_type (take n trees)) o ≡ option_map (used_type trees) o
  payload_same None h = refl
  payload_same (Some t) h = ap Some (used_same t (left_of _ _ h))

  two_same : (a b : Option ValueType) → list_all (is_below n) (option_to_list a ++ option_to_list b) ≡ true
      → result_type_tree (option_map (used_type (take n trees)) a) (option_map (used_type (take n trees)) b) ≡ result_type_tree (option_map (used_type trees) a) (option_map (used_type trees) b)
  two_same a b h =
      let first = one_same a (option_to_list b) h in
      λ i. result_type_tree (first.0 i) (payload_same b first.1 i)

  -- a kind whose numbers are smaller hangs on the trees of these alone
  kind_same : (r : Resolve) (k : TypeDefKind) → is_named_kind k ≡ false → list_all (is_below n) (member_types k) ≡ true → kind_tree r (take n trees) k ≡ kind_tree r trees k
  kind_same r (defined.Handle (handle.Own id)) u h = refl
  kind_same r (defined.Handle (handle.Borrow id)) u h = refl
  kind_same r (defined.Tuple tuple) u h = ap TupleOf (all_same tuple.types.items h)
  kind_same r (defined.Option t) u h = ap OptionOf (used_same t (left_of _ _ h))
  kind_same r (defined.Result result) u h = two_same result.ok result.err h
  kind_same r (defined.List t) u h = ap ListOf (used_same t (left_of _ _ h))
  kind_same r (defined.Map k v) u h = λ i. MapOf (used_same k (left_of _ _ h) i) (used_same v (left_of _ _ (right_of (is_below n k) _ h)) i)
  kind_same r (defined.FixedLengthList t m) u h = ap (λ x. FixedListOf x m) (used_same t (left_of _ _ h))
  kind_same r (defined.Future o) u h = ap future_type_tree (payload_same o h)
  kind_same r (defined.Stream o) u h = ap stream_type_tree (payload_same o h)
  kind_same r _ u h = absurd cc

-- ---- the calls for a kind

-- some calls and then more
pub begun-append : (b : Bool) (xs ys : List OutputCall) → lines_begun_after b (xs ++ ys) ≡ lines_begun_after (lines_begun_after b xs) ys
begun-append b [] ys = refl
begun-append b (x ∷ xs) ys = begun-append (line_begun_after x b) xs ys

then_stays : (xs ys : List OutputCall) → lines_begun_after false xs ≡ false → lines_begun_after false (xs ++ ys) ≡ lines_begun_after false ys
then_stays xs ys h = begun-append false xs ys ∙ ap (λ b. lines_begun_after b ys) h

-- calls for a type that begin inside a line end inside it
mutual
  pub type_stays : (t : TypeTree) → lines_begun_after false (type_calls t) ≡ false
  type_stays (TupleOf types) = then_stays (types_calls types) _ (types_stay types)
  type_stays (OptionOf ty) = then_stays (type_calls ty) _ (type_stays ty)
  type_stays (ListOf ty) = then_stays (type_calls ty) _ (type_stays ty)
  type_stays (FixedListOf ty length) = then_stays (type_calls ty) _ (type_stays ty)
  type_stays (MapOf key value) = then_stays (type_calls key) _ (type_stays key) ∙ then_stays (type_calls value) _ (type_stays value)
  type_stays (ResultOk ok) = then_stays (type_calls ok) _ (type_stays ok)
  type_stays (ResultErr err) = then_stays (type_calls err) _ (type_stays err)
  type_stays (ResultOf ok err) = then_stays (type_calls ok) _ (type_stays ok) ∙ then_stays (type_calls err) _ (type_stays err)
  type_stays (FutureOf ty) = then_stays (type_calls ty) _ (type_stays ty)
  type_stays (StreamOf ty) = then_stays (type_calls ty) _ (type_stays ty)
  type_stays _ = refl

  types_stay : (ts : TypeTrees) → lines_begun_after false (types_calls ts) ≡ false
  types_stay NoTypes = refl
  types_stay (AndTypes ty types) = then_stays (type_calls ty) _ (type_stays ty) ∙ more_stay types

  more_stay : (ts : TypeTrees) → lines_begun_after false (more_types_calls ts) ≡ false
  more_stay NoTypes = refl
  more_stay (AndTypes ty types) = then_stays (type_calls ty) _ (type_stays ty) ∙ more_stay types

one_part : (start calls end : List OutputCall) → (start ++ (calls ++ [])) ++ end ≡ start ++ (calls ++ end)
one_part start calls end = ap (λ x. (start ++ x) ++ end) (append-nil calls) ∙ append_assoc start calls end

two_parts : (start calls : List OutputCall) (comma : OutputCall) (more end : List OutputCall) → (start ++ (calls ++ (comma ∷ (more ++ [])))) ++ end ≡ start ++ (calls ++ (comma ∷ (more ++ end)))
two_parts start calls comma more end = append_assoc start (calls ++ (comma ∷ (more ++ []))) end
    ∙ ap (λ x. start ++ x) (append_assoc calls (comma ∷ (more ++ [])) end ∙ ap (λ x. calls ++ (comma ∷ (x ++ end))) (append-nil more))

module _ (r : Resolve) (trees : List TypeTree) where
  more_whole : (n : ℕ) (ts : List ValueType) → types_from trees (suc n) ts ≡ more_types_calls (used_type_trees trees ts)
  more_whole n [] = refl
  more_whole n (t ∷ ts) = ap (λ x. OutputCall.Str (codes ", ") ∷ (type_calls (used_type trees t) ++ x)) (more_whole (suc n) ts)

  types_whole : (ts : List ValueType) → types_from trees 0 ts ≡ types_calls (used_type_trees trees ts)
  types_whole [] = refl
  types_whole (t ∷ ts) = ap (λ x. type_calls (used_type trees t) ++ x) (more_whole 0 ts)

  result_whole : (ok err : Option ValueType)
      → (result_start ok err ++ types_from trees 0 (option_to_list ok ++ option_to_list err)) ++ result_end ok err ≡ type_calls
      (result_type_tree (option_map (used_type trees) ok) (option_map (used_type trees) err))
  result_whole None None = refl
  result_whole None (Some u) = one_part (result_start None (Some u)) (type_calls (used_type trees u)) (result_end None (Some u))
  result_whole (Some t) None = one_part (result_start (Some t) None) (type_calls (used_type trees t)) (result_end (Some t) None)
  result_whole (Some t) (Some u) = two_parts (result_start (Some t) (Some u)) (type_calls (used_type trees t)) (OutputCall.Str (codes ", ")) (type_calls (used_type trees u))
      (result_end (Some t) (Some u))

  -- the calls for a kind without a name of its own, part by part
  pub kind_whole : (k : TypeDefKind) → is_named_kind k ≡ false → (kind_start r k ++ types_from trees 0 (member_types k)) ++ kind_end k ≡ type_calls (kind_tree r trees k)
  kind_whole (defined.Handle (handle.Own id)) u = refl
  kind_whole (defined.Handle (handle.Borrow id)) u = refl
  kind_whole (defined.Tuple tuple) u = ap (λ x. (kind_start r (defined.Tuple tuple) ++ x) ++ kind_end (defined.Tuple tuple)) (types_whole tuple.types.items)
  kind_whole (defined.Option t) u = one_part (kind_start r (defined.Option t)) (type_calls (used_type trees t)) (kind_end (defined.Option t))
  kind_whole (defined.Result result) u = result_whole result.ok result.err
  kind_whole (defined.List t) u = one_part (kind_start r (defined.List t)) (type_calls (used_type trees t)) (kind_end (defined.List t))
  kind_whole (defined.Map k v) u = two_parts (kind_start r (defined.Map k v)) (type_calls (used_type trees k)) (OutputCall.Str (codes ", ")) (type_calls (used_type trees v))
      (kind_end (defined.Map k v))
  kind_whole (defined.FixedLengthList t n) u = one_part (kind_start r (defined.FixedLengthList t n)) (type_calls (used_type trees t)) (kind_end (defined.FixedLengthList t n))
  kind_whole (defined.Future None) u = refl
  kind_whole (defined.Future (Some t)) u = one_part (kind_start r (defined.Future (Some t))) (type_calls (used_type trees t)) (carrier_end (Some t))
  kind_whole (defined.Stream None) u = refl
  kind_whole (defined.Stream (Some t)) u = one_part (kind_start r (defined.Stream (Some t))) (type_calls (used_type trees t)) (carrier_end (Some t))
  kind_whole _ u = absurd cc

  parts_stay : (n : ℕ) (ts : List ValueType) → lines_begun_after false (types_from trees n ts) ≡ false
  parts_stay n [] = refl
  parts_stay zero (t ∷ ts) = then_stays (type_calls (used_type trees t)) _ (type_stays (used_type trees t)) ∙ parts_stay 1 ts
  parts_stay (suc n) (t ∷ ts) = then_stays (type_calls (used_type trees t)) _ (type_stays (used_type trees t)) ∙ parts_stay (suc (suc n)) ts

  not_begun : (b : Bool) → b ≡ false → IsTrue (not b && true)
  not_begun b h = ap (λ x. not x && true) h

  -- what stands behind the parts may follow them
  pub end_may_follow : (b : Bool) (k : TypeDefKind) → IsTrue (may_follow (lines_begun_after b (kind_start r k ++ types_from trees 0 (member_types k))) (kind_end k))
  end_may_follow b (defined.Tuple tuple) = not_begun _ (parts_stay 0 tuple.types.items)
  end_may_follow b (defined.Option t) = not_begun _ (parts_stay 0 (t ∷ []))
  end_may_follow b (defined.Result result) = go result.ok result.err
    where
      go : (ok err : Option ValueType) → IsTrue (may_follow (lines_begun_after b (result_start ok err ++ types_from trees 0 (option_to_list ok ++ option_to_list err))) (result_end ok err))
      go None None = refl
      go None (Some u) = not_begun _ (parts_stay 0 (u ∷ []))
      go (Some t) o = not_begun _ (parts_stay 0 (t ∷ option_to_list o))
  end_may_follow b (defined.List t) = not_begun _ (parts_stay 0 (t ∷ []))
  end_may_follow b (defined.Map k v) = not_begun _ (parts_stay 0 (k ∷ v ∷ []))
  end_may_follow b (defined.FixedLengthList t n) = not_begun _ (parts_stay 0 (t ∷ []))
  end_may_follow b (defined.Future None) = refl
  end_may_follow b (defined.Future (Some t)) = refl
  end_may_follow b (defined.Stream None) = refl
  end_may_follow b (defined.Stream (Some t)) = refl
  end_may_follow b _ = refl

-- ---- a type number of a valid `Resolve`

-- the number of a type, for a recursion down its parts
abbrev pub rank : ValueType → ℕ
rank (value.Id id) = id.0 + 1
rank ty = 0

pub rank_below : (n : ℕ) (t : ValueType) → is_below n t ≡ true → rank t < n + 1
rank_below n (value.Id id) h = (let l : id.0 < n = ltb-true id.0 n h in omega arith)
rank_below n _ h = omega arith

below_more : (n m : ℕ) → n < m → (o : Option ℕ) → passes (λ k. nat_lt k n) o ≡ true → passes (λ k. nat_lt k m) o ≡ true
below_more n m less None h = refl
below_more n m less (Some k) h = lt-ltb k m (let l : k < n = ltb-true k n h in omega arith)

-- what is read at a number in range stands there
pub read_at : {X : Type 0} (xs : List X) (n : ℕ) (x : X) → nat_lt n (length xs) ≡ true → x ≡ get_or xs n x → slice_get xs n ≡ Some x
read_at xs n x h e = slice_get_read xs (length xs) n x refl (ltb-true n (length xs) h) e

module _ (r : Resolve) (valid : IsValid r) (id : TypeId) (def : TypeDef) (at : type_at r id.0 ≡ Some def) where
  known : IsShownType r id.0 def
  known = type_is_shown r valid id.0 def at

  pub label_at : (s : String Global) → def.name ≡ Some s → is_label (text_of s) ≡ true
  label_at s e = subst (λ o. passes (λ name. is_label (text_of name)) o ≡ true) e known.label

  pub no_named_kind : def.name ≡ None → is_named_kind def.kind ≡ false
  no_named_kind e = unnamed_kind (is_named_kind def.kind) (subst (λ o. (not (is_named_kind def.kind) || is_some o) ≡ true) e known.named)

  within : id.0 < length r.types.items
  within = slice_get_within r.types.items id.0 def at

  pub handles_at : handles_label r def.kind ≡ true
  handles_at = go def.kind known.below known.handled_
    where
      go : (k : TypeDefKind) → list_all (λ m. nat_lt m id.0) (kind_numbers k) ≡ true → passes (λ m. is_label (type_name r (record { 0 = m }))) (handled k) ≡ true → handles_label r k ≡ true
      go (defined.Handle h) b l = both (in_list r.types.items (handle_target h)) _
          (lt-ltb _ _ (let m : handle_target h < id.0 = ltb-true _ _ (left_of _ _ b) in let n : id.0 < length r.types.items = within in omega arith)) l
      go _ b l = refl

  members_below : list_all (is_below id.0) (member_types def.kind) ≡ true
  members_below = below_of_numbers id.0 (member_types def.kind) (option_to_list (handled def.kind) ++ option_to_list (alias_target def.kind)) known.below

  part_below : (n : ℕ) (t : ValueType) → slice_get (member_types def.kind) n ≡ Some t → is_below id.0 t ≡ true
  part_below n t e = all_get (is_below id.0) (member_types def.kind) n t members_below e

  -- a part of its kind has a smaller number
  pub part_falls : (n : ℕ) (t : ValueType) → slice_get (member_types def.kind) n ≡ Some t → rank t < id.0 + 1
  part_falls n t e = rank_below id.0 t (part_below n t e)

  pub part_in_range : (n : ℕ) (t : ValueType) → slice_get (member_types def.kind) n ≡ Some t → passes (in_list r.types.items) (number_of t) ≡ true
  part_in_range n t e = below_more id.0 (length r.types.items) within (number_of t) (part_below n t e)

  def_same : (trees : List TypeTree) (name : Option (String Global)) → def.name ≡ name
      → option_map_or (λ s. Name (text_of s)) name (kind_tree r (take id.0 trees) def.kind) ≡ option_map_or (λ s. Name (text_of s)) name (kind_tree r trees def.kind)
  def_same trees None e = kind_same id.0 trees r def.kind (no_named_kind e) members_below
  def_same trees (Some s) e = refl

  -- what is shown of it
  pub shown_at : shown_type r (value.Id id) ≡ def_tree r (type_trees r) def
  shown_at = ap (λ trees. unwrap_or (slice_get trees id.0) (Name [])) (table r [] r.types.items) ∙ ap (λ o. unwrap_or o (Name [])) (grow_at (def_tree r) r.types.items id.0 def at)
      ∙ ap (λ trees. def_tree r (take id.0 trees) def) (sym (table r [] r.types.items)) ∙ def_same (type_trees r) def.name refl

  pub name_calls_at : (s : String Global) → def.name ≡ Some s → type_calls (shown_type r (value.Id id)) ≡ OutputCall.Ty (escaped (text_of s)) Other ∷ []
  name_calls_at s e = ap type_calls (shown_at ∙ ap (λ o. option_map_or (λ x. Name (text_of x)) o (kind_tree r (type_trees r) def.kind)) e)

  -- a type without a name is written by its kind
  pub unnamed_at : def.name ≡ None → may_be_unnamed r id ≡ true
  unnamed_at e = ap (λ o. option_map_or (λ d. not (is_named_kind d.kind)) o false) at ∙ ap not (no_named_kind e)

  pub unnamed_calls_at : def.name ≡ None → kind_calls r id ≡ type_calls (shown_type r (value.Id id))
  unnamed_calls_at e = ap (λ o. option_map_or (λ d. type_calls (kind_tree r (type_trees r) d.kind)) o []) at
      ∙ sym (ap type_calls (shown_at ∙ ap (λ o. option_map_or (λ x. Name (text_of x)) o (kind_tree r (type_trees r) def.kind)) e))

  pub kind_at : may_be_unnamed r id ≡ true → is_named_kind def.kind ≡ false
  kind_at h = not-true (is_named_kind def.kind) (subst (λ o. option_map_or (λ d. not (is_named_kind d.kind)) o false ≡ true) at h)

  pub kind_calls_at : may_be_unnamed r id ≡ true → (kind_start r def.kind ++ types_from (type_trees r) 0 (member_types def.kind)) ++ kind_end def.kind ≡ kind_calls r id
  kind_calls_at h = kind_whole r (type_trees r) def.kind (kind_at h) ∙ sym (ap (λ o. option_map_or (λ d. type_calls (kind_tree r (type_trees r) d.kind)) o []) at)

-- the types from a number on begin with the next
pub types_next : (trees : List TypeTree) (ts : List ValueType) (n : ℕ) (t : ValueType) → slice_get ts n ≡ Some t
    → types_from trees n (drop n ts) ≡ (comma_calls n ++ type_calls (used_type trees t)) ++ types_from trees (n + 1) (drop (n + 1) ts)
types_next trees ts n t e = rw (drop_next ts n t (slice_get_within ts n t e) (sym (get_or_from_slice_get ts n t t e)), add-one)
    (sym (append_assoc (comma_calls n) (type_calls (used_type trees t)) (types_from trees (suc n) (drop (suc n) ts))))

pub types_past : (trees : List TypeTree) (ts : List ValueType) (n : ℕ) → length ts ≤ n → types_from trees n (drop n ts) ≡ []
types_past trees ts n h = ap (types_from trees n) (drop_all n ts h)

-- ---- types that are shown well

there_if : (trees : List TypeTree) (n : ℕ) → is_well_type (unwrap_or (slice_get trees n) (Name [])) ≡ true → n < length trees
there_if [] n h = absurd cc
there_if (tree ∷ trees) zero h = omega arith
there_if (tree ∷ trees) (suc n) h = (let l : n < length trees = there_if trees n h in omega arith)

-- a type whose tree is well named is in range
pub well_in_range : (r : Resolve) (t : ValueType) → is_well_type (shown_type r t) ≡ true → passes (in_list r.types.items) (number_of t) ≡ true
well_in_range r (value.Id id) h = lt-ltb _ _ (let l : id.0 < length (type_trees r) = there_if (type_trees r) id.0 h in omega (arith, trees_count r [] r.types.items))
well_in_range r _ h = refl
