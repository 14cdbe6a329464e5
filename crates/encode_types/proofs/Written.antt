-- What is written with the indexes of the maps stands for its tree.
use Rattle.std.proofs.Common.{rules as std_rules, ◌≡◌, refl, sym, subst, ℕ, ◌<◌, List, [], ◌∷◌, ◌++◌, map, filter_map, option_to_list, option_map, length, get_or, Option, Vec}
use Rattle.std.proofs.lemmas.List.Elements.{Contains-append_left, Contains-append_right}
use Rattle.std.specs.{List.Contains, List.AllZip, Borrow.Bor}
use Rattle.std.specs.declared.alloc.Global.{Global}
use Rattle.wit_model.specs.{Text.Text, Text.text_of, Types.trees_of, Types.tree_of, Types.number_tree}
use Rattle.wit_model.specs.declared.model.{Resolve.Resolve, Record.Record, Variant.Variant, Result_.Result_, TypeId.TypeId, «Type».«Type» as ValueType, Tuple.Tuple}
use Rattle.comp_bytes.specs.declared.forms.ComponentValType.{ComponentValType}
use Rattle.encode_types.specs.declared.maps.TypeEncodingMaps.{TypeEncodingMaps}
use Rattle.encode_types.specs.{Slots.StandsFor, Slots.StandsForOptional, Maps.Says, Maps.by_number, Maps.IsWritten, Maps.IsReady, Maps.AllReady}
use Rattle.encode_types.specs.Definition.{IsWrittenOptional, IsWrittenField, IsWrittenCase, FollowsKind}
use Rattle.wit_model.proofs.Elements.{contains-filter_map, zip-along}
use Rattle.base_lemmas.proofs.Elements.{contains-at, contains-map, contains-one}
use Rattle.wit_model.specs.declared.model.TypeDefKind.TheVariants as kind
use Rattle.wit_model.specs.declared.model.Handle.TheVariants as handle
use Rattle.wit_model.specs.declared.model.«Type».TheVariants as ty
use Rattle.comp_bytes.specs.declared.forms.ComponentDefinedType.TheVariants as form

pub written-stands : (r : Resolve) (m : TypeEncodingMaps) (x : ComponentValType) (t : ValueType) → IsWritten m x t → StandsFor (Says r m) x (tree_of (trees_of r) t)
written-stands r m x (ty.Id id) w = subst (λ (y : ComponentValType). StandsFor (Says r m) y (number_tree r id.0)) (sym w.1) (by_number id.0, w.2, refl)
written-stands r m x t w = subst (λ (y : ComponentValType). StandsFor (Says r m) y (tree_of (trees_of r) t)) (sym w) refl

pub optional-stands : (r : Resolve) (m : TypeEncodingMaps) (x : Option ComponentValType) (t : Option ValueType) → IsWrittenOptional m x t
    → StandsForOptional (Says r m) x (option_map (tree_of (trees_of r)) t)
optional-stands r m y z w = search (std_rules, written-stands)

-- ---- what is asked of the parts

pub ready-of : {X : Type 0} (m : TypeEncodingMaps) (f : X → ValueType) (xs : List X) (i : ℕ) (x : X) → AllReady m (map f xs) → i < length xs → x ≡ get_or xs i x → IsReady m (f x)
ready-of m f xs i x a l e = a (f x) (contains-map f xs x (contains-at xs i x l e))

pub ready-given : {X : Type 0} (m : TypeEncodingMaps) (f : X → Option ValueType) (xs : List X) (i : ℕ) (x : X) → AllReady m (filter_map f xs) → i < length xs → x ≡ get_or xs i x
    → AllReady m (option_to_list (f x))
ready-given m f xs i x a l e t c = a t (contains-filter_map f xs x t (contains-at xs i x l e) c)

pub ready-one : (m : TypeEncodingMaps) (t : ValueType) → AllReady m (t ∷ []) → IsReady m t
ready-one m t a = a t (contains-one t)

pub ready-left : (m : TypeEncodingMaps) (xs ys : List ValueType) → AllReady m (xs ++ ys) → AllReady m xs
ready-left m xs ys a t c = a t (Contains-append_left xs ys t c)

pub ready-right : (m : TypeEncodingMaps) (xs ys : List ValueType) → AllReady m (xs ++ ys) → AllReady m ys
ready-right m xs ys a t c = a t (Contains-append_right xs ys t c)

-- ---- each form

module _ (m : TypeEncodingMaps) where
  pub record-follows : (q : Record) (xs : Vec (Bor Text × ComponentValType) Global) → AllZip (IsWrittenField m) xs.items q.fields.items → FollowsKind m (kind.Record q) (form.Record xs)
  record-follows q xs z r = (_, zip-along (IsWrittenField m) _ (λ f. (text_of f.name, tree_of (trees_of r) f.ty)) (λ x f w. (w.0, written-stands r m x.1 f.ty w.1)) _ _ z, refl)

  pub variant-follows : (q : Variant) (xs : Vec (Bor Text × Option ComponentValType) Global) → AllZip (IsWrittenCase m) xs.items q.cases.items → FollowsKind m (kind.Variant q) (form.Variant xs)
  variant-follows q xs z r = (_, zip-along (IsWrittenCase m) _ (λ c. (text_of c.name, option_map (tree_of (trees_of r)) c.ty)) (λ x c w. (w.0, optional-stands r m x.1 c.ty w.1)) _ _ z, refl)

  pub tuple-follows : (q : Tuple) (xs : Vec ComponentValType Global) → AllZip (IsWritten m) xs.items q.types.items → FollowsKind m (kind.Tuple q) (form.Tuple xs)
  tuple-follows q xs z r = (_, zip-along (IsWritten m) _ (tree_of (trees_of r)) (λ x t w. written-stands r m x t w) _ _ z, refl)

  pub option-follows : (t : ValueType) (x : ComponentValType) → IsWritten m x t → FollowsKind m (kind.Option t) (form.Option x)
  option-follows t x w r = (_, written-stands r m x t w, refl)

  pub list-follows : (t : ValueType) (x : ComponentValType) → IsWritten m x t → FollowsKind m (kind.List t) (form.List x)
  list-follows t x w r = (_, written-stands r m x t w, refl)

  pub fixed-follows : (t : ValueType) (n : ℕ) (x : ComponentValType) → IsWritten m x t → FollowsKind m (kind.FixedLengthList t n) (form.FixedLengthList x n)
  fixed-follows t n x w r = (_, written-stands r m x t w, refl)

  pub map-follows : (k t : ValueType) (x y : ComponentValType) → IsWritten m x k → IsWritten m y t → FollowsKind m (kind.Map k t) (form.Map x y)
  map-follows k t x y v w r = (_, _, written-stands r m x k v, written-stands r m y t w, refl)

  pub result-follows : (q : Result_) (x y : Option ComponentValType) → IsWrittenOptional m x q.ok → IsWrittenOptional m y q.err → FollowsKind m (kind.Result q) (form.Result x y)
  result-follows q x y v w r = (_, _, optional-stands r m x q.ok v, optional-stands r m y q.err w, refl)

  pub future-follows : (t : Option ValueType) (x : Option ComponentValType) → IsWrittenOptional m x t → FollowsKind m (kind.Future t) (form.Future x)
  future-follows t x w r = (_, optional-stands r m x t w, refl)

  pub stream-follows : (t : Option ValueType) (x : Option ComponentValType) → IsWrittenOptional m x t → FollowsKind m (kind.Stream t) (form.Stream x)
  stream-follows t x w r = (_, optional-stands r m x t w, refl)

  pub own-follows : (id : TypeId) (i : ℕ) → Contains m.id_to_index.entries (id.0, i) → FollowsKind m (kind.Handle (handle.Own id)) (form.Own i)
  own-follows id i h r = (number_tree r id.0, (by_number id.0, h, refl), refl)

  pub borrow-follows : (id : TypeId) (i : ℕ) → Contains m.id_to_index.entries (id.0, i) → FollowsKind m (kind.Handle (handle.Borrow id)) (form.Borrow i)
  borrow-follows id i h r = (number_tree r id.0, (by_number id.0, h, refl), refl)
