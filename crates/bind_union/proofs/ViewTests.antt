-- What the rules ask of a kind, by its view, and the same under other numbers.
use Rattle.std.proofs.Common.{rules as std_rules, ◌≡◌, refl, sym, ap, ◌∙◌, ℕ, Bool, true, false, ◌&&◌, List, [], ◌∷◌, ◌++◌, map, filter_map, nat_lt, option_map, Option, Some, None}
use Rattle.std.proofs.lemmas.{Simd.map-map, List.map-append}
use Rattle.std.specs.{Prelude.option_to_list, Prelude.nat_le, Option.option_map_or}
use Rattle.wit_model.specs.declared.model.{Resolve.Resolve, TypeDefKind.TypeDefKind, «Type».«Type» as ValueType}
use Rattle.wit_model.specs.{Text.Text, Text.text_of, Types.number_of, Uses.alias_target, Parts.kind_numbers, Parts.member_types, Parts.handled}
use Rattle.wit_model.specs.Rules.{is_id, has_items, is_map_key, has_shape, is_named_kind, is_resource_itself, is_own_kind, is_borrow_kind, is_own_of, type_is, has_own_ok, kind_labels}
use Rattle.bind_union.specs.Views.{KindView, record_view, variant_view, flags_view, enum_view, tuple_view, resource_view, own_view, borrow_view, option_view, result_view, list_view, map_view, fixed_list_view, future_view, stream_view, alias_view, kind_view, renamed_type, renamed}
use Rattle.base_lemmas.proofs.{Lists.filter_of_map}
use Rattle.wit_model.proofs.RulesLemmas.{items_of_map}
use Rattle.wit_model.specs.declared.model.TypeDefKind.TheVariants as kind
use Rattle.wit_model.specs.declared.model.Handle.TheVariants as handle

-- ---- lists

-- what is given of images are the images of what is given
pub filter_both : {A B X Y : Type 0} (h : B → Option Y) (g : A → B) (k : A → Option X) (f : X → Y) → ((a : A) → h (g a) ≡ option_map f (k a)) → (xs : List A)
    → filter_map h (map g xs) ≡ map f (filter_map k xs)
filter_both h g k f same [] = refl
filter_both h g k f same (x ∷ xs) = search (std_rules, filter_both h g k f same xs)

pub one_given : {X Y : Type 0} (g : X → Y) (o : Option X) → option_to_list (option_map g o) ≡ map g (option_to_list o)
one_given g x = search std_rules

pub two_given : {X Y : Type 0} (g : X → Y) (a b : Option X) → option_to_list (option_map g a) ++ option_to_list (option_map g b) ≡ map g (option_to_list a ++ option_to_list b)
two_given g y b = search std_rules

pub number_under : (f : ℕ → ℕ) (t : ValueType) → number_of (renamed_type f t) ≡ option_map f (number_of t)
number_under f x = search std_rules

key_under : (f : ℕ → ℕ) (t : ValueType) → is_map_key (renamed_type f t) ≡ is_map_key t
key_under f x = search std_rules

pub numbers_under : (f : ℕ → ℕ) (ts : List ValueType) → filter_map number_of (map (renamed_type f) ts) ≡ map f (filter_map number_of ts)
numbers_under f ts = filter_both number_of (renamed_type f) number_of f (number_under f) ts

-- ---- kinds

-- what the rules ask of a kind
pub record Facts : Type 0 where
  pub types : List ValueType
  pub handled : Option ℕ
  pub alias : Option ℕ
  pub labels : List Text
  pub shape : Bool
  pub named : Bool
  pub resource : Bool

abbrev facts_of : TypeDefKind → Facts
facts_of k = record { types = member_types k; handled = handled k; alias = alias_target k; labels = kind_labels k; shape = has_shape k; named = is_named_kind k; resource = is_resource_itself k }

abbrev plain : List ValueType → Facts
plain ts = record { types = ts; handled = None; alias = None; labels = []; shape = true; named = false; resource = false }

abbrev facts : KindView → Facts
facts (record_view fields) = record (plain (map (λ x. x.1) fields)) { labels = map (λ x. x.0) fields; shape = has_items fields; named = true }
facts (variant_view cases) = record (plain (filter_map (λ x. x.1) cases)) { labels = map (λ x. x.0) cases; shape = has_items cases; named = true }
facts (flags_view names) = record (plain []) { labels = names; shape = has_items names; named = true }
facts (enum_view names) = record (plain []) { labels = names; shape = has_items names; named = true }
facts (tuple_view ts) = record (plain ts) { shape = has_items ts }
facts resource_view = record (plain []) { named = true; resource = true }
facts (own_view n) = record (plain []) { handled = Some n }
facts (borrow_view n) = record (plain []) { handled = Some n }
facts (option_view t) = plain (t ∷ [])
facts (result_view ok err) = plain (option_to_list ok ++ option_to_list err)
facts (list_view t) = plain (t ∷ [])
facts (map_view k v) = record (plain (k ∷ v ∷ [])) { shape = is_map_key k }
facts (fixed_list_view t n) = record (plain (t ∷ [])) { shape = nat_le 1 n && nat_lt n 4294967296 }
facts (future_view t) = plain (option_to_list t)
facts (stream_view t) = plain (option_to_list t)
facts (alias_view t) = record (plain []) { alias = number_of t; named = true }

facts_by_view : (k : TypeDefKind) → facts (kind_view k) ≡ facts_of k
facts_by_view (kind.Record x) = λ i. record (facts_of (kind.Record x)) {
  types = map-map (λ (y : Text × ValueType). y.1) (λ f. (text_of f.name, f.ty)) x.fields.items i;
  labels = map-map (λ (y : Text × ValueType). y.0) (λ f. (text_of f.name, f.ty)) x.fields.items i;
  shape = items_of_map {Y = Text × ValueType} (λ f. (text_of f.name, f.ty)) x.fields.items i;
}
facts_by_view (kind.Variant x) = λ i. record (facts_of (kind.Variant x)) {
  types = filter_of_map (λ (y : Text × Option ValueType). y.1) (λ c. (text_of c.name, c.ty)) x.cases.items i;
  labels = map-map (λ (y : Text × Option ValueType). y.0) (λ c. (text_of c.name, c.ty)) x.cases.items i;
  shape = items_of_map {Y = Text × Option ValueType} (λ c. (text_of c.name, c.ty)) x.cases.items i;
}
facts_by_view (kind.Flags x) = λ i. record (facts_of (kind.Flags x)) { shape = items_of_map (λ f. text_of f.name) x.flags.items i }
facts_by_view (kind.Enum x) = λ i. record (facts_of (kind.Enum x)) { shape = items_of_map (λ c. text_of c.name) x.cases.items i }
facts_by_view (kind.Handle (handle.Own id)) = refl
facts_by_view _ = refl

module _ (f : ℕ → ℕ) where
  abbrev facts_under : Facts → Facts
  facts_under x = record x { types = map (renamed_type f) x.types; handled = option_map f x.handled; alias = option_map f x.alias }

  facts_renamed : (v : KindView) → facts (renamed f v) ≡ facts_under (facts v)
  facts_renamed (record_view fields) = λ i. record (facts_under (facts (record_view fields))) {
    types = (map-map (λ (y : Text × ValueType). y.1) (λ x. (x.0, renamed_type f x.1)) fields ∙ sym (map-map (renamed_type f) (λ (x : Text × ValueType). x.1) fields)) i;
    labels = map-map (λ (y : Text × ValueType). y.0) (λ x. (x.0, renamed_type f x.1)) fields i;
    shape = items_of_map {Y = Text × ValueType} (λ x. (x.0, renamed_type f x.1)) fields i;
  }
  facts_renamed (variant_view cases) = λ i. record (facts_under (facts (variant_view cases))) {
    types = filter_both (λ (y : Text × Option ValueType). y.1) (λ x. (x.0, option_map (renamed_type f) x.1)) (λ (x : Text × Option ValueType). x.1) (renamed_type f) (λ x. refl) cases i;
    labels = map-map (λ (y : Text × Option ValueType). y.0) (λ x. (x.0, option_map (renamed_type f) x.1)) cases i;
    shape = items_of_map {Y = Text × Option ValueType} (λ x. (x.0, option_map (renamed_type f) x.1)) cases i;
  }
  facts_renamed (tuple_view ts) = λ i. record (facts_under (facts (tuple_view ts))) { shape = items_of_map (renamed_type f) ts i }
  facts_renamed (result_view ok err) = ap plain (two_given (renamed_type f) ok err)
  facts_renamed (map_view k v) = λ i. record (facts_under (facts (map_view k v))) { shape = key_under f k i }
  facts_renamed (future_view t) = ap plain (one_given (renamed_type f) t)
  facts_renamed (stream_view t) = ap plain (one_given (renamed_type f) t)
  facts_renamed (alias_view t) = λ i. record (facts (alias_view t)) { alias = number_under f t i }
  facts_renamed _ = refl

-- ---- handles, and the first type of a result

abbrev view_own : KindView → Option ℕ
view_own (own_view n) = Some n
view_own _ = None

abbrev view_borrow : KindView → Option ℕ
view_borrow (borrow_view n) = Some n
view_borrow _ = None

abbrev pub view_ok : KindView → Option ValueType
view_ok (result_view ok err) = ok
view_ok _ = None

own_by_view : (n : ℕ) (k : TypeDefKind) → is_own_kind n k ≡ is_id n (view_own (kind_view k))
own_by_view n x = search std_rules

borrow_by_view : (n : ℕ) (k : TypeDefKind) → is_borrow_kind n k ≡ is_id n (view_borrow (kind_view k))
borrow_by_view n x = search std_rules

pub ok_by_view : (r : Resolve) (n : ℕ) (k : TypeDefKind) → has_own_ok r n k ≡ option_map_or (type_is r (is_own_of n)) (view_ok (kind_view k)) false
ok_by_view r n x = search std_rules

own_under : (f : ℕ → ℕ) (v : KindView) → view_own (renamed f v) ≡ option_map f (view_own v)
own_under f x = search std_rules

borrow_under : (f : ℕ → ℕ) (v : KindView) → view_borrow (renamed f v) ≡ option_map f (view_borrow v)
borrow_under f x = search std_rules

pub ok_under : (f : ℕ → ℕ) (v : KindView) → view_ok (renamed f v) ≡ option_map (renamed_type f) (view_ok v)
ok_under f x = search std_rules

-- ---- a kind that is the same under other numbers

pub id_under : (g : ℕ → ℕ) (n : ℕ) (o : Option ℕ) → is_id n o ≡ true → is_id (g n) (option_map g o) ≡ true
id_under g n x h = search std_rules

module _ (f : ℕ → ℕ) (k l : TypeDefKind) (same : kind_view l ≡ renamed f (kind_view k)) where
  facts_same : facts_of l ≡ facts_under f (facts_of k)
  facts_same = sym (facts_by_view l) ∙ (ap facts same ∙ (facts_renamed f (kind_view k) ∙ ap (facts_under f) (facts_by_view k)))

  pub types_same : member_types l ≡ map (renamed_type f) (member_types k)
  types_same = ap (λ x. x.types) facts_same

  pub handled_same : handled l ≡ option_map f (handled k)
  handled_same = ap (λ x. x.handled) facts_same

  pub alias_same : alias_target l ≡ option_map f (alias_target k)
  alias_same = ap (λ x. x.alias) facts_same

  pub labels_same : kind_labels l ≡ kind_labels k
  labels_same = ap (λ x. x.labels) facts_same

  pub shape_same : has_shape l ≡ has_shape k
  shape_same = ap (λ x. x.shape) facts_same

  pub named_same : is_named_kind l ≡ is_named_kind k
  named_same = ap (λ x. x.named) facts_same

  pub resource_same : is_resource_itself l ≡ is_resource_itself k
  resource_same = ap (λ x. x.resource) facts_same

  handle_kept : (test : ℕ → TypeDefKind → Bool) (view : KindView → Option ℕ) → ((n : ℕ) (k : TypeDefKind) → test n k ≡ is_id n (view (kind_view k)))
      → ((v : KindView) → view (renamed f v) ≡ option_map f (view v)) → (n : ℕ) → test n k ≡ true → test (f n) l ≡ true
  handle_kept test view by under n h = by (f n) l ∙ (ap (λ v. is_id (f n) (view v)) same ∙ (ap (is_id (f n)) (under (kind_view k)) ∙ id_under f n (view (kind_view k)) (sym (by n k) ∙ h)))

  pub own_kept : (n : ℕ) → is_own_kind n k ≡ true → is_own_kind (f n) l ≡ true
  own_kept = handle_kept is_own_kind view_own own_by_view (own_under f)

  pub borrow_kept : (n : ℕ) → is_borrow_kind n k ≡ true → is_borrow_kind (f n) l ≡ true
  borrow_kept = handle_kept is_borrow_kind view_borrow borrow_by_view (borrow_under f)

  pub numbers_same : kind_numbers l ≡ map f (kind_numbers k)
  numbers_same = search (std_rules, types_same, handled_same, alias_same, numbers_under, two_given, handled, map-append)
