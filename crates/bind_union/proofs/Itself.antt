-- What was there is carried into what grows, under its own numbers.
use Rattle.std.proofs.Common.{rules as std_rules, ◌≡◌, ◌⊎◌, inl, refl, sym, ap, ◌∙◌, ℕ, zero, suc, ◌<◌, true, false, ◌&&◌, List, [], ◌∷◌, ◌++◌, map, Option, Some, option_map, slice_get}
use Rattle.std.proofs.lemmas.List.Folds.{list_all-map}
use Rattle.std.specs.{Prelude.String, List.AllZip, List.list_all}
use Rattle.std.specs.declared.alloc.Global.{Global}
use Rattle.indexmap.specs.IndexMap.{values}
use Rattle.wit_model.specs.declared.model.{Resolve.Resolve, Package.Package, Interface.Interface, TypeDef.TypeDef, World.World, TypeId.TypeId, WorldKey.WorldKey, TypeOwner.TypeOwner, Function.Function, FunctionKind.FunctionKind, WorldItem.WorldItem, «Type».«Type» as ValueType}
use Rattle.wit_model.specs.{Lookup.package_at, Lookup.interface_at, Lookup.type_at, Lookup.world_at, Valid.KeepsRules, Valid.numbers_in_range, Valid.is_place}
use Rattle.wit_model.specs.Parts.{kind_numbers}
use Rattle.wit_model.specs.Rules.{passes, in_list, package_number, interface_type_numbers, function_in_range, owner_in_range, key_in_range, item_in_range, entries_in_range}
use Rattle.wit_model.proofs.{OnePath.found-in, OnePath.interface-passes, ValidLemmas.type_passes, ValidLemmas.world_passes as world-passes}
use Rattle.wit_model.proofs.Chains.{all_has as passes_at}
use Rattle.bind_union.specs.Views.{KindView, kind_view, renamed_type, renamed}
use Rattle.bind_union.specs.{Images.HasImageKind, Joined.Joined, Joined.none, Joined.added, Merged.BeginsWith}
use Rattle.bind_union.specs.Carried.{Renumbering, IsSameName, owner_under, carries_owner, copies_owner, call_under, IsFunctionCopy, IsFunctionEntry, IsType, IsInterface, IsCarried, KeyBecomes, ItemBecomes}
use Rattle.bind_union.proofs.Images.{numbers_of_view}
use Rattle.base_lemmas.proofs.Bools.{left_of as first_true, right_of as second_true}

abbrev pub itself : Resolve → Renumbering
itself r = record {
  packages = λ n. n;
  interfaces = λ n. n;
  worlds = λ n. n;
  types = λ n. n;
  carries_interface = in_list r.interfaces.items;
  carries_world = in_list r.worlds.items;
  carries_type = in_list r.types.items;
  copies_interface = in_list r.interfaces.items;
  copies_type = in_list r.types.items;
}

-- ---- the same under the same numbers

abbrev pub same : ℕ → ℕ
same n = n

pub same_type : (t : ValueType) → renamed_type same t ≡ t
same_type x = search std_rules

same_option : (o : Option ValueType) → option_map (renamed_type same) o ≡ o
same_option x = search std_rules

pub map_same : {X : Type 0} (g : X → X) → ((x : X) → g x ≡ x) → (xs : List X) → map g xs ≡ xs
map_same g h [] = refl
map_same g h (x ∷ xs) = λ i. h x i ∷ map_same g h xs i

same_view : (v : KindView) → renamed same v ≡ v
same_view y = search (std_rules, map_same, same_type, same_option)

pub get_begin : {X : Type 0} (xs ys : List X) → BeginsWith xs ys → (n : ℕ) (x : X) → slice_get xs n ≡ Some x → slice_get ys n ≡ Some x
get_begin xs ys b n x e = ap (λ zs. slice_get zs n) b.1 ∙ go xs n e
  where
    go : (zs : List _) (k : ℕ) → slice_get zs k ≡ Some x → slice_get (zs ++ b.0) k ≡ Some x
    go [] k e = let wrong : ⊥ = cc in absurd wrong
    go (z ∷ zs) zero e = e
    go (z ∷ zs) (suc k) e = go zs k e

option_same : (o : Option ℕ) → o ≡ option_map same o
option_same x = search std_rules

module _ (r : Resolve) (valid : KeepsRules r) where
  abbrev f : Renumbering
  f = itself r

  same_owner : (o : TypeOwner) → o ≡ owner_under f o
  same_owner x = search std_rules

  same_call : (k : FunctionKind) → k ≡ call_under f k
  same_call x = search std_rules

  pub function_itself : (g : Function) → function_in_range r g ≡ true → IsFunctionCopy f g g
  function_itself g range = search (std_rules, same_call, same_option, same_type)

  zip_itself : (es : List (String Global × Function)) → list_all (λ (e : String Global × Function). function_in_range r e.1) es ≡ true → AllZip (IsFunctionEntry f) es es
  zip_itself [] h = tt
  zip_itself (e ∷ es) h = ((refl, function_itself e.1 (first_true _ _ h)), zip_itself es (second_true (function_in_range r e.1) _ h))

  -- ---- entries

  pub key_itself : (k : WorldKey) → key_in_range r k ≡ true → KeyBecomes f k k
  key_itself x h = search std_rules

  pub item_itself : (i : WorldItem) → item_in_range r i ≡ true → ItemBecomes f i i
  item_itself x h = search (std_rules, function_itself)

  pub joined_itself : (es : List (WorldKey × WorldItem)) → entries_in_range r es ≡ true → Joined f [] es es
  joined_itself [] h = none
  joined_itself (e ∷ es) h =
      let here = first_true (key_in_range r e.0 && item_in_range r e.1) (entries_in_range r es) h in
      added e e es es refl (key_itself e.0 (first_true _ _ here), item_itself e.1 (second_true (key_in_range r e.0) _ here))
      (joined_itself es (second_true (key_in_range r e.0 && item_in_range r e.1) (entries_in_range r es) h))

  world_numbers : (n : ℕ) (w : World) → world_at r n ≡ Some w
      → (passes (in_list r.packages.items) (package_number w.«package») && (entries_in_range r w.imports.entries && entries_in_range r w.exports.entries)) ≡ true
  unfolding numbers_in_range
  world_numbers n w e = second_true (is_place n) _ (world-passes numbers_in_range r valid.numbers_in_range n w e)

  pub world_package : (n : ℕ) (w : World) → world_at r n ≡ Some w → passes (in_list r.packages.items) (package_number w.«package») ≡ true
  world_package n w e = first_true _ _ (world_numbers n w e)

  pub world_range : (n : ℕ) (w : World) → world_at r n ≡ Some w → (entries_in_range r w.imports.entries ≡ true) × (entries_in_range r w.exports.entries ≡ true)
  world_range n w e = search (std_rules, second_true (passes (in_list r.packages.items) (package_number w.«package»)) _ (world_numbers n w e), world_numbers n w e)

  -- what an interface and a type refer to is in range
  pub interface_range : (n : ℕ) (i : Interface) → interface_at r n ≡ Some i
      → (list_all (in_list r.types.items) (interface_type_numbers i) ≡ true) × (list_all (function_in_range r) (values i.functions) ≡ true)
  unfolding numbers_in_range
  interface_range n i e =
      let old : (is_place n && (passes (in_list r.packages.items) (package_number i.«package»)
      && (list_all (λ id. in_list r.types.items id.0) (values i.types) && list_all (function_in_range r) (values i.functions)))) ≡ true =
      interface-passes numbers_in_range r valid.numbers_in_range n i e in
      let two = second_true (passes (in_list r.packages.items) (package_number i.«package»)) _ (second_true (is_place n) _ old) in
      (list_all-map (in_list r.types.items) (λ (id : TypeId). id.0) (values i.types) ∙ first_true _ _ two, second_true (list_all (λ id. in_list r.types.items id.0) (values i.types)) _ two)

  pub type_range : (n : ℕ) (def : TypeDef) → type_at r n ≡ Some def → (list_all (in_list r.types.items) (kind_numbers def.kind) ≡ true) × (owner_in_range r def.owner ≡ true)
  unfolding numbers_in_range
  type_range n def e =
      let old : (is_place n && (list_all (in_list r.types.items) (kind_numbers def.kind) && owner_in_range r def.owner)) ≡ true = type_passes numbers_in_range r valid.numbers_in_range n def e in
      let two = second_true (is_place n) _ old in
      (first_true _ _ two, second_true (list_all (in_list r.types.items) (kind_numbers def.kind)) _ two)

  module _ (s : Resolve) (types : BeginsWith r.types.items s.types.items) (interfaces : BeginsWith r.interfaces.items s.interfaces.items) (packages : (n : ℕ) (p : Package) → package_at r n ≡ Some p → (q : Package) × (package_at s n ≡ Some q) × IsSameName p.name q.name) where
    carried_owner : (o : TypeOwner) → owner_in_range r o ≡ true → (carries_owner f o ≡ true) × (copies_owner f o ≡ true)
    carried_owner x h = search std_rules

    type_itself : (n : ℕ) → in_list r.types.items n ≡ true → IsType r s f n
    type_itself n c =
        let d = found-in r.types.items n c in
        let range = type_range n d.0 d.1 in
        let home = carried_owner d.0.owner range.1 in
        let kind : HasImageKind f.types f.carries_type d.0 d.0 = record {
          kinds = sym (same_view (kind_view d.0.kind));
          parts = ap (list_all (in_list r.types.items)) (numbers_of_view d.0.kind) ∙ range.0;
        } in
        record {
          def = d.0;
          found = d.1;
          image = d.0;
          at_image = get_begin r.types.items s.types.items types n d.0 d.1;
          name = refl;
          home = same_owner d.0.owner;
          carries_home = home.0;
          kind = inl kind;
          copied = λ h. record { home = home.1; kind = kind; stability = refl; external_id = refl };
        }

    interface_itself : (n : ℕ) → in_list r.interfaces.items n ≡ true → IsInterface r s f n
    interface_itself n c =
        let d = found-in r.interfaces.items n c in
        let i = d.0 in
        let range = interface_range n i d.1 in
        record {
          old = i;
          found = d.1;
          image = i;
          at_image = get_begin r.interfaces.items s.interfaces.items interfaces n i d.1;
          name = refl;
          in_package = λ h. option_same (package_number i.«package»);
          types = λ m h. (m, h, passes_at (in_list r.types.items) (interface_type_numbers i) m range.0 h, refl);
          copied = λ h. record {
            types = refl;
            copies = sym (list_all-map (in_list r.types.items) (λ (id : TypeId). id.0) (values i.types)) ∙ range.0;
            functions = zip_itself i.functions.entries (sym (list_all-map (function_in_range r) (λ (e : String Global × Function). e.1) i.functions.entries) ∙ range.1);
            stability = refl;
          };
        }

    rise : {X : Type 0} (xs : List X) (m n : ℕ) → in_list xs m ≡ true → in_list xs n ≡ true → (m < n) ⊎ (in_list xs m ≡ false) → m < n
    rise xs m n c d x = search std_rules

    pub carried_itself : IsCarried r s f
    carried_itself = record {
      packages = λ n p e. let q = packages n p e in record { image = q.0; at_image = q.1; name = q.2 };
      interfaces = interface_itself;
      types = type_itself;
      copied_interfaces = λ n h. h;
      copied_types = λ n h. h;
      interfaces_rise = rise r.interfaces.items;
      types_rise = rise r.types.items;
      worlds_apart = λ m n c d e. e;
    }
