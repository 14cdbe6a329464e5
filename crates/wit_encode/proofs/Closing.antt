-- What an instance type that is closed shows: the interface, or its types alone.
use Rattle.std.proofs.Common.{◌≡◌, sym, ap, ◌∙◌, List, [], ◌∷◌, Option, Some, Result, Ok, Err, ℕ, subst}
use Rattle.std.proofs.lemmas.List.Sorted.{IsPermutation-map, IsPermutation-refl}
use Rattle.std.specs.{Prelude.IsPermutation, Prelude.IfOk, Prelude.map, Option.option_map_or}
use Rattle.indexmap.specs.IndexMap.{values}
use Rattle.wit_model.specs.{Lookup.interface_at, Valid.IsValid}
use Rattle.wit_model.specs.declared.model.{Resolve.Resolve, Interface.Interface, InterfaceId.InterfaceId, TypeId.TypeId}
use Rattle.comp_bytes.specs.{Raw.Declaration, Raw.Declarations, Raw.append, Raw.from_list, Held.type_slots_of}
use Rattle.encode_shown.specs.Views.{ShowsInterface, ShowsTypes, functions_of}
use Rattle.encode_shown.proofs.Interfaces.{interface-means, types-mean}
use Rattle.encode_types.specs.{Distinct.DefinesKeys, Distinct.DefinesTypes, Aliases.AliasesMet, MetKinds.referred, Known.Around}
use Rattle.wit_encode.specs.declared.interface.Foreign.{Foreign}
use Rattle.wit_encode.specs.{Order.functions_in_order, Places.StandInOrder}
use Rattle.wit_encode.specs.Instance.{stands_inside, around_at, keyed, DeclaresFew, placed_function, meaning_of, EncodesInterface, EncodesDependency, EncodesPart, IsInstance}
use Rattle.wit_encode.proofs.{Counting.count-keys, Counting.permuted-keys, Referring.permuted-aliases, Referring.permuted-few, Referring.permuted-types}
use Rattle.wit_encode.proofs.Opening.{Placed, values-permuted}
use Rattle.base_lemmas.proofs.Lists.{map_of_map as map-twice}

-- the instance type takes its slot
pub closes : {E : Type 0} (res : Result ℕ E) (r : Resolve) (a : Around) (outer outer' : Declarations) (foreign foreign' : Foreign) (i : InterfaceId) (def : Interface) (types : List TypeId)
    (declared : List Declaration) (fs : List Placed) → types ≡ values def.types → AliasesMet r (Some i) (referred types (map (λ f. f.2.now) fs)) a (around_at outer foreign) → foreign' ≡ foreign
    → DefinesKeys r (stands_inside r i outer declared) (map (λ f. f.2.now) fs) declared → DefinesTypes r (Some i) (stands_inside r i outer declared) types (map (λ f. f.2.now) fs) (from_list declared)
    → DeclaresFew r (Some i) types (map (λ f. f.2.now) fs) declared → StandInOrder declared → IsInstance r outer i declared (map (λ f. meaning_of r (placed_function f)) fs)
    → IfOk res (λ k. (k ≡ type_slots_of outer) × (outer' ≡ append outer (Declarations.instance (from_list declared) Declarations.no_more)))
    → IfOk res (λ k. EncodesPart r a (around_at outer' foreign') i def (map placed_function fs) (map (λ f. f.2.now) fs) k)
closes (Err e) r a outer outer' foreign foreign' i def types declared fs l grown o keys kinds few places is h = h
closes (Ok k) r a outer outer' foreign foreign' i def types declared fs l grown o keys kinds few places is h = record {
  before = around_at outer foreign;
  aliases = subst (λ (ts : List TypeId). AliasesMet r (Some i) (referred ts (map (λ f. f.2.now) fs)) a (around_at outer foreign)) l grown;
  declared = declared;
  index = h.0;
  one_more = λ j. around_at (h.1 j) (o j);
  is_instance = record { view = is.view; followed = is.followed; shows = is.shows ∙ sym (map-twice (meaning_of r) placed_function fs); types = is.types };
  function_types = keys;
  value_types = subst (λ (ts : List TypeId). DefinesTypes r (Some i) (stands_inside r i outer declared) ts (map (λ f. f.2.now) fs) (from_list declared)) l kinds;
  few = subst (λ (ts : List TypeId). DeclaresFew r (Some i) ts (map (λ f. f.2.now) fs) declared) l few;
  places = places;
}

-- with all functions of the interface, in order, it shows the interface
pub whole : (r : Resolve) → IsValid r → (a a' : Around) (i : InterfaceId) (def : Interface) (fs : List Placed) (k : ℕ) → interface_at r i.0 ≡ Some def
    → IsPermutation (map keyed def.functions.entries) (map placed_function fs)
    → map placed_function fs ≡ functions_in_order def → EncodesPart r a a' i def (map placed_function fs) (map (λ f. f.2.now) fs) k → EncodesInterface r a a' i def k
whole r v a a' i def fs k there p ordered e = record {
  part = record {
    before = e.before;
    aliases = permuted-aliases r (Some i) (values def.types) (values def.functions) (map (λ f. f.2.now) fs) (values-permuted def fs p) e.aliases;
    declared = e.declared;
    index = e.index;
    one_more = e.one_more;
    is_instance = record { view = e.is_instance.view; followed = e.is_instance.followed; shows = e.is_instance.shows ∙ ap (map (meaning_of r)) ordered; types = e.is_instance.types };
    function_types = permuted-keys (values def.functions) (map (λ f. f.2.now) fs) e.declared (values-permuted def fs p) e.function_types;
    value_types = permuted-types r (Some i) (stands_inside r i e.before.declared e.declared) (values def.types) (values def.functions) (map (λ f. f.2.now) fs) (from_list e.declared)
        (values-permuted def fs p) e.value_types;
    few = permuted-few r (Some i) (values def.types) (values def.functions) (map (λ f. f.2.now) fs) e.declared (values-permuted def fs p) e.few;
    places = e.places;
  };
  shows = shown;
  means = interface-means r v i.0 e.is_instance.view shown;
  function_types = count-keys (values def.functions) (map (λ f. f.2.now) fs) e.declared (values-permuted def fs p) e.function_types;
}
  where
    shown : ShowsInterface r i.0 e.is_instance.view
    shown = record {
      types = e.is_instance.types;
      functions = subst (λ xs. IsPermutation xs e.is_instance.view.functions)
          (map-twice (meaning_of r) keyed def.functions.entries ∙ sym (ap (λ (o : Option Interface). option_map_or (functions_of r) o []) there))
          (subst (IsPermutation (map (meaning_of r) (map keyed def.functions.entries))) (sym e.is_instance.shows) (IsPermutation-map (meaning_of r) _ _ p));
    }

-- with none, it shows the types alone
pub types-alone : (r : Resolve) (a a' : Around) (i : InterfaceId) (def : Interface) (fs : List Placed) (k : ℕ) → fs ≡ [] → EncodesPart r a a' i def (map placed_function fs) (map (λ f. f.2.now) fs) k
    → EncodesDependency r a a' i def k
types-alone r a a' i def [] k none e =
    let shown : ShowsTypes r i.0 e.is_instance.view = record { types = e.is_instance.types; functions = e.is_instance.shows } in
    record { part = e; shows = shown; means = types-mean r i.0 e.is_instance.view shown; function_types = count-keys [] [] e.declared (IsPermutation-refl []) e.function_types }
types-alone r a a' i def (f ∷ fs) k none e = absurd cc
