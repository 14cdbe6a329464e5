-- What shows an interface of a valid `Resolve` obeys the rules of interfaces, and means the interface.
use Rattle.std.proofs.Common.{rules as std_rules, ◌≡◌, refl, sym, subst, ap, ◌∙◌, ℕ, Bool, true, false, not, ◌&&◌, List, [], ◌∷◌, ◌++◌, append-nil, map, Option, Some, None, String, cond, arith}
use Rattle.std.proofs.lemmas.{Simd.map-map, Cmp.nat_list_eq_equiv, List.Folds.list_all-map, Bool.and_from as both, Bool.not-true as no-longer}
use Rattle.std.proofs.lemmas.List.Sorted.{length_permutation, IsPermutation-map, IsPermutation-sym, Contains-permutation, list_any-IsPermutation}
use Rattle.std.specs.declared.alloc.Global.{Global}
use Rattle.std.specs.{Prelude.IsPermutation, List.Contains, List.IsDistinct, List.list_all, List.list_any, Option.option_map_or, FinMap.from_entries}
use Rattle.indexmap.specs.IndexMap.{keys}
use Rattle.wit_model.specs.{Text.Text, Text.text_of, Text.text_eq, Parts.same_owner, Parts.function_types, Meaning.FunctionMeaning}
use Rattle.wit_model.specs.{Names.is_label, Meant.type_meaning_at, Meant.function_meaning, Meant.signature_of, Meant.interface_meaning_at, Meant.no_interface}
use Rattle.wit_model.specs.{Types.declaration_of, Lookup.interface_at, Lookup.place_of, Lookup.type_at}
use Rattle.wit_model.specs.Rules.{passes, in_list, function_in_range, function_labels, function_stays, is_shallow, is_member, is_resource_itself, is_stability, package_number}
use Rattle.wit_model.specs.Valid.{IsValid, as_interface, is_place, functions_of_interface, labels, owners, depths, function_names, numbers_in_range}
use Rattle.wit_model.specs.declared.model.{Resolve.Resolve, Interface.Interface, Function.Function, TypeOwner.TypeOwner}
use Rattle.wit_model.specs.declared.model.TypeDef.{TypeDef}
use Rattle.wit_model.proofs.{AnyOrder.distinct-texts, AnyOrder.same-map, OnePath.interface-passes, TextLemmas.text_same as text-same}
use Rattle.comp_meaning.specs.{Follow.View, Follow.ShownType, Reads.meaning_of_view}
use Rattle.comp_meaning.specs.Rules.{distinct, is_interface, is_declared, is_function, resources_of, declares_a_resource}
use Rattle.encode_shown.specs.Views.{shown_type, home_of, types_of, functions_of, ShowsTypes, ShowsInterface}
use Rattle.encode_shown.proofs.{Apart.distinct-from, Apart.distinct-both, Functions.IsResourceOf, Functions.function-shown}
use Rattle.encode_shown.proofs.{Parts.number-declared, Members.IsNamedType, Members.entry-type, Members.entry-of, Members.meaning-there, Members.name-label}
use Rattle.base_lemmas.proofs.Bools.{left_of as first_true, right_of as second_true}
use Rattle.base_lemmas.proofs.Elements.{all-contained, all_pass as all-from, contains-later, contains-map, map_from as contains-mapped}
use Rattle.wit_model.specs.Meant as meant
use Rattle.wit_model.specs.declared.model.TypeOwner.TheVariants as owner

-- what stands in a list stands in one with a resource more
pub one-more-resource : (b : Bool) (name : Text) (names : List Text) (t : Text) → Contains names t → Contains (cond b (name ∷ names) names) t
one-more-resource true name names t c = contains-later name names t c
one-more-resource false name names t c = c

-- a resource of the list is one of its resources
pub resource-listed : (ts : List ShownType) (t : ShownType) → Contains ts t → declares_a_resource t.meaning.declaration ≡ true → Contains (resources_of ts) t.name
resource-listed [] t c h = absurd (let l = c.1 in omega (arith, l))
resource-listed (x ∷ ts) t (Prim.Native.Nat.zero, l, e) h = search std_rules
resource-listed (x ∷ ts) t (Prim.Native.Nat.suc k, l, e) h = search (std_rules, one-more-resource, resource-listed ts t (k, omega (arith, l), e) h)

-- a resource itself is declared as one
pub resource-declared : (r : Resolve) (n : ℕ) (def : TypeDef) → type_at r n ≡ Some def → is_resource_itself def.kind ≡ true → declares_a_resource (type_meaning_at r n).declaration ≡ true
resource-declared r n def at h = ap (λ m. declares_a_resource m.declaration) (meaning-there r n def at) ∙ (search std_rules)

-- a named type of an owner obeys the rules in the owner's place
pub named-type-obeys : (r : Resolve) → IsValid r → (o : TypeOwner) → same_owner o owner.None ≡ false → (n : ℕ) (name : Text) → IsNamedType r o n name
    → (is_label name && is_declared (place_of r o) (type_meaning_at r n).declaration) ≡ true
named-type-obeys r v o owned n name is = both _ _ (ap is_label is.name ∙ name-label r v n is.def is.string is.there is.named_)
    (ap (λ m. is_declared (place_of r o) m.declaration) (meaning-there r n is.def is.there) ∙ (λ j. is_declared (place_of r (sym is.owned j)) (declaration_of r is.def))
    ∙ number-declared r v n is.def is.there (ap (λ o. same_owner o owner.None) is.owned ∙ owned))

module _ (r : Resolve) (v : IsValid r) (n : ℕ) (i : Interface) (there : interface_at r n ≡ Some i) where
  -- ---- types

  types-pass : list_all (λ t. is_label t.name && is_declared (home_of r n) t.meaning.declaration) (types_of r n i) ≡ true
  types-pass = list_all-map (λ t. is_label t.name && is_declared (home_of r n) t.meaning.declaration) (shown_type r (home_of r n)) i.types.entries
      ∙ all-from (λ e. is_label (text_of e.0) && is_declared (home_of r n) (type_meaning_at r e.1.0).declaration) i.types.entries
      (λ e c. named-type-obeys r v (as_interface n) refl e.1.0 (text_of e.0) (entry-type r v n i there e c))

  -- ---- functions

  abbrev resources : List Text
  resources = resources_of (types_of r n i)

  resource-home : (m : ℕ) (name : Text) → IsResourceOf r v (as_interface n) m name → Contains resources name
  resource-home m name is =
      let e = entry-of r v n i there m is.def is.string is.there is.named_ is.owned in
      let declared : declares_a_resource (type_meaning_at r e.entry.1.0).declaration ≡ true =
      ap (λ k. declares_a_resource (type_meaning_at r k).declaration) e.number ∙ resource-declared r m is.def is.there is.itself in
      subst (λ (t : Text). Contains resources t) (e.text ∙ sym is.text)
      (resource-listed (types_of r n i) (shown_type r (home_of r n) e.entry) (contains-map (shown_type r (home_of r n)) i.types.entries e.entry e.there) declared)

  function-test : (e : String Global × Function) → Contains i.functions.entries e → is_function (home_of r n) resources (text_of e.0) (signature_of r e.1) ≡ true
  unfolding labels owners depths function_names numbers_in_range
  function-test e c =
      let listed = contains-map (λ x. x.1) i.functions.entries e c in
      let numbers = second_true _ _ (second_true (passes (in_list r.packages.items) (package_number i.package)) _
      (second_true (is_place n) _ (interface-passes numbers_in_range r v.rules.numbers_in_range n i there))) in
      let named = first_true (list_all function_labels (functions_of_interface i)) _
      (second_true (is_stability i.stability) _ (second_true (passes (λ name. is_label (text_of name)) i.name) _ (interface-passes labels r v.rules.labels n i there))) in
      let stay = first_true (list_all (function_stays r (as_interface n)) (functions_of_interface i)) _ (interface-passes owners r v.rules.owners n i there) in
      let flat = interface-passes depths r v.rules.depths n i there in
      let keyed = all-contained (λ e. text_eq (text_of e.0) (text_of e.1.name) && is_member r (as_interface n) e.1) i.functions.entries e
      (interface-passes function_names r v.rules.function_names n i there) c in
      ap (λ t. is_function (home_of r n) resources t (signature_of r e.1)) (text-same (text_of e.0) (text_of e.1.name) (first_true (text_eq (text_of e.0) (text_of e.1.name)) _ keyed))
      ∙ function-shown r v (as_interface n) e.1 resources (all-contained (function_in_range r) (functions_of_interface i) e.1 numbers listed)
      (all-contained function_labels (functions_of_interface i) e.1 named listed) (all-contained (function_stays r (as_interface n)) (functions_of_interface i) e.1 stay listed)
      (all-contained (λ f. list_all (is_shallow r) (function_types f)) (functions_of_interface i) e.1 flat listed) (second_true (text_eq (text_of e.0) (text_of e.1.name)) _ keyed)
      (λ m name q is. resource-home m name is)

  -- ---- names

  type-names : map (λ (t : ShownType). t.name) (types_of r n i) ≡ map text_of (keys i.types)
  type-names = map-map (λ (t : ShownType). t.name) (shown_type r (home_of r n)) i.types.entries ∙ sym (map-map text_of (λ e. e.0) i.types.entries)

  function-names : map (λ f. f.0) (functions_of r i) ≡ map text_of (keys i.functions)
  function-names = map-map (λ f. f.0) (λ e. (text_of e.0, function_meaning r e.1)) i.functions.entries ∙ sym (map-map text_of (λ e. e.0) i.functions.entries)

  types-distinct : distinct (map (λ (t : ShownType). t.name) (types_of r n i)) ≡ true
  types-distinct = ap distinct type-names ∙ distinct-from _ (distinct-texts (keys i.types) (v.distinct_keys.interfaces n i there).0)

  pub functions-distinct : IsDistinct text_eq (map (λ f. f.0) (functions_of r i))
  functions-distinct = subst (IsDistinct text_eq) (sym function-names) (distinct-texts (keys i.functions) (v.distinct_keys.interfaces n i there).1)

  -- a type and a function don't share a name
  names-apart : (t : Text) → Contains (map (λ (t : ShownType). t.name) (types_of r n i)) t → list_any (text_eq t) (map (λ f. f.0) (functions_of r i)) ≡ false
  unfolding labels
  names-apart t c =
      let rest = second_true (list_all function_labels (functions_of_interface i)) _
      (second_true (is_stability i.stability) _ (second_true (passes (λ name. is_label (text_of name)) i.name) _ (interface-passes labels r v.rules.labels n i there))) in
      let key = contains-mapped text_of (keys i.types) t (subst (λ (ts : List Text). Contains ts t) type-names c) in
      let one = no-longer (list_any (λ other. text_eq (text_of key.0) (text_of other)) (keys i.functions))
      (all-contained (λ name. not (list_any (λ other. text_eq (text_of name) (text_of other)) (keys i.functions))) (keys i.types) key.0 rest key.1) in
      ap (list_any (text_eq t)) function-names ∙ Rattle.base_lemmas.proofs.Elements.any_of_map (text_eq t) text_of (keys i.functions)
      ∙ ap (λ u. list_any (λ other. text_eq u (text_of other)) (keys i.functions)) (sym key.2) ∙ one

  -- ---- the view

  module _ (view : View) (types_are : view.types ≡ types_of r n i) (functions_are : IsPermutation (functions_of r i) view.functions) where
    shown-functions : list_all (λ f. is_function (home_of r n) (resources_of view.types) f.0 f.1.signature) view.functions ≡ true
    shown-functions = all-from (λ f. is_function (home_of r n) (resources_of view.types) f.0 f.1.signature) view.functions (λ f c.
        let from = contains-mapped (λ e. (text_of e.0, function_meaning r e.1)) i.functions.entries f
        (Contains-permutation view.functions (functions_of r i) f (IsPermutation-sym (functions_of r i) view.functions functions_are) c) in
        ap (λ (ts : List ShownType). is_function (home_of r n) (resources_of ts) f.0 f.1.signature) types_are
        ∙ ap (λ (g : Text × FunctionMeaning). is_function (home_of r n) resources g.0 g.1.signature) (sym from.2) ∙ function-test from.0 from.1)

    shown-names : distinct (map (λ t. t.name) view.types ++ map (λ f. f.0) view.functions) ≡ true
    shown-names =
        let order = IsPermutation-map (λ f. f.0) (functions_of r i) view.functions functions_are in
        ap (λ (ts : List ShownType). distinct (map (λ t. t.name) ts ++ map (λ f. f.0) view.functions)) types_are
        ∙ distinct-both (map (λ (t : ShownType). t.name) (types_of r n i)) (map (λ f. f.0) view.functions) types-distinct
        (distinct-from _ (Rattle.std.proofs.lemmas.Map.Keys.IsDistinct-IsPermutation text_eq nat_list_eq_equiv.symm (map (λ f. f.0) (functions_of r i)) (map (λ f. f.0) view.functions) order
        functions-distinct)) (λ t c. sym (list_any-IsPermutation (text_eq t) (map (λ f. f.0) (functions_of r i)) (map (λ f. f.0) view.functions) order) ∙ names-apart t c)

    shown-obeys : is_interface (home_of r n) view ≡ true
    shown-obeys = both _ _ (both _ _ (ap (list_all (λ t. is_label t.name && is_declared (home_of r n) t.meaning.declaration)) types_are ∙ types-pass) shown-functions) shown-names

-- ---- the laws; an interface out of range is shown as nothing

nothing-else : {A : Type 0} (xs : List A) → IsPermutation [] xs → xs ≡ []
nothing-else [] p = refl
nothing-else (x ∷ xs) p = absurd (omega (arith, length_permutation [] (x ∷ xs) p))

pub interface-obeys : (r : Resolve) → IsValid r → (n : ℕ) (view : View) → ShowsInterface r n view → is_interface (home_of r n) view ≡ true
interface-obeys r v n view shows = go (interface_at r n) refl shows.types shows.functions
  where
    go : (o : Option Interface) → interface_at r n ≡ o → view.types ≡ option_map_or (types_of r n) o [] → IsPermutation (option_map_or (functions_of r) o []) view.functions
        → is_interface (home_of r n) view ≡ true
    go (Some i) e t p = shown-obeys r v n i e view t p
    go None e t p = λ j. is_interface (home_of r n) (record { types = t j; functions = nothing-else view.functions p j })

pub types-obey : (r : Resolve) (n : ℕ) (view : View) → ShowsTypes r n view → IsValid r → is_interface (home_of r n) view ≡ true
types-obey r n view shows v = search (std_rules, both, types-pass, append-nil, types-distinct)

types-meant : (r : Resolve) (n : ℕ) (o : Option Interface) → map (λ t. (t.name, t.meaning)) (option_map_or (types_of r n) o []) ≡ (option_map_or (meant.interface_meaning r) o no_interface).types
types-meant r n x = search (std_rules, map-map)

pub types-mean : (r : Resolve) (n : ℕ) (view : View) → ShowsTypes r n view → meaning_of_view view view.functions ≡ meant.types_alone (interface_meaning_at r n)
types-mean r n view shows = λ j. record { types = (ap (map (λ t. (t.name, t.meaning))) shows.types ∙ types-meant r n (interface_at r n)) j; functions = from_entries (shows.functions j) }

-- the functions, in any order
functions-meant : (r : Resolve) → IsValid r → (n : ℕ) (o : Option Interface) → interface_at r n ≡ o → (fs : List (Text × FunctionMeaning)) → IsPermutation (option_map_or (functions_of r) o []) fs
    → from_entries fs ≡ (option_map_or (meant.interface_meaning r) o no_interface).functions
unfolding IsDistinct
functions-meant r v n None e fs p = same-map [] fs p tt
functions-meant r v n (Some i) e fs p = same-map (functions_of r i) fs p (functions-distinct r v n i e)

pub interface-means : (r : Resolve) → IsValid r → (n : ℕ) (view : View) → ShowsInterface r n view → meaning_of_view view view.functions ≡ interface_meaning_at r n
interface-means r v n view shows = search (std_rules, types-meant, functions-meant)
