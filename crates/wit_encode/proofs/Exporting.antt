-- The types that are exported as those of an interface are encoded, one for each, in order.
use Rattle.std.proofs.Common.{rules as std_rules, ◌≡◌, refl, sym, subst, ap, ◌∙◌, ℕ, zero, suc, ◌+◌, ◌<◌, ◌≤◌, ◌⊎◌, inl, inr, Bool, true, false, ◌&&◌, cond, ◌==◌, nat_eq, List, [], ◌∷◌, ◌++◌, append-nil, take, length, get_or, map, filter_map, slice_get, Some, None, String, string_eq, string_bytes, nat_lt, option_map, option_and_then, option_to_list, arith}
use Rattle.std.proofs.{lemmas.Cmp.nat_list_eq_equiv, lemmas.Cmp.nat_eq_equiv, lemmas.Option.slice_get_within, lemmas.Option.get_or_from_slice_get, lemmas.Option.same_Some as same-some}
use Rattle.std.proofs.{lemmas.List.Sorted.IsPermutation-sym, lemmas.List.Sorted.Contains-permutation, lemmas.List.take_more, lemmas.List.take_all, lemmas.List.take-map, lemmas.List.length-map}
use Rattle.std.proofs.{Math.ListN.get_or-map, lemmas.Option.slice_get-map}
use Rattle.std.proofs.lemmas.List.Elements.{Contains-append_left, Contains-append_right, Contains-append_cases, Contains-push, Contains-push_cases}
use Rattle.std.specs.declared.alloc.Global.{Global}
use Rattle.std.specs.{Prelude.AllPairs, Prelude.is_none, Prelude.IsPermutation, List.Contains, List.IsDistinct, List.list_all, Map.keys_of}
use Rattle.std.specs.{Str.bytes_eq, Option.option_map_or}
use Rattle.indexmap.specs.IndexMap.{values}
use Rattle.wit_model.specs.Text.{Text, text_of, text_eq}
use Rattle.wit_model.specs.{Lookup.type_at, Lookup.interface_at, Lookup.resource_of, Rules.interface_type_numbers, Rules.function_stays, Rules.is_member}
use Rattle.wit_model.specs.{Types.number_of, Meant.interface_meaning, Meant.interface_meaning_at, Meant.no_interface, Meant.type_meaning_at, Uses.direct_deps}
use Rattle.wit_model.specs.{Meaning.TypeMeaning, Valid.IsValid, Valid.as_interface, Valid.functions_of_interface, Valid.function_names, Valid.owners}
use Rattle.wit_model.specs.Parts.{function_types, function_numbers, met_by, met_of, used_by_function, has_owner}
use Rattle.wit_model.specs.declared.model.{Resolve.Resolve, TypeDef.TypeDef, TypeId.TypeId}
use Rattle.wit_model.specs.declared.model.{Interface.Interface, InterfaceId.InterfaceId, Function.Function, «Type».«Type» as ValueType, TypeOwner.TypeOwner}
use Rattle.wit_model.proofs.{Owners.function_home, Elements.contains-filter_map, Elements.contains-get, Elements.contains-flat, Elements.has-contains}
use Rattle.wit_model.proofs.{OnePath.interface-passes as interface_passes, PartsLemmas.owner_same as same-owner}
use Rattle.encode_types.specs.declared.maps.TypeEncodingMaps.{TypeEncodingMaps}
use Rattle.encode_types.specs.{Kinds.parts_of, Plan.foreign_owner, Plan.Meets, Plan.at_once, Plan.further, Plan.MetFrom, Scope.Scope}
use Rattle.encode_types.specs.Maps.{IsKnown, IsReady, IsOnce, MapsGrow, LearnsOnly, by_number}
use Rattle.encode_types.specs.Counts.{Definitions, Shows, own_name, name_of_own}
use Rattle.wit_encode.specs.{Instance.declarations_in, Exports.AreTypesOf, Exports.ShowsFirst, Exports.AllKnown, Exports.KnowsUsed, Exports.UsesListed}
use Rattle.encode_types.proofs.{Pairs.pairs-across, Pairs.pairs-right, Tables.pairs-permuted}
use Rattle.wit_encode.proofs.Numbers.{once-before, gives-none, gives-one, one-mapped}
use Rattle.wit_encode.proofs.ListedTypes.{IsListedType, numbers, owned-listed, listed-type, type-there, number-there, listed-once, listed-key, uses-before}
use Rattle.wit_encode.proofs.Meeting.{AllMeetKnown, part-uses, meets-unnamed}
use Rattle.base_lemmas.proofs.Lists.{get_back}
use Rattle.encode_shown.proofs.Basics.{valid-references}
use Rattle.base_lemmas.proofs.{Bools.left_of as first_true, Bools.right_of as second_true, Lists.nothing-mapped, Numbers.equal, Numbers.same-number}
use Rattle.base_lemmas.proofs.Elements.{all-contained, contains-map, contains-one, last_of as one-contained, map_from as contains-mapped, all_at_too}
use Rattle.wit_model.specs.declared.model.«Type».TheVariants as ty

-- ---- what is learnt

-- no number has been learnt twice
pub learnt-apart : (m m' : TypeEncodingMaps) (learnt : List (ℕ × ℕ)) → IsOnce m' → IsPermutation (m.id_to_index.entries ++ learnt) m'.id_to_index.entries
    → AllPairs (λ a b. nat_eq a.0 b.0 ≡ false) (m.id_to_index.entries ++ learnt)
learnt-apart m m' learnt once p = pairs-permuted (λ (a b : ℕ × ℕ). nat_eq a.0 b.0 ≡ false) (λ a b e. nat_eq_equiv.symm b.0 a.0 ∙ e) m'.id_to_index.entries (m.id_to_index.entries ++ learnt)
    (IsPermutation-sym (m.id_to_index.entries ++ learnt) m'.id_to_index.entries p) once.numbers

-- what is known was, or has been learnt
pub was-or-learnt : (m m' : TypeEncodingMaps) (learnt : List (ℕ × ℕ)) → IsPermutation (m.id_to_index.entries ++ learnt) m'.id_to_index.entries → (x : ℕ × ℕ) → Contains m'.id_to_index.entries x
    → Contains m.id_to_index.entries x ⊎ Contains learnt x
was-or-learnt m m' learnt p x c = Contains-append_cases m.id_to_index.entries learnt x (Contains-permutation m'.id_to_index.entries (m.id_to_index.entries ++ learnt) x
    (IsPermutation-sym (m.id_to_index.entries ++ learnt) m'.id_to_index.entries p) c)

-- a number that has been learnt is one of these
pub learnt-one : (P : ℕ → Type 0) (m m' : TypeEncodingMaps) (learnt : List (ℕ × ℕ)) → IsOnce m' → IsPermutation (m.id_to_index.entries ++ learnt) m'.id_to_index.entries
    → LearnsOnly P m m' → (x : ℕ × ℕ) → Contains learnt x → P x.0
learnt-one P m m' learnt once e l x c = elim (l.each x.0 x.1
    (Contains-permutation (m.id_to_index.entries ++ learnt) m'.id_to_index.entries x e (Contains-append_right m.id_to_index.entries learnt x c))) [ inl q ↦ absurd (twice q) | inr p ↦ p ]
  where
    twice : Contains m.id_to_index.entries x → ⊥
    twice q =
        let apart = pairs-across (λ (a b : ℕ × ℕ). nat_eq a.0 b.0 ≡ false) m.id_to_index.entries learnt x x (learnt-apart m m' learnt once e) q c in
        cc (sym (same-number x.0) ∙ apart)

-- where nothing that is learnt is a named type of the place, nothing is exported
pub shows-nothing : (r : Resolve) (scope : Scope) (m m' : TypeEncodingMaps) (d d' : Definitions) (P : ℕ → Type 0) → IsOnce m' → LearnsOnly P m m'
    → ((n : ℕ) → P n → own_name r scope n ≡ None) → Shows r scope m m' d d' → d'.exports ≡ d.exports
shows-nothing r scope m m' d d' P once l none s =
    let names = s.names ∙ gives-none (λ e. own_name r scope e.0) s.learnt (λ x c. none x.0 (learnt-one P m m' s.learnt once s.numbers l x c)) in
    s.exports ∙ ap (λ xs. d.exports ++ xs) (nothing-mapped (λ x. x.0) s.shown names) ∙ append-nil d.exports

-- ---- functions

-- what a function meets by way of unknown numbers is no named type of the place, where those that it uses are known
pub function-unnamed : (r : Resolve) → IsValid r → (scope : Scope) (m : TypeEncodingMaps) (f : Function) → KnowsUsed r m f → (n : ℕ)
    → MetFrom r scope.own_interface m (function_types f) n → own_name r scope n ≡ None
function-unnamed r v scope m f known n (t, c, meets) = meets-unnamed r (valid-references r v) scope m t n met meets
  where
    met : AllMeetKnown r (valid-references r v) scope m t
    met id q def at home x d = known x (contains-flat (met_by (met_of r)) (function_numbers f) id.0 x
        (Contains-append_left (filter_map number_of (function_types f)) (option_to_list (resource_of f.kind)) id.0
        (contains-filter_map number_of (function_types f) (ty.Id id) id.0 (subst (λ (u : ValueType). Contains (function_types f) u) q c) (contains-one id.0))) d)

functions-stay : (r : Resolve) → IsValid r → (i : ℕ) (interface : Interface) → interface_at r i ≡ Some interface
    → list_all (function_stays r (as_interface i)) (functions_of_interface interface) ≡ true
unfolding owners
functions-stay r v i interface there = first_true (list_all (function_stays r (as_interface i)) (functions_of_interface interface))
    (list_all (λ m. nat_lt m i) (direct_deps r i)) (interface_passes owners r v.rules.owners i interface there)

members : (r : Resolve) (o : TypeOwner) (es : List (String Global × Function)) → list_all (λ e. text_eq (text_of e.0) (text_of e.1.name) && is_member r o e.1) es ≡ true
    → list_all (is_member r o) (map (λ e. e.1) es) ≡ true
members r o [] h = refl
members r o (e ∷ es) h =
    let named = text_eq (text_of e.0) (text_of e.1.name) in
    λ i. (second_true named _ (first_true (named && is_member r o e.1) _ h)) i && (members r o es (second_true (named && is_member r o e.1) _ h)) i

are-members : (r : Resolve) → IsValid r → (i : ℕ) (interface : Interface) → interface_at r i ≡ Some interface → list_all (is_member r (as_interface i)) (functions_of_interface interface) ≡ true
unfolding function_names
are-members r v i interface there = members r (as_interface i) interface.functions.entries (interface_passes function_names r v.rules.function_names i interface there)

-- the named types that a function of an interface uses stand in the interface's list
pub uses-listed : (r : Resolve) → IsValid r → (i : ℕ) (interface : Interface) → interface_at r i ≡ Some interface → (f : Function)
    → Contains (functions_of_interface interface) f → UsesListed r (values interface.types) f
uses-listed r v i interface there f c n d =
    let kept = all-contained (function_stays r (as_interface i)) (functions_of_interface interface) f (functions-stay r v i interface there) c in
    let member = all-contained (is_member r (as_interface i)) (functions_of_interface interface) f (are-members r v i interface there) c in
    let stays = function_home r (valid-references r v) (as_interface i) f kept member in
    has-contains (interface_type_numbers interface) n (owned-listed r v i interface there n (all-contained (has_owner r (as_interface i)) (used_by_function r f) n stays d))

-- ---- the types, one by one

-- entries with the same key are one
unique-entry : {V : Type 0} (es : List (String Global × V)) → IsDistinct string_eq (keys_of es) → (j k : ℕ) (a b : String Global × V) → slice_get es j ≡ Some a
    → slice_get es k ≡ Some b → text_of a.0 ≡ text_of b.0 → a ≡ b
unfolding IsDistinct
unique-entry [] h j k a b p q same = absurd cc
unique-entry {V} (x ∷ xs) h j k a b p q same = go (λ j k p q. unique-entry xs h.1 j k a b p q same) j k p q
  where
    equal-keys : (c d : String Global) → text_of c ≡ text_of d → string_eq c d ≡ true
    equal-keys c d e = subst (λ (t : Text). bytes_eq (string_bytes c) t ≡ true) e (nat_list_eq_equiv.refl (string_bytes c))

    apart : (n : ℕ) (y : String Global × V) → slice_get xs n ≡ Some y → text_of x.0 ≡ text_of y.0 → ⊥
    apart n y e s = cc (sym (equal-keys x.0 y.0 s) ∙ all_at_too (λ key. string_eq x.0 key ≡ false) (keys_of xs) h.0 n y.0
        (slice_get-map (λ (w : String Global × V). w.0) xs n ∙ ap (option_map (λ w. w.0)) e))

    go : ((j k : ℕ) → slice_get xs j ≡ Some a → slice_get xs k ≡ Some b → a ≡ b) → (j k : ℕ) → slice_get (x ∷ xs) j ≡ Some a → slice_get (x ∷ xs) k ≡ Some b → a ≡ b
    go rest zero zero p q = sym (same-some x a p) ∙ same-some x b q
    go rest zero (suc k) p q = absurd (apart k b q (ap (λ (w : String Global × V). text_of w.0) (same-some x a p) ∙ same))
    go rest (suc j) zero p q = absurd (apart j a p (ap (λ (w : String Global × V). text_of w.0) (same-some x b q) ∙ sym same))
    go rest (suc j) (suc k) p q = rest j k p q

-- a type, what the parts of which meet is known
module _ (r : Resolve) (v : IsValid r) (scope : Scope) (m : TypeEncodingMaps) (id : TypeId) (def : TypeDef) (there : type_at r id.0 ≡ Some def)
    (before : (part : TypeId) → Contains (parts_of def.kind) (ty.Id part) → (def' : TypeDef) → type_at r part.0 ≡ Some def' → foreign_owner scope.own_interface def'.owner ≡ None → (x : ℕ)
    → Contains (met_by (met_of r) part.0) x → IsKnown m x) where
  -- no other named type of the place is met by way of unknown numbers
  meets-no-other : (t : ValueType) (n : ℕ) → t ≡ ty.Id id → Meets r scope.own_interface m t n → (n ≡ id.0 → ⊥) → own_name r scope n ≡ None
  meets-no-other _ _ q (at_once id' lacks) other = absurd (other (ap (λ (x : TypeId). x.0) cc))
  meets-no-other _ _ q (further id' def' t n lacks is f c more) other = meets-unnamed r (valid-references r v) scope m t n parts more
    where
      same : id' ≡ id
      same = cc

      its : def' ≡ def
      its = same-some def' def (sym is ∙ ap (λ (x : TypeId). type_at r x.0) same ∙ there)

      parts : AllMeetKnown r (valid-references r v) scope m t
      parts part q' = before part (subst (λ (z : TypeDef). Contains (parts_of z.kind) (ty.Id part)) its (subst (λ (u : ValueType). Contains (parts_of def'.kind) u) q' c))

  pub met-no-other : (n : ℕ) → MetFrom r scope.own_interface m (ty.Id id ∷ []) n → (n ≡ id.0 → ⊥) → own_name r scope n ≡ None
  met-no-other n (t, c, meets) other = meets-no-other t n (sym (one-contained (ty.Id id) t c)) meets other

  -- named, and not known yet
  module _ (name : Text) (named : own_name r scope id.0 ≡ Some name) (fresh : IsKnown m id.0 → ⊥) (m' : TypeEncodingMaps) (d d' : Definitions) (once : IsOnce m') (ready : IsReady m' (ty.Id id))
      (learns : LearnsOnly (MetFrom r scope.own_interface m (ty.Id id ∷ [])) m m') (shows : Shows r scope m m' d d') where
    itself : Contains shows.learnt (id.0, (ready id refl).0)
    itself = elim (was-or-learnt m m' shows.learnt shows.numbers (id.0, (ready id refl).0) (ready id refl).1) [ inl q ↦ absurd (fresh ((ready id refl).0, q)) | inr q ↦ q ]

    -- its name alone has been learnt
    pub one-name : filter_map (λ x. own_name r scope x.0) shows.learnt ≡ name ∷ []
    one-name = gives-one (λ (x : ℕ × ℕ). x.0) (λ x. own_name r scope x.0) id.0 name shows.learnt
        (pairs-right (λ (a b : ℕ × ℕ). nat_eq a.0 b.0 ≡ false) m.id_to_index.entries shows.learnt (learnt-apart m m' shows.learnt once shows.numbers)) (λ x q. ap (own_name r scope) q ∙ named)
        (λ x c other. met-no-other x.0 (learnt-one (MetFrom r scope.own_interface m (ty.Id id ∷ [])) m m' shows.learnt once shows.numbers learns x c) other) (id.0, (ready id refl).0) itself refl

module _ (r : Resolve) (v : IsValid r) (scope : Scope) (id : InterfaceId) (interface : Interface) (own : scope.own_interface ≡ Some id)
    (there : interface_at r id.0 ≡ Some interface) (declares : scope.declarations ≡ (interface_meaning_at r id.0).types) where
  abbrev declaration : String Global × TypeId → Text × TypeMeaning
  declaration e = (text_of e.0, type_meaning_at r e.1.0)

  declarations-are : scope.declarations ≡ map declaration interface.types.entries
  declarations-are = declares ∙ ap (λ o. (option_map_or (interface_meaning r) o no_interface).types) there

  pub starts : (m : TypeEncodingMaps) (d : Definitions) → m.id_to_index.entries ≡ [] → d.exports ≡ [] → ShowsFirst r scope (values interface.types) 0 m d
  starts m d e f = search std_rules

  pub ends : (k : ℕ) (m : TypeEncodingMaps) (d : Definitions) → length (values interface.types) ≤ k → ShowsFirst r scope (values interface.types) k m d
      → AllKnown m (values interface.types) × (d.exports ≡ scope.declarations)
  ends k m d le s = ((λ t c. s.known t (subst (λ (xs : List TypeId). Contains xs t) (sym (take_all k (values interface.types) le)) c)), s.exported ∙ take_all k scope.declarations within)
    where
      within : length scope.declarations ≤ k
      within =
          let a = ap length declarations-are in
          omega (arith, le, a, length-map interface.types.entries declaration, length-map interface.types.entries (λ (x : String Global × TypeId). x.1))

  module _ (k : ℕ) (e : String Global × TypeId) (at : slice_get interface.types.entries k ≡ Some e) (m m' : TypeEncodingMaps) (d d' : Definitions)
      (first : ShowsFirst r scope (values interface.types) k m d) where
    entry : IsListedType r id.0 e
    entry = listed-type r v id.0 interface there k e at

    known-before : (x : ℕ) → Contains (take k (numbers r v id.0 interface there)) x → IsKnown m x
    known-before x c =
        let found = contains-mapped (λ (t : TypeId). t.0) (take k (values interface.types)) x
        (subst (λ (ns : List ℕ). Contains ns x) (take-map (λ (t : TypeId). t.0) k (values interface.types)) c) in
        subst (λ (n : ℕ). IsKnown m n) found.2 (first.known found.0 found.1)

    -- the type is named in the place
    named : own_name r scope e.1.0 ≡ Some (text_of entry.name)
    named = ap (option_and_then (name_of_own scope)) entry.there ∙ (λ i. cond (is_none (home i)) (option_map text_of (entry.named_ i)) None)
      where
        home : foreign_owner scope.own_interface entry.def.owner ≡ None
        home = (λ i. foreign_owner (own i) (same-owner entry.def.owner (as_interface id.0) entry.owned i)) ∙ ap (λ b. cond b None (Some id)) (same-number id.0)

    -- and isn't known yet
    fresh : IsKnown m e.1.0 → ⊥
    fresh (i, c) = elim (first.alone e.1 i c) [
      | inl none ↦ unnamed (sym named ∙ none)
      | inr before ↦ once-before (numbers r v id.0 interface there) k e.1.0 (number-there r v id.0 interface there k e at) (listed-once r v id.0 interface there k e at entry)
          (subst (λ (ns : List ℕ). Contains ns e.1.0) (sym (take-map (λ (t : TypeId). t.0) k (values interface.types)))
          (contains-map (λ (t : TypeId). t.0) (take k (values interface.types)) e.1 before))
    ]
      where
        unnamed : Some (text_of entry.name) ≡ None → ⊥
        unnamed q = cc

    -- what its parts meet is known
    parts-known : (part : TypeId) → Contains (parts_of entry.def.kind) (ty.Id part) → (def' : TypeDef) → type_at r part.0 ≡ Some def' → foreign_owner scope.own_interface def'.owner ≡ None → (x : ℕ)
        → Contains (met_by (met_of r) part.0) x → IsKnown m x
    parts-known part stands def' at' home x met = elim (uses-before r v id.0 interface there k e at entry) [
      | inl before ↦ known-before x (before x (part-uses r (valid-references r v) entry.def part x stands met))
      | inr apart ↦ absurd (apart part stands def' at' (ap (λ o. foreign_owner o def'.owner) (sym own) ∙ home))
    ]

    module _ (once : IsOnce m') (grow : MapsGrow m m') (ready : IsReady m' (ty.Id e.1)) (learns : LearnsOnly (MetFrom r scope.own_interface m (ty.Id e.1 ∷ [])) m m')
        (shows : Shows r scope m m' d d') where
      -- its declaration has been exported
      one-shown : shows.shown ≡ declaration e ∷ []
      one-shown =
          let one = one-mapped (λ (x : Text × TypeMeaning). x.0) shows.shown (text_of entry.name)
          (shows.names ∙ one-name r v scope m e.1 entry.def entry.there parts-known (text_of entry.name) named fresh m' d d' once ready learns shows) in
          let among = contains-mapped declaration interface.types.entries one.0
          (subst (λ (xs : List (Text × TypeMeaning)). Contains xs one.0) declarations-are
          (shows.declared one.0 (subst (λ (xs : List (Text × TypeMeaning)). Contains xs one.0) (sym one.1) (contains-one one.0)))) in
          let place = contains-get interface.types.entries among.0 among.1 in
          let same = unique-entry interface.types.entries (v.distinct_keys.interfaces id.0 interface there).0 place.0 k among.0 e place.1 at
          (ap (λ (x : Text × TypeMeaning). x.0) among.2 ∙ one.2 ∙ sym (listed-key r v id.0 interface there k e at entry)) in
          one.1 ∙ ap (λ x. x ∷ []) (sym among.2 ∙ ap declaration same)

      within : k < length interface.types.entries
      within = slice_get_within interface.types.entries k e at

      types-more : take (k + 1) (values interface.types) ≡ take k (values interface.types) ++ e.1 ∷ []
      types-more = take_more (values interface.types) k e.1 (slice_get_within (values interface.types) k e.1 (type-there r v id.0 interface there k e at))
          ∙ ap (λ x. take k (values interface.types) ++ x ∷ []) (get_or_from_slice_get (values interface.types) k e.1 e.1 (type-there r v id.0 interface there k e at))

      declarations-more : take (k + 1) scope.declarations ≡ take k scope.declarations ++ declaration e ∷ []
      declarations-more = take_more scope.declarations k (declaration e) (omega (arith, within, ap length declarations-are, length-map interface.types.entries declaration))
          ∙ ap (λ x. take k scope.declarations ++ x ∷ []) (ap (λ xs. get_or xs k (declaration e)) declarations-are ∙ get_or-map declaration interface.types.entries k e
          ∙ ap declaration (get_or_from_slice_get interface.types.entries k e e at))

      pub next : ShowsFirst r scope (values interface.types) (k + 1) m' d'
      next = record {
        known = λ t c. elim (Contains-push_cases (take k (values interface.types)) e.1 t (subst (λ (xs : List TypeId). Contains xs t) types-more c)) [
          | inl q ↦ (let old = first.known t q in (old.0, grow.keeps (by_number t.0) old.0 old.1))
          | inr q ↦ subst (λ (x : TypeId). IsKnown m' x.0) q (ready e.1 refl)
        ];
        alone = λ t i c. elim (was-or-learnt m m' shows.learnt shows.numbers (t.0, i) c) [
          | inl q ↦ elim (first.alone t i q) [
            | inl none ↦ inl none
            | inr before ↦ inr (subst (λ (xs : List TypeId). Contains xs t) (sym types-more) (Contains-append_left (take k (values interface.types)) (e.1 ∷ []) t before))
          ]
          | inr q ↦ new t i q (t.0 == e.1.0) refl
        ];
        exported = shows.exports ∙ (λ j. first.exported j ++ one-shown j) ∙ sym declarations-more;
      }
        where
          new : (t : TypeId) (i : ℕ) → Contains shows.learnt (t.0, i) → (b : Bool) → (t.0 == e.1.0) ≡ b → (own_name r scope t.0 ≡ None) ⊎ Contains (take (k + 1) (values interface.types)) t
          new t i q true s =
              let same : e.1 ≡ t = ap (λ n. record { 0 = n }) (sym (equal t.0 e.1.0 s)) in
              inr (subst (λ (xs : List TypeId). Contains xs t) (sym types-more)
              (subst (λ (x : TypeId). Contains (take k (values interface.types) ++ e.1 ∷ []) x) same (Contains-push (take k (values interface.types)) e.1)))
          new t i q false s = inl (met-no-other r v scope m e.1 entry.def entry.there parts-known t.0
              (learnt-one (MetFrom r scope.own_interface m (ty.Id e.1 ∷ [])) m m' shows.learnt once shows.numbers learns (t.0, i) q) differ)
            where
              differ : t.0 ≡ e.1.0 → ⊥
              differ same = cc (sym (subst (λ (n : ℕ). (t.0 == n) ≡ true) same (same-number t.0)) ∙ s)

-- ---- the types of the place

module _ (r : Resolve) (v : IsValid r) (scope : Scope) (types : List TypeId) (of : AreTypesOf r scope.own_interface types)
    (declares : scope.declarations ≡ declarations_in r scope.own_interface) where
  here : scope.declarations ≡ (interface_meaning_at r of.id.0).types
  here = declares ∙ ap (declarations_in r) of.is

  pub exports-start : (m : TypeEncodingMaps) (d : Definitions) → m.id_to_index.entries ≡ [] → d.exports ≡ [] → ShowsFirst r scope types 0 m d
  exports-start m d e f = subst (λ (ts : List TypeId). ShowsFirst r scope ts 0 m d) (sym of.listed) (starts r v scope of.id of.def of.is of.there here m d e f)

  pub exports-end : (k : ℕ) (m : TypeEncodingMaps) (d : Definitions) → length types ≤ k → ShowsFirst r scope types k m d → AllKnown m types × (d.exports ≡ declarations_in r scope.own_interface)
  exports-end k m d le s =
      let done = ends r v scope of.id of.def of.is of.there here k m d (subst (λ (ts : List TypeId). length ts ≤ k) of.listed le)
      (subst (λ (ts : List TypeId). ShowsFirst r scope ts k m d) of.listed s) in
      (subst (λ (ts : List TypeId). AllKnown m ts) (sym of.listed) done.0, done.1 ∙ declares)

  pub exports-next : (k : ℕ) (t : TypeId) → slice_get types k ≡ Some t → (scope' : Scope) → scope' ≡ scope → (m m' : TypeEncodingMaps) (d d' : Definitions) → ShowsFirst r scope types k m d → IsOnce m'
      → MapsGrow m m' → IsReady m' (ty.Id t) → LearnsOnly (MetFrom r scope'.own_interface m (ty.Id t ∷ [])) m m' → Shows r scope' m m' d d' → ShowsFirst r scope types (k + 1) m' d'
  exports-next k t at scope' same m m' d d' first once grow ready learns shows =
      let e = get_back (λ (x : String Global × TypeId). x.1) of.def.types.entries k t (ap (λ ts. slice_get ts k) (sym of.listed) ∙ at) in
      subst (λ (ts : List TypeId). ShowsFirst r scope ts (k + 1) m' d') (sym of.listed)
      (next r v scope of.id of.def of.is of.there here k e.0 e.1 m m' d d' (subst (λ (ts : List TypeId). ShowsFirst r scope ts k m d) of.listed first) once grow
      (subst (λ (x : TypeId). IsReady m' (ty.Id x)) (sym e.2) ready) (subst (λ (x : TypeId). LearnsOnly (MetFrom r scope.own_interface m (ty.Id x ∷ [])) m m') (sym e.2)
      (subst (λ (s : Scope). LearnsOnly (MetFrom r s.own_interface m (ty.Id t ∷ [])) m m') same learns)) (subst (λ (s : Scope). Shows r s m m' d d') same shows))
