-- The aliases in the component type of an interface.
use Rattle.std.proofs.Common.{◌≡◌, refl, sym, subst, ap, ◌∙◌, ℕ, ◌⊎◌, inl, inr, nat_cmp, nat_eq, Bool, List, [], ◌∷◌, ◌++◌, append_assoc, append-nil, map, Option, Some, None, slice_get, arith}
use Rattle.std.proofs.lemmas.{Cmp.nat_eq_equiv, List.Elements.Contains-append_cases, List.Elements.Contains-append_left, List.Elements.Contains-append_right}
use Rattle.std.proofs.lemmas.{List.map-append, Map.Keys.IsDistinct-push, Bool.cases_Bool}
use Rattle.std.specs.{BTreeMap.insert_entry, BTreeMap.is_at, List.Contains, List.IsDistinct}
use Rattle.wit_model.specs.Lookup.{interface_at}
use Rattle.wit_model.specs.declared.model.{Resolve.Resolve, Interface.Interface, InterfaceId.InterfaceId, «Type».«Type» as ValueType}
use Rattle.wit_model.proofs.Elements.{contains-get, none-in}
use Rattle.comp_bytes.specs.{Raw.Declaration, Raw.Declarations, Raw.append, Raw.from_list, Held.type_slots_of}
use Rattle.encode_names.specs.WorldNames.{name_of_interface}
use Rattle.encode_reach.specs.Reach.{reached_in_order}
use Rattle.encode_types.specs.Aliases.{AliasesMet, IsMetElsewhere}
use Rattle.encode_types.specs.Known.{Aliased, AreAliases, Around, IsAlias, alias_declared, known_instance, known_slot, with_alias, with_aliases}
use Rattle.encode_types.proofs.Planning.{lacks-member}
use Rattle.wit_encode.specs.{Dependencies.HasImported, Dependencies.ImportsTypes, Dependencies.with_export, Instance.EncodesInterface}
use Rattle.wit_encode.specs.DependencyAliases.{HasAliased, HasAliases, IsAliasAmong, IsAskedFor, IsMetAmong, IsMetByWhole, alias_in, aliases_declared, export_alias}
use Rattle.wit_encode.proofs.{Imported.at-same, LatestInstances.found-new, LatestInstances.found-other}
use Rattle.base_lemmas.proofs.{Lists.front_more, Numbers.none-twice}
use Rattle.base_lemmas.proofs.Elements.{contains-later, contains-one, last_of as one-contained, map_from as from-map}
use Rattle.comp_bytes.specs.declared.forms.ComponentTypeRef.TheVariants as refs

-- ---- one declaration more

aliases-both : (ds es : Declarations) → aliases_declared (append ds es) ≡ aliases_declared ds ++ aliases_declared es
aliases-both Declarations.no_more es = refl
aliases-both (Declarations.declares e rest) es = ap (λ xs. alias_in e ++ xs) (aliases-both rest es) ∙ sym (append_assoc (alias_in e) (aliases_declared rest) (aliases_declared es))
aliases-both (Declarations.component inner rest) es = aliases-both rest es
aliases-both (Declarations.instance inner rest) es = aliases-both rest es

aliases-behind : (ds : Declarations) (d : Declaration) → aliases_declared (append ds (Declarations.declares d Declarations.no_more)) ≡ aliases_declared ds ++ alias_in d
aliases-behind ds d = aliases-both ds (Declarations.declares d Declarations.no_more) ∙ ap (λ xs. aliases_declared ds ++ xs) (append-nil (alias_in d))

-- an instance type, and what uses it
aliases-placed : (ds inner outer : Declarations) (d : Declaration) → outer ≡ append (append ds (Declarations.instance inner Declarations.no_more)) (Declarations.declares d Declarations.no_more)
    → alias_in d ≡ [] → aliases_declared outer ≡ aliases_declared ds
aliases-placed ds inner outer d is none = ap aliases_declared is ∙ aliases-behind (append ds (Declarations.instance inner Declarations.no_more)) d ∙ ap
    (λ xs. aliases_declared (append ds (Declarations.instance inner Declarations.no_more)) ++ xs) none
    ∙ append-nil (aliases_declared (append ds (Declarations.instance inner Declarations.no_more))) ∙ aliases-both ds (Declarations.instance inner Declarations.no_more)
    ∙ append-nil (aliases_declared ds)

-- ---- between two imports

-- a type number that is known stays so
pub known-kept : (n t m : ℕ) (es : List (ℕ × ℕ)) → (known_slot es m ≡ None → ⊥) → known_slot (insert_entry nat_cmp es n t) m ≡ None → ⊥
known-kept n t m es known none = elim (cases_Bool (is_at (nat_cmp m) n)) [
  | inl e ↦ cc (sym (found-new n t es) ∙ (ap (known_slot (insert_entry nat_cmp es n t)) (sym (at-same m n e)) ∙ none))
  | inr e ↦ known (sym (found-other n t m es e) ∙ none)
]

-- the instance of an interface has its place
pub imported-lists : (r : Resolve) (a : Around) (ns : List ℕ) → HasImported r a ns → (i k : ℕ) → known_instance a.instances i ≡ Some k → slice_get ns k ≡ Some i
imported-lists r a ns h i k e =
    let at = contains-get ns i (h.alone i k e) in
    let both : Some at.0 ≡ Some k = sym (h.listed at.0 i at.1) ∙ e in
    subst (λ j. slice_get ns j ≡ Some i) (cc) at.1

module _ (r : Resolve) (ns : List ℕ) (P : ℕ → Type 0) where
  one-aliased : (a : Around) (x : Aliased) → ((i k : ℕ) → known_instance a.instances i ≡ Some k → slice_get ns k ≡ Some i) → IsAlias r a x → P x.number.0 → HasAliased r ns P a
      → HasAliased r ns P (with_alias a x)
  one-aliased a x lists is p h = record {
    has = record {
      made = h.has.made ++ x ∷ [];
      are = aliases-behind a.declared (alias_declared x) ∙ ap (λ xs. xs ++ export_alias x ∷ []) h.has.are ∙ sym (map-append export_alias h.has.made (x ∷ []));
      once = subst (IsDistinct nat_eq) (sym (map-append (λ (y : Aliased). y.number.0) h.has.made (x ∷ [])))
          (IsDistinct-push nat_eq_equiv (map (λ (y : Aliased). y.number.0) h.has.made) x.number.0 h.has.once (lacks-member (map (λ (y : Aliased). y.number.0) h.has.made) x.number.0 new));
      each = λ y c. elim (Contains-append_cases h.has.made (x ∷ []) y c) [ inl k ↦ h.has.each y k | inr k ↦ subst (IsAliasAmong r ns) (one-contained x y k) among ];
      asked = λ y c. elim (Contains-append_cases h.has.made (x ∷ []) y c) [ inl k ↦ h.has.asked y k | inr k ↦ subst (λ (z : Aliased). P z.number.0) (one-contained x y k) p ];
    };
    known = λ y c. elim (Contains-append_cases h.has.made (x ∷ []) y c) [
      | inl k ↦ known-kept x.number.0 (type_slots_of a.declared) y.number.0 a.known (h.known y k)
      | inr k ↦ subst (λ (z : Aliased). known_slot (with_alias a x).known z.number.0 ≡ None → ⊥) (one-contained x y k) (λ none. cc (found-new x.number.0 (type_slots_of a.declared) a.known))
    ];
  }
    where
      new : Contains (map (λ (y : Aliased). y.number.0) h.has.made) x.number.0 → ⊥
      new c = let y = from-map (λ (y : Aliased). y.number.0) h.has.made x.number.0 c in h.known y.0 y.1 (ap (known_slot a.known) y.2 ∙ is.first)

      among : IsAliasAmong r ns x
      among =
          let instance = lists is.interface.0 x.instance is.instance in
          record { def = is.def; name = is.name; interface = is.interface; there = is.there; named_ = is.named_; owned = is.owned; text = is.text; instance = instance }

  all-aliased : (a : Around) (made : List Aliased) → ((i k : ℕ) → known_instance a.instances i ≡ Some k → slice_get ns k ≡ Some i) → AreAliases r a made
      → ((x : Aliased) → Contains made x → P x.number.0) → HasAliased r ns P a → HasAliased r ns P (with_aliases a made)
  all-aliased a [] lists are p h = h
  all-aliased a (x ∷ made) lists are p h = all-aliased (with_alias a x) made lists are.1 (λ y c. p y (contains-later x made y c)) (one-aliased a x lists are.0 (p x (0, omega arith, refl)) h)

  pub met-aliased : {own : Option InterfaceId} {ts : List ValueType} {a b : Around} → ((i k : ℕ) → known_instance a.instances i ≡ Some k → slice_get ns k ≡ Some i) → AliasesMet r own ts a b
      → ((n : ℕ) → IsMetElsewhere r own ts n → P n) → HasAliased r ns P a → HasAliased r ns P b
  met-aliased {own} {ts} {a} {b} lists g f h = subst (HasAliased r ns P) (sym g.grown.is) (all-aliased a g.grown.made lists g.grown.are (λ x c. f x.number.0 (g.met x c)) h)

-- where nothing has been declared
pub nothing-aliased : (r : Resolve) (P : ℕ → Type 0) (a : Around) → a.declared ≡ Declarations.no_more → HasAliased r [] P a
nothing-aliased r P a none = record { has = record { made = []; are = ap aliases_declared none; once = none-twice; each = λ x c. none-in x c; asked = λ x c. none-in x c }; known = λ x c. none-in x c }

-- behind an instance type and what uses it, with more interfaces
module _ (r : Resolve) (ns ms : List ℕ) (P Q : ℕ → Type 0) (f : (n : ℕ) → P n → Q n) (among : (x : Aliased) → IsAliasAmong r ns x → IsAliasAmong r ms x) where
  has-along : (ds es : Declarations) → aliases_declared es ≡ aliases_declared ds → HasAliases r ns P ds → HasAliases r ms Q es
  has-along ds es e h = record { made = h.made; are = e ∙ h.are; once = h.once; each = λ x c. among x (h.each x c); asked = λ x c. f x.number.0 (h.asked x c) }

  pub aliased-along : (a b : Around) → aliases_declared b.declared ≡ aliases_declared a.declared → b.known ≡ a.known → HasAliased r ns P a → HasAliased r ms Q b
  unfolding has-along
  aliased-along a b e k h = record { has = has-along a.declared b.declared e h.has; known = λ x c none. h.known x c (ap (λ es. known_slot es x.number.0) (sym k) ∙ none) }

-- the types of one interface more have been imported
pub import-aliased : (r : Resolve) (canonical : Bool) (a a' : Around) (ns : List ℕ) (i : InterfaceId) (number : ℕ) → ImportsTypes r canonical a a' i number → HasImported r a ns
    → HasAliased r ns (IsMetAmong r ns) a → HasAliased r (ns ++ i.0 ∷ []) (IsMetAmong r (ns ++ i.0 ∷ [])) a'
import-aliased r canonical a a' ns i number t imported h =
    let part = t.encodes.part in
    let wide : (x : Aliased) → IsAliasAmong r ns x → IsAliasAmong r (ns ++ i.0 ∷ []) x = λ x y.
    let there = front_more ns i.0 x.instance y.interface.0 y.instance in
    record { def = y.def; name = y.name; interface = y.interface; there = y.there; named_ = y.named_; owned = y.owned; text = y.text; instance = there } in
    let more : (n : ℕ) → IsMetAmong r ns n → IsMetAmong r (ns ++ i.0 ∷ []) n = λ n m. (m.0, Contains-append_left ns (i.0 ∷ []) m.0 m.1, m.2) in
    let first : HasAliased r ns (IsMetAmong r (ns ++ i.0 ∷ [])) a = aliased-along r ns ns (IsMetAmong r ns) (IsMetAmong r (ns ++ i.0 ∷ [])) more (λ x y. y) a a refl refl h in
    let second : HasAliased r ns (IsMetAmong r (ns ++ i.0 ∷ [])) part.before = met-aliased r ns (IsMetAmong r (ns ++ i.0 ∷ [])) (imported-lists r a ns imported) part.aliases
    (λ n m. (i.0, Contains-append_right ns (i.0 ∷ []) i.0 (contains-one i.0), record { def = t.def; there = t.there; met = m })) first in
    aliased-along r ns (ns ++ i.0 ∷ []) (IsMetAmong r (ns ++ i.0 ∷ [])) (IsMetAmong r (ns ++ i.0 ∷ [])) (λ n m. m) wide part.before a'
    (aliases-placed part.before.declared (from_list part.declared) a'.declared (Declaration.imported (name_of_interface r canonical i.0) (refs.Instance t.slot))
    (ap (λ (z : Around). z.declared) t.imports ∙ ap (λ (z : Around). append z.declared
    (Declarations.declares (Declaration.imported (name_of_interface r canonical i.0) (refs.Instance t.slot)) Declarations.no_more)) part.one_more) refl)
    (ap (λ (z : Around). z.known) t.imports ∙ ap (λ (z : Around). z.known) part.one_more) second

-- and then the interface itself has been exported
pub export-aliased : (r : Resolve) (canonical : Bool) (a a' : Around) (ns : List ℕ) (i : InterfaceId) (def : Interface) (k : ℕ) (outer : Declarations) → interface_at r i.0 ≡ Some def
    → EncodesInterface r a a' i def k → outer ≡ with_export r canonical i k a'.declared
    → ns ≡ reached_in_order r i.0 → HasImported r a ns → HasAliased r ns (IsMetAmong r ns) a → HasAliases r (reached_in_order r i.0) (IsAskedFor r i.0) outer
export-aliased r canonical a a' ns i def k outer there encodes is order imported h =
    let part = encodes.part in
    let first : HasAliased r ns (λ n. IsMetAmong r ns n ⊎ IsMetByWhole r i.0 n) a =
    aliased-along r ns ns (IsMetAmong r ns) (λ n. IsMetAmong r ns n ⊎ IsMetByWhole r i.0 n) (λ n m. inl m) (λ x y. y) a a refl refl h in
    let second : HasAliased r ns (λ n. IsMetAmong r ns n ⊎ IsMetByWhole r i.0 n) part.before =
    met-aliased r ns (λ n. IsMetAmong r ns n ⊎ IsMetByWhole r i.0 n) (imported-lists r a ns imported) part.aliases (λ n m. inr (record { def = def; there = there; met = m })) first in
    subst (λ (ms : List ℕ). HasAliases r ms (λ n. IsMetAmong r ms n ⊎ IsMetByWhole r i.0 n) outer) order
    (has-along r ns ns (λ n. IsMetAmong r ns n ⊎ IsMetByWhole r i.0 n) (λ n. IsMetAmong r ns n ⊎ IsMetByWhole r i.0 n) (λ n m. m) (λ x y. y) part.before.declared outer
    (aliases-placed part.before.declared (from_list part.declared) outer (Declaration.exported (name_of_interface r canonical i.0) (refs.Instance k))
    (is ∙ ap (λ (z : Around). append z.declared (Declarations.declares (Declaration.exported (name_of_interface r canonical i.0) (refs.Instance k)) Declarations.no_more)) part.one_more)
    refl) second.has)
