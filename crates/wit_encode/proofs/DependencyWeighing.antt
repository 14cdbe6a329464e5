-- An interface that has no room in a component type of its own weighs more than the largest number of 32 bits.
use Rattle.std.proofs.Common.{rules as std_rules, ◌≡◌, refl, subst, ap, ℕ, zero, suc, ◌+◌, ◌≤◌, ◌==◌, inl, inr, Bool, true, List, [], ◌∷◌, Some, is_some, arith}
use Rattle.std.proofs.{lemmas.List.Kept.AllPairs-cons, lemmas.List.Elements.Contains-get_or, lemmas.List.Sums.sum_by-cons}
use Rattle.std.specs.{Prelude.sum_by, Prelude.AllPairs, Prelude.flat_map, List.Contains, List.IsDistinct, Option.option_map_or}
use Rattle.indexmap.specs.IndexMap.{values}
use Rattle.wit_model.specs.{Lookup.interface_at, Lookup.interface_path, Valid.IsValid, Valid.as_interface}
use Rattle.wit_model.specs.{Rules.interface_type_numbers, Uses.has, Uses.direct_deps, Uses.once}
use Rattle.wit_model.specs.Weight.{unit_of, number_weight, function_weight, instance_numbers, instance_weight, types_instance_weight, whole_instance_weight, brought_into, path_texts, imports_of_interface, interface_weight}
use Rattle.wit_model.specs.declared.model.{Resolve.Resolve, Interface.Interface, InterfaceId.InterfaceId, TypeId.TypeId}
use Rattle.comp_bytes.specs.Fits.{fits_name}
use Rattle.encode_shown.specs.Views.{AreReached, AreUsed}
use Rattle.encode_shown.proofs.{Reach.Chain, Reach.chain-reached, Reach.further, Reach.used-chain, Dependencies.distinct-front}
use Rattle.encode_types.specs.{MetKinds.ReachedFrom, MetKinds.referred, Room.IsUnfit, Room.LacksOne, Room.a_type, Room.a_request, Room.limit}
use Rattle.encode_types.proofs.{Rooms.are-different, Rooms.counts-few, Lists.none-in}
use Rattle.wit_model.proofs.{Elements.has-contains, Elements.contains-has}
use Rattle.encode_names.specs.WorldNames.{name_of_interface}
use Rattle.wit_encode.specs.DependencyRoom.{TypesLackRoom, ImportsLackRoom, an_interface, a_path, too_many, ComponentLacksRoom, of_imports, of_interface, of_path, LackingComponentsAreHeavy}
use Rattle.wit_encode.proofs.{ImportLoop.path-in-range, Reached.IsOwner, Reached.interface-owner, UsedPaths.used-path}
use Rattle.wit_encode.proofs.Weighing.{Differ, at-least, counted-least, counted-once, lacking-heavy, one-of, part-heavy-of, sum-among}
use Rattle.wit_encode.proofs.WorldFunctions.{long, name-fits, suffix-long, written-long, named-stands, numbers-of, numbers-weigh}
use Rattle.base_lemmas.proofs.{Elements.contains-map, Elements.all_at}
use Rattle.wit_model.specs.declared.model.TypeOwner.TheVariants as owner

-- ---- what is reached

-- a use, and then a chain of so many more
record Beyond (r : Resolve) (n m : ℕ) : Type 0 where
  pub steps : ℕ
  pub next : ℕ
  pub uses : has (direct_deps r n) next ≡ true
  pub chain : Chain r steps next m

beyond : (r : Resolve) (k n m : ℕ) → Chain r (suc k) n m → Beyond r n m
beyond r k n m c = record { steps = k; next = c.0; uses = c.1; chain = c.2 }

-- such a chain from the last leads to each of the others
used-beyond : (r : Resolve) (ns : List ℕ) (last : ℕ) → AreUsed r ns last → (m : ℕ) → Contains ns m → Beyond r last m
used-beyond r [] last used m c = none-in m c
used-beyond r (n ∷ ns) last used m (zero, l, e) =
    let before = used-chain r ns last used.1 used.0.0 used.0.1 in
    beyond r before.0 last m (further r before.0 last used.0.0 m before.1 (subst (λ (j : ℕ). has (direct_deps r used.0.0) j ≡ true) e (contains-has (direct_deps r used.0.0) n used.0.2)))
used-beyond r (n ∷ ns) last used m (suc k, l, e) = used-beyond r ns last used.1 m (k, omega (arith, l), e)

-- so they are among those that weigh
among-imports : (r : Resolve) → IsValid r → (n : ℕ) (ns : List ℕ) → AreUsed r ns n → (m : ℕ) → Contains ns m → Contains (imports_of_interface r n) m
among-imports r v n ns used m c =
    let b = used-beyond r ns n used m c in
    let first = has-contains (direct_deps r n) b.next b.uses in
    chain-reached r v (direct_deps r n) b.next b.steps m first (path-in-range r b.next (used-path r v n b.next first)) b.chain

-- each stands once
distinct-pairs : (xs : List ℕ) → IsDistinct (λ a b. a == b) xs → AllPairs Differ xs
unfolding IsDistinct
distinct-pairs [] d = λ i j d l m. absurd (omega (arith, m))
distinct-pairs (x ∷ xs) d = AllPairs-cons Differ x xs (λ i d' l. all_at (Differ x) xs d.0 _ (Contains-get_or xs i d' l)) (distinct-pairs xs d.1)

-- ---- the types of an interface alone

module _ (r : Resolve) (v : IsValid r) (i : InterfaceId) (def : Interface) (home : interface_at r i.0 ≡ Some def) where
  abbrev weigh : ℕ → ℕ
  weigh n = number_weight r (as_interface i.0) n

  abbrev own-numbers : List ℕ
  own-numbers = instance_numbers r def []

  pub types-owner : IsOwner r v (owner.Interface i) (interface_type_numbers def) []
  types-owner = let o = interface-owner r v i def home in record { types = o.types; listed = o.listed; functions = λ f c. none-in f c }

  pub listed-here : (t : TypeId) → Contains (values def.types) t → Contains (interface_type_numbers def) t.0
  listed-here t c = contains-map (λ (id : TypeId). id.0) (values def.types) t c

  abbrev Met : ℕ → Type 0
  Met n = ReachedFrom r (Some i) (referred (values def.types) []) n

  pub in-numbers : (n : ℕ) → Met n → Contains own-numbers n
  in-numbers n m = counted-once r v (owner.Interface i) (interface_type_numbers def) [] types-owner (values def.types) [] listed-here (λ f c. c) n m

  pub types-weigh : types_instance_weight r i.0 ≡ 64 + (sum_by weigh own-numbers + sum_by function_weight [])
  types-weigh = ap (λ t. option_map_or (λ x. instance_weight r i.0 x []) t 0) home

  types-fit : types_instance_weight r i.0 ≤ limit → TypesLackRoom r i def → ⊥
  types-fit light h = elim h.lacks [
    | inl one ↦ lacks one
    | inr many ↦ (
        let numbers = sum-among weigh h.numbers own-numbers (are-different r (Some i) h.numbers h.apart) (λ n c. in-numbers n (h.met n c)) in
        let one = at-least weigh h.numbers (λ n c. counted-least r v (owner.Interface i) (interface_type_numbers def) [] types-owner (values def.types) [] listed-here (λ f c. c) n (h.met n c)) in
        omega (arith, numbers, one, counts-few r (Some i) h.numbers, types-weigh, many, light)
        )
  ]
    where
      lacks : LacksOne r (Some i) (IsUnfit r) h.numbers [] → ⊥
      lacks (a_type n d c at part) =
          let a = part-heavy-of r v (owner.Interface i) (interface_type_numbers def) [] types-owner (values def.types) [] listed-here (λ f c. c) n d (h.met n c) at part in
          absurd (omega (arith, a, one-of weigh own-numbers n (in-numbers n (h.met n c)), types-weigh, light))
      lacks (a_request q c u) = none-in q c

types-least : (r : Resolve) (j : ℕ) → sum_by (number_weight r (as_interface j)) (numbers-of r (λ d. []) j) ≤ types_instance_weight r j
types-least r j = search std_rules

-- ---- the whole

module _ (r : Resolve) (v : IsValid r) (i : InterfaceId) (named : is_some (interface_path r i.0) ≡ true) (ns : List ℕ) (reaches : AreReached r i.0 ns) where
  abbrev deps : List ℕ
  deps = imports_of_interface r i.0

  abbrev path-weight : ℕ → ℕ
  path-weight m = unit_of (path_texts r m)

  abbrev total : ℕ
  total = 64 + (sum_by (number_weight r owner.None) (once (flat_map (brought_into r) (i.0 ∷ deps)))
      + (sum_by path-weight (i.0 ∷ deps) + (sum_by (types_instance_weight r) deps + whole_instance_weight r i.0)))

  pub weight-is : interface_weight r i.0 ≡ total
  unfolding interface_weight
  weight-is = refl

  apart : AllPairs Differ ns
  apart = distinct-pairs ns (distinct-front ns (i.0 ∷ []) reaches.once)

  pub types-within : sum_by (types_instance_weight r) ns ≤ sum_by (types_instance_weight r) deps
  types-within = sum-among (types_instance_weight r) ns deps apart (λ m c. among-imports r v i.0 ns reaches.used m c)

  pub paths-within : path-weight i.0 + sum_by path-weight ns ≤ sum_by path-weight (i.0 ∷ deps)
  paths-within = omega (arith, sum-among path-weight ns deps apart (λ m c. among-imports r v i.0 ns reaches.used m c), sum_by-cons path-weight i.0 deps)

  -- a path that is heavy doesn't fit
  path-fits : (canonical : Bool) (n : ℕ) → path-weight n ≤ limit → fits_name (name_of_interface r canonical n) ≡ true
  path-fits canonical n low =
      let is : path-weight n ≡ 64 + long (interface_path r n) = refl in
      name-fits (name_of_interface r canonical n) (long (interface_path r n)) (written-long r n canonical) (omega arith) (suffix-long r n canonical) (omega arith) (omega (arith, low, is))

  imports-fit : total ≤ limit → ImportsLackRoom r ns → ⊥
  imports-fit light (an_interface m def c at lacks) = types-fit r v m def at (omega (arith, one-of (types_instance_weight r) ns m.0 c, types-within, light)) lacks
  imports-fit light (a_path canonical n c unfit) = cc (path-fits canonical n (omega (arith, one-of path-weight ns n c, paths-within, light)))
  imports-fit light (too_many brought are many) =
      let types = numbers-weigh r (λ d. []) (types_instance_weight r) (types-least r) ns brought are.different (λ n c. named-stands r (λ d. []) v ns n (are.all n c)) in
      let each-one = at-least (λ (n : ℕ). 64) brought (λ n c. omega arith) in
      absurd (omega (arith, types, types-within, each-one, paths-within, at-least path-weight ns (λ n c. omega arith), many, light))

  component-fits : total ≤ limit → ComponentLacksRoom r i ns → ⊥
  component-fits light (of_imports lacks) = imports-fit light lacks
  component-fits light (of_interface def at lacks) = absurd (omega (arith, lacking-heavy r i def v at lacks, light))
  component-fits light (of_path canonical unfit) = cc (path-fits canonical i.0 (omega (arith, paths-within, light)))

pub lacking-components-heavy : LackingComponentsAreHeavy
lacking-components-heavy r i ns v named reaches lacks =
    let no : interface_weight r i.0 ≤ limit → ⊥ = λ l. let is = weight-is r v i named ns reaches in component-fits r v i named ns reaches (omega (arith, l, is)) lacks in
    omega (arith, no)
