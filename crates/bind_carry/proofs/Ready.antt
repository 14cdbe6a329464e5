-- What is carried of a `Resolve` in range can be copied, and so can what the bound world gains.
use Rattle.bind_carry.proofs.{CopiesPlaced.numbers_by_long, CopiesPlaced.numbers_long, Ranges.keys_below, Ranges.new_shown_below, Ranges.types_below, SecondInitial.second_long, SecondInitial.unified_long, Needed.pruned_long, SettledParts.settled_long}
use Rattle.bind_carry.specs.{First.all_first_fates, First.first_marks, Needs.needed_of}
use Rattle.bind_carry.specs.{Bound.IsBoundReady, BoundGains.AreWorldKeysBelow, BoundGains.are_types_below, BoundGains.bound_fates, Fates.AreCopied, First.adds_any, First.fate_of, First.first_fates, InRange.IsInRange, Listed.IsOwnerBelow, Numbers.numbers_of, Over.IsCarriedReady, Shown.AreNewShownBelow, Which.AreMatchedAll, Which.IsNumbered, declared.fate.Fate.Fate, declared.plan.Carried.Carried}
use Rattle.bind_copy.specs.Copies.{AreEntriesBelow, AreFunctionsBelow, are_names_below}
use Rattle.bind_match.specs.declared.matches.Matches.{Matches}
use Rattle.std.proofs.Common.{Bool, List, Some, ap, is_none, length, map, rules as std_rules, subst, sym, true, ℕ, ◌+◌, ◌∙◌, ◌≡◌}
use Rattle.std.proofs.lemmas.List.{length-map}
use Rattle.std.specs.Prelude.{OnOk, Result}
use Rattle.wit_model.specs.{Lookup.interface_at, Lookup.type_at, Lookup.world_at, declared.model.Interface.Interface, declared.model.Resolve.Resolve}
use Rattle.wit_model.specs.declared.model.{TypeDef.TypeDef, World.World}

module _ (own other : Resolve) (m : Matches) (c : Carried) (range : IsInRange other) (all : AreMatchedAll other m) (is : IsNumbered own other m c) where
  package_count : length other.packages.items ≡ length c.packages.items
  package_count = sym all.packages ∙ (sym (length-map m.packages.items is_none) ∙ (ap length (sym is.new_packages) ∙ is.whole.packages))

  pub interface_count : length c.interfaces.items ≡ length other.interfaces.items
  interface_count = sym is.whole.interfaces ∙ is.interface_count

  world_count : length c.worlds.items ≡ length other.worlds.items
  world_count = sym is.whole.worlds ∙ is.world_count

  pub owners_below : (n : ℕ) (def : TypeDef) → type_at other n ≡ Some def → IsOwnerBelow (length c.copied_interfaces.items) (length c.copied_worlds.items) def.owner
  owners_below n def at = search std_rules

  pub carried_ready : (types : ℕ) → types ≡ length other.types.items → IsCarriedReady other c types
  carried_ready types count = search (std_rules, package_count, interface_count, world_count)

-- ---- the first pass

-- each type has a fate
pub fates_long : (own other : Resolve) (m : Matches) (c : Carried) → length (first_fates own other m.interfaces.items c) ≡ length other.types.items
fates_long own other m c = pruned_long (needed_of (first_marks other c) 0 other.types.items (all_first_fates own other m.interfaces.items c)) (all_first_fates own other m.interfaces.items c)
    ∙ settled_long (adds_any c) other.types.items (map (fate_of own m.interfaces.items c) other.types.items) (length-map other.types.items (fate_of own m.interfaces.items c))

-- and a number
pub numbers_count : (own : ℕ) (numbers : List ℕ) (types : List TypeDef) (fates : List Fate) (old new : List TypeDef) → AreCopied own numbers types fates old new → length numbers ≡ length fates
numbers_count own numbers types fates old new is = ap length is.numbers_are ∙ numbers_by_long (own + length old) fates

-- ---- keys

-- the keys of a world of what is in range
pub world_keys_below : (other : Resolve) → IsInRange other → (n : ℕ) (v : World) → world_at other n ≡ Some v → (count : ℕ) → count ≡ length other.interfaces.items → AreWorldKeysBelow count v
world_keys_below other range n v at count e = search (std_rules, keys_below)

-- ---- what the bound world gains

module _ (own other : Resolve) (world other_world : ℕ) (c : Carried) (fates : List Fate) (types : List ℕ) (ready : IsBoundReady own other world other_world c fates types) where
  module _ (v : World) (at : world_at other other_world ≡ Some v) where
    pub imports_shown : (count : ℕ) → count ≡ length other.interfaces.items → AreNewShownBelow count (length other.interfaces.items) v.imports.entries
    imports_shown count e = subst (λ (k : ℕ). AreNewShownBelow k (length other.interfaces.items) v.imports.entries) (sym e)
        (new_shown_below (length other.interfaces.items) (length other.types.items) v.imports.entries (ready.in_range.imports other_world v at))

    pub exports_shown : (count : ℕ) → count ≡ length other.interfaces.items → AreNewShownBelow count (length other.interfaces.items) v.exports.entries
    exports_shown count e = subst (λ (k : ℕ). AreNewShownBelow k (length other.interfaces.items) v.exports.entries) (sym e)
        (new_shown_below (length other.interfaces.items) (length other.types.items) v.exports.entries (ready.in_range.exports other_world v at))

    pub types_shown : are_types_below (length other.types.items) v.imports.entries ≡ true
    types_shown = types_below (length other.interfaces.items) (length other.types.items) v.imports.entries (ready.in_range.imports other_world v at)

    pub imports_below : (interfaces numbers : ℕ) → interfaces ≡ length other.interfaces.items → numbers ≡ length other.types.items → AreEntriesBelow interfaces numbers v.imports.entries
    imports_below interfaces numbers e k = subst (λ (x : ℕ). AreEntriesBelow x numbers v.imports.entries) (sym e)
        (subst (λ (x : ℕ). AreEntriesBelow (length other.interfaces.items) x v.imports.entries) (sym k) (ready.in_range.imports other_world v at))

    pub exports_below : (interfaces numbers : ℕ) → interfaces ≡ length other.interfaces.items → numbers ≡ length other.types.items → AreEntriesBelow interfaces numbers v.exports.entries
    exports_below interfaces numbers e k = subst (λ (x : ℕ). AreEntriesBelow x numbers v.exports.entries) (sym e)
        (subst (λ (x : ℕ). AreEntriesBelow (length other.interfaces.items) x v.exports.entries) (sym k) (ready.in_range.exports other_world v at))

  pub names_in : (count : ℕ) → count ≡ length other.types.items → (n : ℕ) (i : Interface) → interface_at other n ≡ Some i → are_names_below count i.types.entries ≡ true
  names_in count e n i at = ap (λ (k : ℕ). are_names_below k i.types.entries) e ∙ ready.in_range.type_names n i at

  pub functions_in : (count : ℕ) → count ≡ length other.types.items → (n : ℕ) (i : Interface) → interface_at other n ≡ Some i → AreFunctionsBelow count i.functions.entries
  functions_in count e n i at = subst (λ (k : ℕ). AreFunctionsBelow k i.functions.entries) (sym e) (ready.in_range.functions n i at)

-- each type has a fate there, too
pub bound_long : (other : Resolve) (world other_world : ℕ) (w v : World) (copied : List Bool) (interfaces : List ℕ) (fates : List Fate) (numbers : List ℕ) → length fates ≡ length other.types.items
    → length numbers ≡ length other.types.items → length (bound_fates other world other_world w v copied interfaces fates numbers) ≡ length other.types.items
bound_long other world other_world w v copied interfaces fates numbers long_fates long_numbers = search (std_rules, pruned_long, settled_long, unified_long, second_long)

-- each has a number
pub numbers_many : (first : ℕ) (flags : List Bool) (others numbers : List ℕ) (n : ℕ) → numbers ≡ numbers_of first flags others → length flags ≡ n → length others ≡ n → length numbers ≡ n
numbers_many first flags others numbers n e p q = ap length e ∙ (sym (numbers_long first flags others (p ∙ sym q)) ∙ p)

-- what follows of two things that hold where an answer is there
pub on_ok_two : {A E P Q R : Type 0} → (P → Q → R) → (r : Result A E) → OnOk r P → OnOk r Q → OnOk r R
on_ok_two f x p q = search std_rules
