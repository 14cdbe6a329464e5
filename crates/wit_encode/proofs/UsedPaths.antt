-- An interface that another uses has a path.
use Rattle.std.proofs.Common.{rules as std_rules, ◌≡◌, refl, sym, ap, ◌∙◌, ℕ, ◌==◌, Bool, true, false, not, ◌||◌, [], Option, Some, None, String, is_some, option_and_then}
use Rattle.std.proofs.lemmas.{Bool.not-true, Option.same_Some as some-same}
use Rattle.std.specs.declared.alloc.Global.{Global}
use Rattle.std.specs.{Prelude.is_none, List.Contains, List.list_all, Option.option_map_or}
use Rattle.indexmap.specs.IndexMap.{values}
use Rattle.wit_model.specs.{Lookup.interface_at, Lookup.interface_path, Lookup.type_at, Rules.is_named_kind, Rules.is_named_number, Rules.is_use, Rules.passes}
use Rattle.wit_model.specs.Uses.{alias_target, direct_deps, interface_used_by, interfaces_used_by, once, owner_interface, used_interface}
use Rattle.wit_model.specs.Parts.{has_owner, kind_numbers, met_by, met_of, same_owner, used_by_type}
use Rattle.wit_model.specs.Valid.{IsValid, named_kinds}
use Rattle.wit_model.specs.declared.model.{Resolve.Resolve, Interface.Interface, TypeDef.TypeDef, TypeDefKind.TypeDefKind, TypeId.TypeId}
use Rattle.wit_model.proofs.{Elements.contains-flat, Elements.contains-get, Elements.none-in, OnePath.named-path, ValidLemmas.type_passes as type-passes}
use Rattle.wit_model.proofs.PartsLemmas.{owner_same as same-owner}
use Rattle.encode_shown.proofs.{Basics.valid-references, Basics.or-cases, Reach.once_from, Zips.given-contains}
use Rattle.wit_encode.proofs.{ListedTypes.listed-type, Meeting.named-meets, Owned.owner-kept}
use Rattle.base_lemmas.proofs.{Bools.right_of as second_true, Numbers.same-number, Options.there as some-of}
use Rattle.base_lemmas.proofs.Elements.{all-contained, filter_kept as filter-contains, map_from as contains-mapped}
use Rattle.wit_model.specs.declared.model.TypeOwner.TheVariants as owner

abbrev is_named_at : Resolve → ℕ → Bool
is_named_at r k = option_map_or (λ (other : Interface). is_some other.name) (interface_at r k) false

module _ (r : Resolve) (v : IsValid r) (n k : ℕ) where
  -- the target of an alias is of a named interface, where it is of another owner
  of-used : (def : TypeDef) → used_interface r def ≡ Some k → is_use r def ≡ true → is_named_at r k ≡ true
  of-used def used is = search std_rules

  abbrev IsTarget : TypeDef → Type 0
  IsTarget def = (t : ℕ) × (target : TypeDef) × (alias_target def.kind ≡ Some t) × (type_at r t ≡ Some target) × (owner_interface target.owner ≡ Some k)

  target-of : (def : TypeDef) → used_interface r def ≡ Some k → IsTarget def
  target-of def used = search std_rules

  alias-number : (c : TypeDefKind) (t : ℕ) → alias_target c ≡ Some t → Contains (kind_numbers c) t
  alias-number x t e = search std_rules

  -- the target of an alias is among what it uses
  target-used : (number : ℕ) (def : TypeDef) → type_at r number ≡ Some def → (h : IsTarget def) → Contains (used_by_type r def) h.0
  unfolding named_kinds
  target-used number def at h =
      let rule = second_true (not (is_named_kind def.kind) || is_some def.name) (passes (is_named_number r) (alias_target def.kind)) (type-passes named_kinds r v.rules.named_kinds number def at) in
      let name = some-of h.1.name (ap (passes (λ (d : TypeDef). is_some d.name)) (sym h.3) ∙ (ap (passes (is_named_number r)) (sym h.2) ∙ rule)) in
      contains-flat (met_by (met_of r)) (kind_numbers def.kind) h.0 h.0 (alias-number def.kind h.0 h.2) (named-meets r (valid-references r v) h.0 h.1 name.0 h.3 name.1)

  -- so it isn't of the interface itself
  other-owner : (number : ℕ) (def : TypeDef) → type_at r number ≡ Some def → def.owner ≡ owner.Interface (record { 0 = n }) → IsTarget def → (k == n) ≡ false
      → list_all (has_owner r def.owner) (used_by_type r def) ≡ true → ⊥
  other-owner number def at owned h other all =
      let stays = all-contained (has_owner r def.owner) (used_by_type r def) h.0 all (target-used number def at h) in
      let same : same_owner h.1.owner def.owner ≡ true = ap (λ o. option_map_or (λ (d : TypeDef). same_owner d.owner def.owner) o false) (sym h.3) ∙ stays in
      cc (sym (same-number n) ∙ ap (λ m. m == n) (sym (some-same k n (sym h.4 ∙ (ap owner_interface (same-owner h.1.owner def.owner same ∙ owned))))) ∙ other)

  listed-use : (def : TypeDef) (number : ℕ) (name : String Global) → type_at r number ≡ Some def → def.name ≡ Some name → def.owner ≡ owner.Interface (record { 0 = n }) → used_interface r def ≡ Some k
      → (k == n) ≡ false → is_named_at r k ≡ true
  listed-use def number name at named owned used other = or-cases (is_none def.name) (list_all (has_owner r def.owner) (used_by_type r def) || is_use r def) (owner-kept r v number def at)
      (λ none. cc (ap is_none (sym named) ∙ none)) (λ rest. or-cases (list_all (has_owner r def.owner) (used_by_type r def)) (is_use r def) rest
      (λ all. absurd (other-owner number def at owned (target-of def used) other all)) (λ is. of-used def used is))

  pub used-path : Contains (direct_deps r n) k → is_some (interface_path r k) ≡ true
  used-path c =
      let f = filter-contains (λ m. not (m == n)) (once (option_map_or (interfaces_used_by r) (interface_at r n) [])) k c in
      go (interface_at r n) refl (once_from k (option_map_or (interfaces_used_by r) (interface_at r n) []) f.0) (not-true (k == n) f.1)
    where
      go : (o : Option Interface) → interface_at r n ≡ o → Contains (option_map_or (interfaces_used_by r) o []) k → (k == n) ≡ false → is_some (interface_path r k) ≡ true
      go None e d other = none-in k d
      go (Some i) e d other =
          let u = given-contains (λ (id : TypeId). interface_used_by r id.0) (values i.types) k d in
          let entry = contains-mapped (λ (x : String Global × TypeId). x.1) i.types.entries u.0 u.1 in
          let at = contains-get i.types.entries entry.0 entry.1 in
          let h = listed-type r v n i e at.0 entry.0 at.1 in
          let used : used_interface r h.def ≡ Some k = ap (option_and_then (used_interface r)) (sym h.there) ∙ ap (λ (id : TypeId). interface_used_by r id.0) entry.2 ∙ u.2 in
          named-path r v k (listed-use h.def entry.0.1.0 h.name h.there h.named_ (same-owner h.def.owner (owner.Interface (record { 0 = n })) h.owned) used other)
