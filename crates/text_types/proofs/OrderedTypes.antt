-- Types of a scope, made in an order in which each stands once. Serves scope::make_all.
use Rattle.std.proofs.Common.{◌≡◌, ◌∙◌, sym, ap, subst, refl, ℕ, suc, ◌<◌, arith, List, length, take, get_or, slice_get}
use Rattle.std.proofs.Common.{Bool, true, false, cond, if◌then◌else◌, Some, None, String, Global}
use Rattle.std.specs.{Map.lookup, Str.bytes_eq}
use Rattle.std.proofs.lemmas.{List.length-map, List.length-take-le, List.Elements.Contains-get_or}
use Rattle.std.proofs.lemmas.{Option.slice_get_within, Option.slice_get-get_or, Slice.Eq.bytes_eq-Decides}
use Rattle.base_lemmas.proofs.Lists.{slice_take}
use Rattle.wit_model.specs.Text.{Text, text_eq, text_of}
use Rattle.wit_model.specs.declared.model.{TypeDef.TypeDef, TypeId.TypeId, TypeOwner.TypeOwner}
use Rattle.print_grammar.specs.Tree.{PathTree, MemberTree}
use Rattle.text_names.specs.declared.sources.Sources.{Sources}
use Rattle.text_types.specs.declared.{members.Interfaces.Interfaces, scope.Scope.Scope}
use Rattle.text_types.specs.{Each.EachIs, Made.IsOfPlace, Made.NameMap, Made.TypeIs, Targets.TargetIn}
use Rattle.text_types.specs.Making.{AddsEntry, IsTypeOf, MakesUnder}
use Rattle.text_types.specs.Scopes.{type_name, types_in, Agrees, AreApartByName, OrdersTypes}
use Rattle.text_plain.specs.Orders.{AreApart}

-- ---- places

once_before : (order : List ℕ) (i : ℕ) → AreApart order → i < length order → (k : ℕ) → slice_get (take i order) k ≡ Some (get_or order i 0) → ⊥
once_before order i once within k there =
    let low : k < length (take i order) = slice_get_within (take i order) k (get_or order i 0) there in
    let before : k < i = omega (arith, low, length-take-le i order) in
    let same : k ≡ i = once k i (get_or order i 0) (sym (slice_take order i k before) ∙ there) (slice_get-get_or order i 0 within) in
    omega (arith, before, same)

pub place_within : (start now : Scope) (order : List ℕ) (i : ℕ) → OrdersTypes start order → types_in now ≡ types_in start → i < length order
    → get_or order i 0 < length now.types.items
place_within start now order i ordered types within =
    subst (λ n. get_or order i 0 < n) (ap length (sym types) ∙ length-map now.types.items _)
    (ordered.within (get_or order i 0) (Contains-get_or order i 0 within))

-- ---- names

type_named : {defs : List TypeDef} {T : PathTree → Text → TypeId → Type 0} {owner : TypeOwner} {member : MemberTree} {entry : String Global × TypeId}
    → TypeIs defs T owner member entry → text_of entry.0 ≡ type_name member
type_named (TypeIs.a_use named there means) = named
type_named (TypeIs.a_declaration named there) = named

module _ {defs : List TypeDef} {T : PathTree → Text → TypeId → Type 0} {owner : TypeOwner} (types : List MemberTree) (apart : AreApartByName types) (n : ℕ)
    (member : MemberTree) (there : slice_get types n ≡ Some member) (name : Text) (named : name ≡ type_name member) where
  differs : (m : ℕ) (entry : String Global × TypeId) → IsOfPlace (TypeIs defs T owner) types m entry → (m ≡ n → ⊥) → (b : Bool)
      → bytes_eq name (text_of entry.0) ≡ b → bytes_eq name (text_of entry.0) ≡ false
  differs m entry k other false e = e
  differs m entry k other true e =
      absurd (other (apart m n k.x member k.there there (sym (type_named k.is) ∙ (sym ((bytes_eq-Decides name (text_of entry.0)).0 e) ∙ named))))

  absent : {order : List ℕ} {entries : List (String Global × TypeId)} → EachIs (IsOfPlace (TypeIs defs T owner) types) order entries
      → ((k : ℕ) → slice_get order k ≡ Some n → ⊥) → lookup (λ k. bytes_eq name (text_of k)) entries ≡ None
  absent EachIs.no_more others = refl
  absent (EachIs.one_more {x = m} {y = entry} {ys = entries} k ks) others =
      ap (λ b. cond b (Some entry.1) (lookup (λ k. bytes_eq name (text_of k)) entries))
      (differs m entry k (λ e. others 0 (ap Some e)) (bytes_eq name (text_of entry.0)) refl)
      ∙ absent ks (λ k at. others (suc k) at)

-- the name of the next isn't there yet
pub entry_absent : {defs more : List TypeDef} {T U : PathTree → Text → TypeId → Type 0} {owner other : TypeOwner} (types : List MemberTree)
    (order : List ℕ) (i : ℕ) {entries : List (String Global × TypeId)} {entry : String Global × TypeId} → AreApartByName types → AreApart order → i < length order
    → EachIs (IsOfPlace (TypeIs defs T owner) types) (take i order) entries → IsOfPlace (TypeIs more U other) types (get_or order i 0) entry
    → lookup (λ k. bytes_eq (text_of entry.0) (text_of k)) entries ≡ None
entry_absent types order i {entry = entry} apart once within each k =
    absent types apart (get_or order i 0) k.x k.there (text_of entry.0) (type_named k.is) each (once_before order i once within)

-- ---- scopes

-- a type of a scope with the same types, package and owner
pub of_scope : {s : Sources} {interfaces : Interfaces} {defs : List TypeDef} (a b : Scope) (place : ℕ) (entry : String Global × TypeId)
    → types_in b ≡ types_in a → b.«package» ≡ a.«package» → b.owner ≡ a.owner → IsOfPlace (IsTypeOf s interfaces defs b) (types_in b) place entry
    → IsOfPlace (IsTypeOf s interfaces defs a) (types_in a) place entry
of_scope {s = s} {interfaces = interfaces} {defs = defs} a b place entry types home owner k = record {
  x = k.x;
  there = ap (λ l. slice_get l place) (sym types) ∙ k.there;
  is = subst (λ o. TypeIs defs (TargetIn s interfaces a.«package») o k.x entry) owner
      (subst (λ p. TypeIs defs (TargetIn s interfaces p) b.owner k.x entry) home k.is);
}

pub agrees_more : (old new : Scope) (types more : NameMap TypeId) (entry : String Global × TypeId) → MakesUnder old new entry → AddsEntry entry types more
    → Agrees types old → Agrees more new
agrees_more old new types more entry k h agrees name =
    k.finds name ∙ (ap (λ o. if text_eq (text_of entry.0) name then Some entry.1 else o) (agrees name) ∙ sym (h.finds name))
