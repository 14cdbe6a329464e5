-- Types of an interface of which an instance stands can be encoded, and the encoder can be used on.
use Rattle.std.proofs.Common.{rules as std_rules, ◌≡◌, ◌∙◌, sym, ap, subst, ℕ, ◌<◌, true, inr, [], ◌∷◌, length, Option, None, Some, unwrap_or, is_some}
use Rattle.std.proofs.lemmas.Option.{slice_get_within}
use Rattle.std.specs.List.{Contains}
use Rattle.wit_model.specs.declared.model.{InterfaceId.InterfaceId, Resolve.Resolve, TypeDef.TypeDef, TypeId.TypeId, TypeOwner.TypeOwner}
use Rattle.wit_model.specs.Types.{number_of}
use Rattle.wit_component.specs.{Fits.CanEncode, Plan.AllInRange, Plan.Reaches, Plan.foreign_owner}
use Rattle.wit_component.specs.InterfaceEncoders.{DefinitionsLeaveInterfaces, InterfaceEncoder, InterfaceScope, LeavesInterfaces, interface_encoder_view, packages_of, standing_in, world_of}
use Rattle.wit_component.specs.{Leaves.Leaves, Lookup.interface_path, Lookup.type_at, Valid.IsValid}
use Rattle.wit_component.specs.{OwnerScope.IsOfInstance, OwnerScope.IsScopeOf, OwnerScope.IsTypeOf, OwnerScope.NamesEncode, OwnerScope.NamesStand, Scope.Scope}
use Rattle.callers.specs.Encoded.{IsEncoderOf}
use Rattle.base_lemmas.proofs.Elements.{last_of as one-contained}
use Rattle.wit_model.specs.declared.model.TypeOwner.TheVariants as owner
use Rattle.wit_model.specs.declared.model.«Type».TheVariants as ty

-- ---- what is met of a type of another interface

in-range : (r : Resolve) (id : TypeId) → id.0 < length r.types.items → AllInRange r (ty.Id id ∷ [])
in-range r id h t c other is = subst (λ (n : ℕ). n < length r.types.items) (ap (λ x. unwrap_or (number_of x) id.0) (one-contained (ty.Id id) t c ∙ is)) h

module _ (r : Resolve) (scope : Scope) (interface : InterfaceId) (id : TypeId) (outside : scope.own_interface ≡ None)
    (named : is_some (interface_path r interface.0) ≡ true) (stands : Contains scope.instances interface.0) (owned : IsTypeOf r (owner.Interface interface) id) where
  foreign : foreign_owner scope.own_interface owned.def.owner ≡ Some interface
  foreign = ap (λ (own : Option InterfaceId). foreign_owner own owned.def.owner) outside ∙ ap (λ (o : TypeOwner). foreign_owner None o) owned.owned

  met : (n : ℕ) (def : TypeDef) → Reaches r scope.own_interface (ty.Id id) n → type_at r n ≡ Some def → def ≡ owned.def
  met n def reaches there = search std_rules

  of-instance : (n : ℕ) (def : TypeDef) → Reaches r scope.own_interface (ty.Id id) n → type_at r n ≡ Some def → IsOfInstance r scope def
  of-instance n def reaches there = search std_rules

  pub names-stand : (o : TypeOwner) → NamesStand r o scope (ty.Id id ∷ [])
  names-stand o n def (t, in_list, reaches) there is = inr (of-instance n def (subst (λ x. Reaches r scope.own_interface x n) (sym (one-contained (ty.Id id) t in_list)) reaches) there)

pub can-encode : InterfaceScope → NamesEncode → (r : Resolve) (e : InterfaceEncoder) (interface : InterfaceId) (id : TypeId) → IsEncoderOf r e → is_some (interface_path r interface.0) ≡ true
    → Contains (standing_in e) interface.0 → IsTypeOf r (owner.Interface interface) id → CanEncode r (interface_encoder_view e).scope (ty.Id id ∷ [])
can-encode scoped encode r e interface id encoder named stands owned =
    let scope = (interface_encoder_view e).scope in
    let can = encoder.can in
    let is_scope = scoped e can in
    let ranged = in-range r id (slice_get_within r.types.items id.0 owned.def owned.there) in
    let valid = subst (λ (x : Resolve). IsValid x) encoder.packages_ can.valid in
    encode r (world_of e) scope (ty.Id id ∷ []) valid (subst (λ (x : Resolve). IsScopeOf x (world_of e) scope) encoder.packages_ is_scope) ranged
    (names-stand r scope interface id is_scope.own named stands owned (world_of e))

-- ---- the encoder behind a call

pub left : (r : Resolve) (e e' : InterfaceEncoder) → IsEncoderOf r e → LeavesInterfaces e e' → IsEncoderOf r e'
left r e e' encoder leaves = record {
  packages_ = leaves.packages_ ∙ encoder.packages_;
  can = leaves.can;
  agree = record {
    says = λ k i held. leaves.stands i _ (encoder.agree.says k i (rw leaves.maps_ at held));
    once = rw (sym leaves.maps_) at encoder.agree.once;
  };
}

pub defined : DefinitionsLeaveInterfaces → (r : Resolve) (e e' : InterfaceEncoder) → IsEncoderOf r e → Leaves r (interface_encoder_view e) (interface_encoder_view e') → IsEncoderOf r e'
defined leave r e e' encoder leaves = search std_rules

pub still-named : (r : Resolve) (e e' : InterfaceEncoder) (n : ℕ) → IsEncoderOf r e → LeavesInterfaces e e' → is_some (interface_path r n) ≡ true → is_some (interface_path (packages_of e') n) ≡ true
still-named r e e' n encoder leaves named = subst (λ (x : Resolve). is_some (interface_path x n) ≡ true) (sym (leaves.packages_ ∙ encoder.packages_)) named
