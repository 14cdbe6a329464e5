-- Where no type has a name, each can be encoded by an encoder of interfaces that hasn't been used.
use Rattle.std.proofs.Common.{◌≡◌, refl, subst, ap, ◌∙◌, ℕ, ◌<◌, true, [], ◌∷◌, length, Option, None, Some, unwrap_or, is_some}
use Rattle.std.specs.{List.list_all, Prelude.is_none}
use Rattle.wit_model.specs.{Types.number_of, Valid.IsValid}
use Rattle.wit_model.specs.declared.model.{Resolve.Resolve, TypeDef.TypeDef, TypeId.TypeId}
use Rattle.encode_types.specs.{Plan.AllInRange, View.Agrees}
use Rattle.wit_encode.specs.OwnerScope.{IsScopeOf, NamesStand}
use Rattle.wit_encode.proofs.OwnerScope.{names_encode, table_is_scope}
use Rattle.wit_interfaces.specs.InterfaceEncoders.{InterfaceEncoder, interface_encoder_view}
use Rattle.case_calls.specs.Asked.{CanBeAsked}
use Rattle.base_lemmas.proofs.Elements.{all_get as at-index, last_of as one-contained}
use Rattle.wit_model.specs.declared.model.TypeOwner.TheVariants as owner
use Rattle.wit_model.specs.declared.model.«Type».TheVariants as ty

abbrev AreUnnamed : Resolve → Type 0
AreUnnamed r = list_all (λ (def : TypeDef). is_none def.name) r.types.items ≡ true

-- what has a name isn't without one
no-name : {X : Type 0} (o : Option X) → is_none o ≡ true → is_some o ≡ true → ⊥
no-name None e h = cc
no-name (Some x) e h = cc

module _ (e : InterfaceEncoder) (sound : (interface_encoder_view e).scope.is_sound ≡ true) (id : TypeId) where
  abbrev own : Resolve
  own = (interface_encoder_view e).scope.packages

  in-own-range : id.0 < length own.types.items → AllInRange own (ty.Id id ∷ [])
  in-own-range h t c i is = subst (λ (n : ℕ). n < length own.types.items) (ap (λ x. unwrap_or (number_of x) id.0) (one-contained (ty.Id id) t c ∙ is)) h

  stands : AreUnnamed own → NamesStand own (owner.World e.encoder.world) (interface_encoder_view e).scope (ty.Id id ∷ [])
  stands unnamed n def met is named = absurd (no-name def.name (at-index (λ (d : TypeDef). is_none d.name) own.types.items n def unnamed is) named)

  is-scope : IsValid own → IsScopeOf own (owner.World e.encoder.world) (interface_encoder_view e).scope
  is-scope v =
      let t = table_is_scope own (owner.World e.encoder.world) v in
      record { packages_ = refl; place_ = refl; own = refl; declares = t.declares; names = t.names; sound = sound }

  of-own : IsValid own → AreUnnamed own → id.0 < length own.types.items → Agrees own (interface_encoder_view e) → CanBeAsked own (ty.Id id) (interface_encoder_view e)
  of-own v unnamed h agree = record {
    encodable = names_encode own (owner.World e.encoder.world) (interface_encoder_view e).scope (ty.Id id ∷ []) v (is-scope v) (in-own-range h) (stands unnamed);
    agree = agree;
  }

  pub asked : (r : Resolve) → own ≡ r → IsValid r → AreUnnamed r → id.0 < length r.types.items → Agrees r (interface_encoder_view e) → CanBeAsked r (ty.Id id) (interface_encoder_view e)
  asked r is v unnamed h agree = subst (λ (x : Resolve). IsValid x → AreUnnamed x → id.0 < length x.types.items → Agrees x (interface_encoder_view e)
      → CanBeAsked x (ty.Id id) (interface_encoder_view e)) is of-own v unnamed h agree
