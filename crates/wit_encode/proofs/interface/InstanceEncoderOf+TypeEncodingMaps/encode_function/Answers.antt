use Rattle.std.proofs.Common.{refl, sym, subst, ap, ◌∙◌, inl, inr, rules, arith}
use Rattle.base_lemmas.proofs.Options.{on-both, at_ok as on-any}
use Rattle.wit_encode.proofs.Placed.{function-in-order, open-still}
use Rattle.wit_encode.proofs.{Referring.from-met, Continuing.function-showed, Continuing.after-types, Refusing.function-named, Counting.adds-function, Counting.function-counted, Counting.function-names, FunctionRoom.lacks-type, FunctionRoom.lacks-name, FunctionExports.function-stays}
use Rattle.wit_model.specs.declared.model.Resolve.{Resolve}
use Rattle.encode_types.specs.{Scope.Scope, Maps.MapsGrow, MetKinds.LearnsFrom, Room.export_name, Room.function_name, Extents.name_extent}
use Rattle.wit_encode.specs.{Instance.encoder_scope, Instance.own_of, Encoders.encoder_view}
use Rattle.encode_types.specs.declared.maps.TypeEncodingMaps.{TypeEncodingMaps}
use Rattle.wit_model.specs.{Text.Text, Text.text_of, Meaning.FunctionMeaning, Meant.signature_of, Meant.function_meaning, Parts.function_types}
use Rattle.comp_bytes.specs.RawOf.{raw_name}
use Rattle.encode_types.proofs.{Rooms.holds-same, Rooms.only-reached, Agree.on_ok, Writing.writes-beside, Aliasing.makes-same}
use Rattle.wit_encode.proofs.interface.InstanceEncoderOf+TypeEncodingMaps.encode_function.Goals as goal

pub encode_func_type-requires : goal.encode_func_type-requires
encode_func_type-requires c = λ _. ((refl, tt), rw c.requires.open.packages_ (c.requires.encodable.types, (c.requires.encodable.formed, c.requires.open.agree)))

pub export_function-requires-clause-sound : goal.export_function-requires-clause-sound
export_function-requires-clause-sound c = ap (λ (s : Scope). s.is_sound) c.encode_func_type.ensures.leaves.scope_stays
    ∙ ap (λ (r : Resolve). (encoder_scope r c.args.self.now.outer c.args.self.now.inner).is_sound) c.requires.open.packages_ ∙ c.requires.encodable.formed.sound

pub returns : goal.returns
returns c =
    let r = c.args.resolve.now in let e₀ = c.args.self.now in let e₁ = c.encode_func_type.new.enc in let e₂ = c.export_function.new.self in
    let shown : Text × FunctionMeaning = ((raw_name c.name_of.result).text, record { signature = signature_of r c.args.func.now; external_id = (raw_name c.name_of.result).external_id }) in
    let showed = function-showed c.export_function.result r e₀.resolve.now e₁.resolve.now e₂.resolve.now e₀.outer e₁.outer e₂.outer e₀.inner e₁.inner e₂.inner e₀.maps e₁.maps e₂.maps
    (text_of c.args.name.now, function_meaning r c.args.func.now) shown c.requires.open.packages_ c.encode_func_type.ensures.leaves.scope_stays c.encode_func_type.ensures.leaves.agree
    c.encode_func_type.ensures.leaves.grows.around_ (λ i. (c.export_function.ensures.resolve i).now) c.export_function.ensures.outer c.export_function.ensures.own c.export_function.ensures.around
    c.export_function.ensures.maps (λ i. (c.name_of.ensures.text i, record { signature = signature_of r c.args.func.now; external_id = c.name_of.ensures.external_id i }))
    (c.export_function.ensures.ok (signature_of r c.args.func.now) c.in_ok-index.ensures.ok) c.export_function.ensures.err in
    let stays = function-stays c.export_function.result r e₀.resolve.now e₁.resolve.now e₂.resolve.now e₀.outer e₁.outer e₂.outer e₀.inner e₁.inner e₂.inner e₀.maps e₁.maps c.args.func.now shown
    c.requires.open.valid c.requires.used c.requires.open.packages_ c.encode_func_type.ensures.leaves.scope_stays (λ i. (c.export_function.ensures.resolve i).now)
    c.encode_func_type.ensures.leaves.agree.once c.in_ok-index.ensures.learns.only c.in_ok-index.ensures.counts.2.shows
    (c.export_function.ensures.ok (signature_of r c.args.func.now) c.in_ok-index.ensures.ok) in
    record {
      continues = record { packages_ = search rules; inside = search rules; continues = showed.continues };
      aliases = makes-same c.export_function.ensures.around c.encode_func_type.ensures.aliases;
      shows = showed.shows;
      counts = function-counted c.export_function.result r e₀.resolve.now e₁.resolve.now e₂.resolve.now e₀.outer e₁.outer e₂.outer e₀.inner e₁.inner e₂.inner e₀.maps e₁.maps e₂.maps c.args.func.now
          shown c.in_ok-index.index c.requires.open.agree.once c.requires.open.packages_ c.encode_func_type.ensures.leaves.scope_stays (λ i. (c.export_function.ensures.resolve i).now)
          c.export_function.ensures.maps c.in_ok-index.ensures.counts (c.export_function.ensures.ok (signature_of r c.args.func.now) c.in_ok-index.ensures.ok);
      learns = on-any c.export_function.result (subst (λ (m : TypeEncodingMaps). LearnsFrom r (own_of e₀.inner) (function_types c.args.func.now) e₀.maps m) (sym c.export_function.ensures.maps)
          (from-met r (own_of e₀.inner) (function_types c.args.func.now) e₀.maps e₁.maps c.in_ok-index.ensures.learns));
      maps_grow = subst (λ (m : TypeEncodingMaps). MapsGrow e₀.maps m) (sym c.export_function.ensures.maps) c.encode_func_type.ensures.leaves.maps_grow;
      types_stay = stays;
      names_stay = function-names c.export_function.result r e₀.resolve.now e₁.resolve.now e₂.resolve.now e₀.outer e₁.outer e₂.outer e₀.inner e₁.inner e₂.inner e₀.maps e₁.maps e₂.maps shown
          c.requires.open.packages_ c.encode_func_type.ensures.leaves.scope_stays (λ i. (c.export_function.ensures.resolve i).now) c.export_function.ensures.maps c.in_ok-index.ensures.counts.2.shows
          (c.export_function.ensures.ok (signature_of r c.args.func.now) c.in_ok-index.ensures.ok) stays;
      held = on-any c.export_function.result (holds-same 0 1 c.export_function.ensures.maps c.export_function.ensures.held c.in_ok-index.ensures.held);
      places =
          let stay = c.encode_func_type.ensures.leaves.scope_stays in
          let sound = c.requires.encodable.formed.sound in
          let between = open-still e₀.inner e₁.inner (ap (λ (s : Scope). s.own_interface) stay) c.requires.open.inside in
          let after = open-still e₁.inner e₂.inner c.export_function.ensures.own between in
          let continues = showed.continues in
          on-both c.export_function.result _ _ _ (λ shown same. function-in-order r e₀.resolve.now e₁.resolve.now e₀.outer e₁.outer e₂.outer e₀.inner e₁.inner e₂.inner c.requires.open.inside between
          after sound (ap (λ (s : Scope). s.is_sound) stay ∙ ap (λ (q : Resolve). (encoder_scope q e₀.outer e₀.inner).is_sound) c.requires.open.packages_ ∙ sound)
          (ap (λ (s : Scope). s.is_sound) continues.scope_stays ∙ sound) c.in_ok-index.index (raw_name c.name_of.result) c.encode_func_type.ensures.leaves.grows.own_
          (elim c.in_ok-index.ensures.last [ inl e ↦ inl e | inr n ↦ inr (n.one_more, n.last) ]) shown same) c.export_function.ensures.exports stays;
      written =
          let named = ap name_extent (function-named (raw_name c.name_of.result) (text_of c.args.name.now, c.args.func.now) c.name_of.ensures.text c.name_of.ensures.implements
          c.name_of.ensures.version_suffix c.name_of.ensures.external_id) in
          let between = encoder_view e₁ in
          let after = encoder_view e₂ in
          on_ok c.export_function.result _ _ (λ w.
          writes-beside (name_extent (function_name (text_of c.args.name.now, c.args.func.now))) c.in_ok-index.ensures.written ((omega (arith, named, w.extent)))
          (ap (λ (m : TypeEncodingMaps). m.id_to_index.entries) c.export_function.ensures.maps)) c.export_function.ensures.written;
      size = λ h.
          let before = encoder_view e₀ in
          let after = encoder_view e₂ in
          let counts = c.in_ok-index.ensures.counts in
          let adds = adds-function counts.0 c.in_ok-index.index c.args.func.now counts.1 c.requires.open.agree.once counts.2 in
          let refused = c.export_function.ensures.size h in
          lacks-name r (own_of e₀.inner) after.lacks_room (text_of c.args.name.now) c.args.func.now e₀.maps e₁.maps before.held (encoder_view e₁).held after.held
          c.encode_func_type.ensures.leaves.agree.once c.encode_func_type.ensures.leaves.maps_grow c.in_ok-index.ensures.held
          (only-reached r (own_of e₀.inner) (function_types c.args.func.now) c.in_ok-index.ensures.learns.only) adds.known refused.held
          (subst after.lacks_room (ap export_name (function-named (raw_name c.name_of.result) (text_of c.args.name.now, c.args.func.now) c.name_of.ensures.text c.name_of.ensures.implements
          c.name_of.ensures.version_suffix c.name_of.ensures.external_id)) refused.lacks);
      refuses = search rules;
    }

pub returns-in_err-index-clause-continues : goal.returns-in_err-index-clause-continues
returns-in_err-index-clause-continues c = record {
  packages_ = search rules;
  inside = search rules;
  continues = after-types c.args.resolve.now c.args.self.now.resolve.now c.encode_func_type.new.enc.resolve.now c.args.self.now.outer c.encode_func_type.new.enc.outer c.args.self.now.inner
      c.encode_func_type.new.enc.inner c.args.self.now.maps c.encode_func_type.new.enc.maps c.requires.open.packages_ c.encode_func_type.ensures.leaves.scope_stays
      c.encode_func_type.ensures.leaves.agree c.encode_func_type.ensures.leaves.grows.around_;
}

pub returns-in_err-index-clause-size : goal.returns-in_err-index-clause-size
returns-in_err-index-clause-size c = λ h.
    let before = encoder_view c.args.self.now in
    let after = encoder_view c.encode_func_type.new.enc in
    let refused = c.encode_func_type.ensures.size (search rules) in
    lacks-type c.args.resolve.now (own_of c.args.self.now.inner) after.lacks_room (text_of c.args.name.now) c.args.func.now c.args.self.now.maps before.held after.held c.requires.open.agree.once
    refused.new_key refused.room
