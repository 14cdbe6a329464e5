use Rattle.std.proofs.Common.{◌≡◌, ◌∙◌, inl, inr, true, ap, sym, subst, refl, ℕ, zero, ◌∷◌, Result, Err, rules, arith}
use Rattle.std.proofs.lemmas.Result.{on_ok_weaker as on-each}
use Rattle.encode_types.specs.{View.Told, Scope.Scope, Extents.name_extent, Extents.signature_extent}
use Rattle.wit_model.specs.{declared.error.Error.Error, declared.model.WorldItem.WorldItem, declared.model.Resolve.Resolve, Meant.signature_of}
use Rattle.encode_names.specs.{WorldNames.name_of_item, WorldSteps.declared_towards, WorldSteps.with_entry}
use Rattle.wit_encode.specs.{Encoders.declared_after, WorldItems.HasShown, WorldItems.IsNext, WorldItems.entry_of, WorldItems.towards, WrittenBytes.AddsLearnt, Worlds.world_encoder_view, Worlds.is_sound_outside, Worlds.world_around, Places.are_beside}
use Rattle.comp_bytes.specs.Raw.{Declarations}
use Rattle.wit_encode.proofs.{Places.function-beside, Places.grows-none, Places.towards-of, WorldHolding.function-defined, WorldHolding.towards-function, WorldCalls.outer-slots-counted, BytesWritten.function-item, BytesWritten.learnt-more, BytesWritten.learnt-most, WrittenNames.function-names, WorldFunctions.can-encode, WorldFunctions.function-encoded, WorldFunctions.declared-few}
use Rattle.wit_encode.proofs.WorldHolding.{function-few, function-lacks, function-name-lacks, one-key}
use Rattle.wit_model.specs.declared.error.Error.TheVariants as errors
use Rattle.comp_bytes.specs.declared.forms.ComponentTypeRef.TheVariants as refs
use Rattle.wit_encode.proofs.world.WorldEncoderOf+TypeEncodingMaps.encode_function.Goals as goal

pub encode_func_type-requires : goal.encode_func_type-requires
encode_func_type-requires c =
    let next = c.requires.next in
    let can = can-encode c.args.resolve.now c.requires.valid next.world c.args.self.now next.done next.shown (towards c.args.placed.direction) (entry_of c.args.placed) next.next c.args.func.now
    c.requires.item in
    λ _. ((refl, tt), rw next.shown.packages_ (can.types, (can.formed, next.shown.agree)))

pub returns : goal.returns
returns c =
    let r = c.args.resolve.now in let e₀ = c.args.self.now in let e₁ = c.encode_func_type.new.enc in let canonical = c.args.placed.canonical_names in let key = c.args.placed.key.now in
    let it = c.args.placed.item.now in let f = c.args.func.now in let direction = towards c.args.placed.direction in let k = c.in_ok-index.index in
    let leaves = c.encode_func_type.ensures.leaves in let index = c.in_ok-index.ensures in let after = c.declare.new.outer in let next = c.requires.next in
    record {
      ok = on-each c.declare.result (λ made w done h next.
          let is = c.requires.item in
          let name = c.in_ok-name.ensures.ok ∙ ap (λ (i : WorldItem). name_of_item r canonical (key, i)) is in
          subst (λ (i : WorldItem). HasShown r w (record e₁ { outer = after }) (with_entry direction done (key, i))) (sym is)
          (function-encoded r c.requires.valid w e₀ e₁ done h direction canonical key f k after (subst (λ (i : WorldItem). IsNext r w direction done (key, i)) is next) leaves index.learns.only
          index.counts.2.shows index.ok (made ∙ ap (λ n. declared_after e₁.outer (declared_towards direction n (refs.Func k))) name))) c.declare.ensures.ok;
      once = on-each c.declare.result (λ made es h. function-defined r e₀ e₁ es (world_encoder_view e₀).scope refl key it f c.requires.item index.counts.0 k direction _ after h
          next.shown.agree.once index.counts.1 index.counts.2 index.learns (ap (λ (s : Scope). s.others.declared) leaves.scope_stays) made (record {
            packages_ = next.shown.packages_;
            packages_stay = ap (λ (s : Scope). s.packages) leaves.scope_stays;
            keeps = λ ns. leaves.grows.own_ (Told.numbers (zero ∷ ns));
            imports = c.encode_func_type.ensures.imports;
          })) c.declare.ensures.ok;
      few = on-each c.declare.result (λ made es h. function-few r e₀.resolve.now e₁.resolve.now e₀ e₁ es key it f direction _ (refs.Func k) after c.requires.item next.shown.packages_
          (ap (λ (s : Scope). s.packages) leaves.scope_stays ∙ next.shown.packages_) (ap (λ (s : Scope). s.others.listed) leaves.scope_stays) h (one-key index.counts.2) index.held made)
          c.declare.ensures.ok;
      written =
          let whole = function-item r canonical key it f c.requires.item in
          let types : AddsLearnt r (signature_extent (signature_of r f)) e₀.maps e₁.maps e₀.outer e₁.outer = record { few = index.written.extent } in
          on-each c.declare.result (λ made. learnt-most (omega (arith, whole, ap name_extent c.in_ok-name.ensures.ok))
          (learnt-more _ e₁.outer after _ types made (declared-few direction _ (refs.Func k)))) c.declare.ensures.ok;
      size = λ refused w done shown next d h. function-name-lacks r e₀.resolve.now e₁.resolve.now w e₀ e₁ done direction canonical key it f _ k c.requires.item next d h
          (ap (λ (s : Scope). s.others.listed) leaves.scope_stays) leaves.agree.once shown.packages_ (ap (λ (s : Scope). s.packages) leaves.scope_stays ∙ shown.packages_) (one-key index.counts.2)
          index.learns index.held c.in_ok-name.ensures.ok (c.declare.ensures.size refused);
      names = on-each c.declare.result (λ made. function-names r e₀.resolve.now canonical (entry_of c.args.placed) f e₀.outer e₁.outer after direction _ k c.requires.item leaves.grows.around_ made)
          c.declare.ensures.ok;
      places = on-each c.declare.result (λ made h.
          let sound = ap (λ (s : Scope). s.is_sound) leaves.scope_stays ∙ ap (λ (q : Resolve). is_sound_outside q e₀.world (world_around e₀)) next.shown.packages_ ∙ next.shown.sound in
          subst (λ (z : Declarations). are_beside 0 z ≡ true) (sym made) (function-beside e₀.outer e₁.outer k _ (leaves.grows.own_ (Told.declared e₀.outer) (grows-none e₀.outer))
          (elim index.last [ inl e ↦ inl e | inr n ↦ inr (n.one_more, outer-slots-counted e₁.resolve.now e₁.world (world_around e₁) sound ∙ n.last) ]) (towards-of direction _ k)
          (towards-function direction _ (refs.Func k)) h)) c.declare.ensures.ok;
      refuses = search rules;
    }

pub returns-in_err-index-clause-size : goal.returns-in_err-index-clause-size
returns-in_err-index-clause-size c = λ h.
    let refused : ◌≡◌ {A = Result ℕ Error} c.encode_func_type.result (Err errors.Size) = search rules in
    λ w done shown next d few. function-lacks c.args.resolve.now c.args.self.now.resolve.now c.encode_func_type.new.enc.resolve.now w c.args.self.now c.encode_func_type.new.enc done
    (towards c.args.placed.direction) c.args.placed.key.now c.args.placed.item.now c.args.func.now c.requires.item next d few
    (ap (λ (s : Scope). s.others.listed) c.encode_func_type.ensures.leaves.scope_stays) shown.agree.once shown.packages_
    (ap (λ (s : Scope). s.packages) c.encode_func_type.ensures.leaves.scope_stays ∙ shown.packages_) (c.encode_func_type.ensures.size refused).room
