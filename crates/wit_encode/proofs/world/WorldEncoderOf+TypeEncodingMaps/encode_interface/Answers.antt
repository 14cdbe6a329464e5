use Rattle.std.proofs.Common.{◌≡◌, ◌∙◌, ◌<◌, ◌⊎◌, true, ap, sym, subst, length, [], ◌∷◌, rules, arith}
use Rattle.std.proofs.lemmas.{Option.slice_get_within, Result.on_ok_weaker as on-each}
use Rattle.wit_model.{specs.declared.model.Resolve.Resolve, specs.Lookup.interface_at, specs.Weight.whole_instance_weight}
use Rattle.comp_bytes.specs.Raw.{Declarations}
use Rattle.wit_encode.specs.{Places.are_beside, Encoders.InterfaceLacksRoom, Encoders.declared_after, WorldItems.entry_of, WorldItems.towards, Instance.EncodesInterface, Instance.LacksInstanceRoom, Instance.whole_interface, Worlds.WorldEncoder, Worlds.world_around, WrittenNames.NamesMore, WrittenBytes.AddsBytes, WrittenBytes.AddsLearnt, WrittenBytes.items_extent, WrittenBytes.whole_extent}
use Rattle.wit_encode.proofs.{Places.part-beside, Places.towards-instance, WorldHolding.towards-function, WrittenNames.interface-names, Refusing.never-size}
use Rattle.wit_encode.proofs.WorldLists.{instance-lacks, interface-defined, interface-few, placed-lacks}
use Rattle.wit_encode.proofs.WorldInterfaces.{interface-encoded, interface-there, room, used-stand}
use Rattle.wit_encode.proofs.BytesWritten.{adds-described, interface-item, learnt-beside, learnt-most}
use Rattle.wit_encode.proofs.WorldFunctions.{declared-few}
use Rattle.encode_names.specs.{WorldSteps.declared_towards, WorldNames.name_of_item}
use Rattle.encode_types.specs.Known.{UsedStand, standing_instances}
use Rattle.comp_bytes.specs.declared.forms.ComponentTypeRef.TheVariants as refs
use Rattle.wit_encode.proofs.world.WorldEncoderOf+TypeEncodingMaps.encode_interface.Goals as goal

pub define_instance-requires : goal.define_instance-requires
define_instance-requires c =
    let next = c.requires.next in
    record {
      valid = search rules;
      in_range =
          let there = interface-there c.args.resolve.now c.requires.valid next.world c.args.self.now next.done next.shown (towards c.args.placed.direction) (entry_of c.args.placed) next.next
          c.args.interface c.requires.item in
          subst (λ (q : Resolve). c.args.interface.0 < length q.interfaces.items) (sym next.shown.packages_) (slice_get_within c.args.resolve.now.interfaces.items c.args.interface.0 there.0 there.1);
      around = subst (λ (q : Resolve). UsedStand q (standing_instances q (world_around c.args.self.now)) c.args.interface.0) (sym next.shown.packages_)
          (used-stand c.args.resolve.now c.requires.valid next.world c.args.self.now next.done next.shown (towards c.args.placed.direction) (entry_of c.args.placed) next.next c.args.interface
          c.requires.item);
    }

pub list_instance-requires : goal.list_instance-requires
list_instance-requires c =
    let next = c.requires.next in
    room c.args.resolve.now c.requires.valid next.world c.args.self.now c.define_instance.new.self next.done next.shown (towards c.args.placed.direction) c.args.placed.canonical_names
    (entry_of c.args.placed) next.next c.args.interface
    c.requires.item c.in_ok-slot.slot c.define_instance.ensures.rest c.in_ok-slot.ensures.ok c.declare.new.outer
    (c.in_ok-declare.ensures.ok ∙ ap (λ n. declared_after c.define_instance.new.self.outer (declared_towards (towards c.args.placed.direction) n (refs.Instance c.in_ok-slot.slot)))
    c.in_ok-name.ensures.ok)

pub returns : goal.returns
returns c =
    let e₀ = c.args.self.now in let e₁ = c.define_instance.new.self in let i = c.args.interface in let k = c.in_ok-slot.slot in let outer = c.declare.new.outer in
    let r = c.args.resolve.now in
    let canonical = c.args.placed.canonical_names in
    let entry = entry_of c.args.placed in
    let next = c.requires.next in
    let direction = towards c.args.placed.direction in
    let there = interface-there r c.requires.valid next.world e₀ next.done next.shown direction entry next.next i c.requires.item in
    let part = c.in_ok-slot.ensures.ok there.0 (ap (λ (q : Resolve). interface_at q i.0) next.shown.packages_ ∙ there.1) in
    let encodes = subst (λ (q : Resolve). EncodesInterface q (world_around e₀) (world_around e₁) i there.0 k) next.shown.packages_ part in
    record {
      ok = on-each c.list_instance.result (λ lists w done h n. interface-encoded r c.requires.valid w e₀ e₁ done h direction canonical entry n i c.requires.item k c.define_instance.ensures.rest
          c.in_ok-slot.ensures.ok outer (c.in_ok-declare.ensures.ok ∙ ap (λ n. declared_after e₁.outer (declared_towards direction n (refs.Instance k))) c.in_ok-name.ensures.ok)
          c.list_instance.new.self lists) c.list_instance.ensures.ok;
      once = on-each c.list_instance.result (λ lists es h. interface-defined r e₀ e₁ c.list_instance.new.self entry i there.0 k direction _ outer c.requires.item there.1 c.define_instance.ensures.rest
          encodes c.in_ok-declare.ensures.ok lists es h) c.list_instance.ensures.ok;
      few = on-each c.list_instance.result (λ lists es h. interface-few r e₀ e₁ c.list_instance.new.self entry i there.0 k direction _ outer c.requires.item there.1 c.define_instance.ensures.rest
          encodes c.in_ok-declare.ensures.ok lists es h) c.list_instance.ensures.ok;
      written = on-each c.list_instance.result (λ lists.
          let whole = interface-item r canonical c.args.placed.key.now c.args.placed.item.now i.0 c.requires.item in
          let one = subst (λ (q : Resolve). AddsBytes (whole_extent q i.0) e₀.outer e₁.outer) next.shown.packages_ c.in_ok-slot.ensures.written in
          let both = adds-described (whole_instance_weight r i.0) e₀.outer e₁.outer outer _ _ (name_of_item r canonical entry) one c.in_ok-declare.ensures.ok
          (declared-few direction _ (refs.Instance k)) c.in_ok-name.ensures.ok in
          subst (λ (z : WorldEncoder). AddsLearnt r (items_extent r canonical (entry ∷ [])) e₀.maps z.maps e₀.outer z.outer) (sym lists.rest)
          (subst (λ (z : WorldEncoder). AddsLearnt r (items_extent r canonical (entry ∷ [])) e₀.maps z.maps e₀.outer outer) (sym c.define_instance.ensures.rest)
          (learnt-most (omega (arith, whole)) (learnt-beside e₀.maps _ _ both)))) c.list_instance.ensures.ok;
      size = λ refused. never-size c.list_instance.result c.list_instance.ensures.memory refused;
      names = on-each c.list_instance.result (λ lists. subst (λ (z : WorldEncoder). NamesMore r canonical (entry ∷ []) e₀.outer z.outer) (sym lists.rest)
          (interface-names r e₀.resolve.now canonical entry i (world_around e₀) (world_around e₁) there.0 outer direction _ k c.requires.item part c.in_ok-declare.ensures.ok c.in_ok-name.ensures.ok))
          c.list_instance.ensures.ok;
      places = on-each c.list_instance.result (λ lists h. subst (λ (z : Declarations). are_beside 0 z ≡ true) (sym (ap (λ (z : WorldEncoder). z.outer) lists.rest ∙ c.in_ok-declare.ensures.ok))
          (part-beside e₀.resolve.now (world_around e₀) (world_around e₁) i there.0 _ _ k part.part _ (towards-instance direction _ k) (towards-function direction _ (refs.Instance k)) h))
          c.list_instance.ensures.ok;
      refuses = search rules;
    }

pub returns-in_err-slot-clause-size : goal.returns-in_err-slot-clause-size
returns-in_err-slot-clause-size c = λ h. λ w done shown next d few.
    let there = interface-there c.args.resolve.now c.requires.valid w c.args.self.now done shown (towards c.args.placed.direction) (entry_of c.args.placed) next c.args.interface c.requires.item in
    instance-lacks c.args.resolve.now w c.args.self.now done (towards c.args.placed.direction) (entry_of c.args.placed) next d few shown.agree.once c.args.interface c.requires.item there.0 there.1
    (subst (λ (q : Resolve). InterfaceLacksRoom q c.args.interface there.0 ⊎ LacksInstanceRoom q c.args.interface (whole_interface there.0) (world_around c.args.self.now)) shown.packages_
    (c.define_instance.ensures.size (search rules) there.0 (ap (λ (q : Resolve). interface_at q c.args.interface.0) shown.packages_ ∙ there.1)))

pub returns-in_err-declare-clause-size : goal.returns-in_err-declare-clause-size
returns-in_err-declare-clause-size c = λ h. λ w done shown next d few.
    let there = interface-there c.args.resolve.now c.requires.valid w c.args.self.now done shown (towards c.args.placed.direction) (entry_of c.args.placed) next c.args.interface c.requires.item in
    let encodes = subst (λ (q : Resolve). EncodesInterface q (world_around c.args.self.now) (world_around c.define_instance.new.self) c.args.interface there.0 c.in_ok-slot.slot) shown.packages_
    (c.in_ok-slot.ensures.ok there.0 (ap (λ (q : Resolve). interface_at q c.args.interface.0) shown.packages_ ∙ there.1)) in
    placed-lacks c.args.resolve.now w c.args.self.now done (towards c.args.placed.direction) (entry_of c.args.placed) next d few shown.agree.once c.args.interface c.requires.item
    c.args.placed.canonical_names _ c.in_ok-slot.slot (world_around c.define_instance.new.self) there.0 encodes c.in_ok-name.ensures.ok (c.declare.ensures.size (search rules))
