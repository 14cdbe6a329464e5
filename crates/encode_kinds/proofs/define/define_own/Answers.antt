use Rattle.std.proofs.Common.{refl, ◌≡◌, ◌∙◌, ap, sym, subst, inl, inr, Some, None, arith}
use Rattle.comp_bytes.specs.RawOf.{raw_name}
use Rattle.wit_model.specs.{Text.Text, Text.text_of, Tree.named, Types.number_tree, Meant.type_meaning}
use Rattle.encode_types.specs.{Kinds.has_definition, Scope.IsDeclared, Scope.exported_name, Counts.is_defined_by_name, Counts.own_name, Room.export_name, Room.unnamed_kind, Room.its_definition, Room.its_name, Extents.name_extent, Extents.own_name_extent}
use Rattle.encode_types.proofs.Rooms.{on-pair, lacks-number, counts-one, counts-named, named-unkind, none-new, none-has, own-kind, new-kind, holds-unnamed, holds-number}
use Rattle.encode_types.proofs.Learning.{learns-call-unnamed, learns-call-named}
use Rattle.encode_types.proofs.{Encoding.named-defined, Encoding.named-shown, Owning.exported-as, Owning.named-tree, Owning.declared-here, Owning.resource-here, Agree.on_ok, Writing.written-most, Writing.own-extent, Writing.name-extent, Writing.on-three}
use Rattle.encode_kinds.{proofs.define.define_own.Given.Over, proofs.define.define_own.Goals.In-Some, proofs.define.define_own.Goals.After-name_of-name}
use Rattle.base_lemmas.proofs.Options.{on-both}
use Rattle.encode_kinds.proofs.define.define_own.Goals as goal

exported : (g : Over) (c : After-name_of-name g) → raw_name c.name_of-name.result ≡ exported_name ((raw_name c.name_of-name.result).text, type_meaning c.args.resolve.now c.args.def.now)
exported g c = exported-as _ _ (type_meaning c.args.resolve.now c.args.def.now) refl c.name_of-name.ensures.implements c.name_of-name.ensures.version_suffix c.name_of-name.ensures.external_id

declared : (g : Over) (c : After-name_of-name g) → IsDeclared (g.E.ValtypeEncoder.view c.args.enc.now).scope ((raw_name c.name_of-name.result).text, type_meaning c.args.resolve.now c.args.def.now)
declared g c = declared-here c.args.resolve.now (g.E.ValtypeEncoder.view c.args.enc.now).scope c.args.id.0 c.args.def.now c.in-Some.label _ c.requires.fits c.requires.own c.in-Some.is
    c.name_of-name.ensures.text

the_tree : (g : Over) (c : After-name_of-name g) → number_tree c.args.resolve.now c.args.id.0 ≡ named (g.E.ValtypeEncoder.view c.args.enc.now).scope.place (raw_name c.name_of-name.result).text
the_tree g c = named-tree c.args.resolve.now _ c.args.id.0 c.args.def.now c.in-Some.label _ c.requires.same_tree c.in-Some.is (c.requires.fits.placed c.requires.own c.in-Some.label c.in-Some.is)
    c.name_of-name.ensures.text

by_name : (g : Over) (c : After-name_of-name g) → is_defined_by_name c.args.resolve.now (g.E.ValtypeEncoder.view c.args.enc.now).scope c.args.id.0 ≡ has_definition c.args.def.now.kind
by_name g c = named-defined c.args.resolve.now (g.E.ValtypeEncoder.view c.args.enc.now).scope c.args.id.0 c.args.def.now c.in-Some.label c.requires.there c.requires.own c.in-Some.is

shown : (g : Over) (c : After-name_of-name g) → own_name c.args.resolve.now (g.E.ValtypeEncoder.view c.args.enc.now).scope c.args.id.0 ≡ Some (raw_name c.name_of-name.result).text
shown g c = named-shown c.args.resolve.now (g.E.ValtypeEncoder.view c.args.enc.now).scope c.args.id.0 c.args.def.now c.in-Some.label c.requires.there c.requires.own c.in-Some.is ∙ ap Some
    (sym c.name_of-name.ensures.text)

pub define_resource-requires : goal.define_resource-requires
define_resource-requires g c = λ _. (
  (refl, tt),
  (let a = (goal.at.define_resource-requires g c).After-name_of-name in (
    resource-here c.args.resolve.now _ c.args.def.now _ c.in-Resource.is (declared g a) (exported g a),
    (shown g a, (the_tree g a, (by_name g a ∙ ap has_definition c.in-Resource.is, (c.requires.fresh, c.requires.agree)))),
  )),
)

pub define_named-requires : goal.define_named-requires
define_named-requires g c = λ _. (
  (refl, tt),
  (let a = (goal.at.define_named-requires g c).After-name_of-name in (
    c.in_default.not-Resource,
    (c.requires.there, (exported g a, (declared g a, (shown g a, (the_tree g a, (by_name g a, (c.requires.ready, (c.requires.fresh, (c.requires.fits.formed c.requires.own, c.requires.agree))))))))),
  )),
)

pub returns-in-None-clause-learns : goal.returns-in-None-clause-learns
returns-in-None-clause-learns g c = learns-call-unnamed c.define_unnamed.result c.args.resolve.now (g.E.ValtypeEncoder.view c.args.enc.now).scope (g.E.ValtypeEncoder.view c.args.enc.now).maps
    (g.E.ValtypeEncoder.view c.define_unnamed.new.enc).maps (g.E.ValtypeEncoder.view c.args.enc.now).definitions (g.E.ValtypeEncoder.view c.define_unnamed.new.enc).definitions c.args.id.0
    c.args.def.now c.requires.there c.define_unnamed.ensures.ok c.define_unnamed.ensures.leaves.maps_grow c.define_unnamed.ensures.counts c.define_unnamed.ensures.kinds c.requires.ready c.in-None.is

pub returns-in-Resource-clause-learns : goal.returns-in-Resource-clause-learns
returns-in-Resource-clause-learns g c = learns-call-named c.define_resource.result c.args.resolve.now (g.E.ValtypeEncoder.view c.args.enc.now).scope (g.E.ValtypeEncoder.view c.args.enc.now).maps
    (g.E.ValtypeEncoder.view c.define_resource.new.enc).maps
    (g.E.ValtypeEncoder.view c.args.enc.now).definitions (g.E.ValtypeEncoder.view c.define_resource.new.enc).definitions c.args.id.0 c.args.def.now c.requires.there
    c.define_resource.ensures.ok c.define_resource.ensures.leaves.maps_grow c.define_resource.ensures.counts c.define_resource.ensures.kinds c.requires.ready c.in-Some.label c.in-Some.is

pub returns-in_default-clause-learns : goal.returns-in_default-clause-learns
returns-in_default-clause-learns g c = learns-call-named c.define_named.result c.args.resolve.now (g.E.ValtypeEncoder.view c.args.enc.now).scope (g.E.ValtypeEncoder.view c.args.enc.now).maps
    (g.E.ValtypeEncoder.view c.define_named.new.enc).maps (g.E.ValtypeEncoder.view c.args.enc.now).definitions (g.E.ValtypeEncoder.view c.define_named.new.enc).definitions c.args.id.0 c.args.def.now
    c.requires.there c.define_named.ensures.ok c.define_named.ensures.leaves.maps_grow c.define_named.ensures.counts c.define_named.ensures.kinds c.requires.ready c.in-Some.label c.in-Some.is

its_own_name : (g : Over) (c : After-name_of-name g) → raw_name c.name_of-name.result ≡ exported_name (text_of c.in-Some.label, type_meaning c.args.resolve.now c.args.def.now)
its_own_name g c = exported g c ∙ ap (λ (t : Text). exported_name (t, type_meaning c.args.resolve.now c.args.def.now)) c.name_of-name.ensures.text

pub returns-in-None-clause-held : goal.returns-in-None-clause-held
returns-in-None-clause-held g c =
    let before = g.E.ValtypeEncoder.view c.args.enc.now in
    on-three c.define_unnamed.result _ _ _ _ (λ one counts both. holds-unnamed counts.shows.learnt c.args.id.0 counts.shows.numbers counts.keys.lists one.known c.requires.fresh
    (own-kind c.args.resolve.now before.scope.own_interface c.args.id.0 c.args.def.now c.requires.there c.in-None.is c.requires.own) (c.requires.fits.unnamed c.requires.own c.in-None.is)
    both.1.known both.0)
    c.define_unnamed.ensures.ok c.define_unnamed.ensures.counts (on-pair c.define_unnamed.result _ _ c.define_unnamed.ensures.held c.define_unnamed.ensures.kinds)

pub returns-in-None-clause-size : goal.returns-in-None-clause-size
returns-in-None-clause-size g c = λ h.
    let before = g.E.ValtypeEncoder.view c.args.enc.now in
    let after = g.E.ValtypeEncoder.view c.define_unnamed.new.enc in
    let refused = c.define_unnamed.ensures.size h in
    let held = refused.refuses.held in
    let one = counts-one c.args.resolve.now before.scope.own_interface c.args.id.0 in
    lacks-number c.args.resolve.now before.scope.own_interface c.args.id c.args.def.now before.maps before.held after.held after.lacks_room
    c.requires.there c.requires.fresh (new-kind _ _ _ (own-kind c.args.resolve.now before.scope.own_interface c.args.id.0 c.args.def.now c.requires.there c.in-None.is c.requires.own)
    (c.requires.fits.unnamed c.requires.own c.in-None.is) refused.new) (omega (arith, held, one)) (its_definition c.requires.own refused.refuses.lacks)

unkind : (g : Over) (c : In-Some g) → unnamed_kind c.args.resolve.now (g.E.ValtypeEncoder.view c.args.enc.now).scope.own_interface c.args.id.0 ≡ None
unkind g c = named-unkind c.args.resolve.now (g.E.ValtypeEncoder.view c.args.enc.now).scope.own_interface (g.E.ValtypeEncoder.view c.args.enc.now).maps c.args.id.0 c.args.def.now c.in-Some.label
    c.requires.there c.in-Some.is

pub returns-in-Resource-clause-held : goal.returns-in-Resource-clause-held
returns-in-Resource-clause-held g c =
    let before = g.E.ValtypeEncoder.view c.args.enc.now in
    let none = unkind g (goal.at.returns-in-Resource-clause-held g c).In-Some in
    let held = c.define_resource.ensures.held in
    let count = counts-one c.args.resolve.now before.scope.own_interface c.args.id.0 in
    on-both c.define_resource.result _ _ _ (λ one counts. holds-number counts.shows.learnt c.args.id.0 counts.shows.numbers counts.keys.lists one.known c.requires.fresh (none-new before.maps _ none)
    (none-has (g.E.ValtypeEncoder.view c.define_resource.new.enc).maps _ none) (omega (arith, held, count)))
    c.define_resource.ensures.ok c.define_resource.ensures.counts

pub returns-in_default-clause-held : goal.returns-in_default-clause-held
returns-in_default-clause-held g c =
    let before = g.E.ValtypeEncoder.view c.args.enc.now in
    let none = unkind g (goal.at.returns-in_default-clause-held g c).In-Some in
    let held = c.define_named.ensures.held in
    let count = counts-named c.args.resolve.now before.scope.own_interface c.args.id.0 (has_definition c.args.def.now.kind)
    (by_name g (goal.at.returns-in_default-clause-held g c).After-name_of-name) in
    on-both c.define_named.result _ _ _ (λ one counts. holds-number counts.shows.learnt c.args.id.0 counts.shows.numbers counts.keys.lists one.known c.requires.fresh (none-new before.maps _ none)
    (none-has (g.E.ValtypeEncoder.view c.define_named.new.enc).maps _ none) (omega (arith, held, count)))
    c.define_named.ensures.ok c.define_named.ensures.counts

pub returns-in-Resource-clause-size : goal.returns-in-Resource-clause-size
returns-in-Resource-clause-size g c = λ h.
    let before = g.E.ValtypeEncoder.view c.args.enc.now in
    let after = g.E.ValtypeEncoder.view c.define_resource.new.enc in
    let none = unkind g (goal.at.returns-in-Resource-clause-size g c).In-Some in
    let refused = c.define_resource.ensures.size h in
    let held = refused.held in
    let one = counts-one c.args.resolve.now before.scope.own_interface c.args.id.0 in
    lacks-number c.args.resolve.now before.scope.own_interface c.args.id c.args.def.now before.maps before.held after.held after.lacks_room
    c.requires.there c.requires.fresh (none-new _ _ none) (omega (arith, held, one))
    (its_name c.requires.own c.in-Some.label c.in-Some.is (subst after.lacks_room (ap export_name (its_own_name g (goal.at.returns-in-Resource-clause-size g c).After-name_of-name)) refused.lacks))

pub returns-in_default-clause-size : goal.returns-in_default-clause-size
returns-in_default-clause-size g c = λ h.
    let before = g.E.ValtypeEncoder.view c.args.enc.now in
    let after = g.E.ValtypeEncoder.view c.define_named.new.enc in
    let none = unkind g (goal.at.returns-in_default-clause-size g c).In-Some in
    let count = counts-named c.args.resolve.now before.scope.own_interface c.args.id.0 (has_definition c.args.def.now.kind)
    (by_name g (goal.at.returns-in_default-clause-size g c).After-name_of-name) in
    elim (c.define_named.ensures.size h) [
      | inl d ↦ (let held = d.held in lacks-number c.args.resolve.now before.scope.own_interface c.args.id c.args.def.now before.maps before.held after.held after.lacks_room
          c.requires.there c.requires.fresh (none-new _ _ none) (omega (arith, held, count)) (its_definition c.requires.own d.lacks))
      | inr n ↦ (let held = n.held in lacks-number c.args.resolve.now before.scope.own_interface c.args.id c.args.def.now before.maps before.held after.held after.lacks_room
          c.requires.there c.requires.fresh (none-new _ _ none) (omega (arith, held, count))
          (its_name c.requires.own c.in-Some.label c.in-Some.is (subst after.lacks_room (ap export_name (its_own_name g (goal.at.returns-in_default-clause-size g c).After-name_of-name)) n.lacks)))
    ]

takes : (g : Over) (c : After-name_of-name g) → own_name_extent c.args.resolve.now c.args.def.now ≡ name_extent (raw_name c.name_of-name.result)
takes g c = name-extent c.args.resolve.now c.args.def.now c.in-Some.label (raw_name c.name_of-name.result) c.in-Some.is (its_own_name g c)

pub returns-in-None-clause-written : goal.returns-in-None-clause-written
returns-in-None-clause-written g c =
    let all = own-extent c.args.resolve.now (g.E.ValtypeEncoder.view c.args.enc.now).scope.own_interface c.args.id.0 c.args.def.now c.requires.there c.requires.own in
    on_ok c.define_unnamed.result _ _ (λ w. written-most (omega (arith, all)) w) c.define_unnamed.ensures.written

pub returns-in-Resource-clause-written : goal.returns-in-Resource-clause-written
returns-in-Resource-clause-written g c =
    let all = own-extent c.args.resolve.now (g.E.ValtypeEncoder.view c.args.enc.now).scope.own_interface c.args.id.0 c.args.def.now c.requires.there c.requires.own in
    let name = takes g (goal.at.returns-in-Resource-clause-written g c).After-name_of-name in
    on_ok c.define_resource.result _ _ (λ w. written-most (omega (arith, all, name)) w) c.define_resource.ensures.written

pub returns-in_default-clause-written : goal.returns-in_default-clause-written
returns-in_default-clause-written g c =
    let all = own-extent c.args.resolve.now (g.E.ValtypeEncoder.view c.args.enc.now).scope.own_interface c.args.id.0 c.args.def.now c.requires.there c.requires.own in
    let name = takes g (goal.at.returns-in_default-clause-written g c).After-name_of-name in
    on_ok c.define_named.result _ _ (λ w. written-most (omega (arith, all, name)) w) c.define_named.ensures.written
