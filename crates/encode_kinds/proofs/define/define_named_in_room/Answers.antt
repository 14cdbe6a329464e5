use Rattle.comp_bytes.specs.RawOf.{raw_name}
use Rattle.std.proofs.Common.{◌≡◌, ◌∙◌, refl, sym, subst, false, Some, inr, arith, rules}
use Rattle.encode_types.specs.declared.maps.TypeEncodingMaps.{TypeEncodingMaps}
use Rattle.encode_types.specs.{Maps.LearnsNumber, Scope.Scope, Counts.Definitions, Counts.ExportsOne, Counts.IsTarget, Kinds.has_definition, Leaves.Leaves}
use Rattle.encode_types.proofs.{Owning.another-name, Agree.on_ok, Agree.learnt-one, Defining.counts-named, Defining.leaves-kept, Defining.leaves-beside, Defining.leaves-trans}
use Rattle.encode_types.proofs.Writing.{written-more, written-on}
use Rattle.encode_kinds.proofs.{define.define_named_in_room.Given.Over, define.define_named_in_room.Goals.In_ok-index, define.define_named_in_room.Goals.In_ok-slot}
use Rattle.encode_types.proofs.Stopping.{never-err, one-or-none, part-beside, part-same, same-when}
use Rattle.base_lemmas.proofs.Options.{at_err}
use Rattle.encode_kinds.proofs.define.define_named_in_room.Goals as goal

kept : (g : Over) (c : In_ok-index g) → Leaves c.args.resolve.now (g.E.ValtypeEncoder.view c.args.enc.now) (g.E.ValtypeEncoder.view c.define_kind.new.enc)
kept g c = leaves-kept c.requires.agree c.define_kind.ensures.grows c.define_kind.ensures.scope_stays c.define_kind.ensures.maps_stay

pub returns-clause-ok : goal.returns-clause-ok
returns-clause-ok g c = on_ok c.remember_id.result _ _ (λ l. learnt-one _ _ _ c.args.id _ refl (rw (c.export.ensures.maps_stay, c.define_kind.ensures.maps_stay) at l)) c.remember_id.ensures.ok

target : (g : Over) (c : In_ok-slot g) → has_definition c.args.def.now.kind ≡ false → IsTarget c.args.resolve.now (g.E.ValtypeEncoder.view c.args.enc.now).maps c.in_ok-index.index
target g c e =
    let other = another-name c.args.def.now.kind c.requires.kind e in
    record { number = c.args.id.0; def = c.args.def.now; target = other.0; there = c.requires.there; alias = other.1; index = c.in_ok-index.ensures.known other.0 other.1 }

pub returns-clause-counts : goal.returns-clause-counts
returns-clause-counts g c = on_ok c.remember_id.result _ _ (λ l. counts-named c.args.resolve.now (g.E.ValtypeEncoder.view c.args.enc.now).scope (g.E.ValtypeEncoder.view c.args.enc.now).maps _
    (g.E.ValtypeEncoder.view c.args.enc.now).definitions (g.E.ValtypeEncoder.view c.define_kind.new.enc).definitions _ c.args.id c.in_ok-slot.slot c.in_ok-index.index
    (has_definition c.args.def.now.kind) (raw_name c.args.name) (subst (λ (z : TypeEncodingMaps). LearnsNumber z (g.E.ValtypeEncoder.view c.remember_id.new.enc).maps c.args.id c.in_ok-slot.slot)
    (c.export.ensures.maps_stay ∙ c.define_kind.ensures.maps_stay) l) c.requires.shown c.requires.by_name c.in_ok-index.ensures.counts
    (subst (λ (z : Definitions). ExportsOne (g.E.ValtypeEncoder.view c.args.enc.now).scope (g.E.ValtypeEncoder.view c.define_kind.new.enc).definitions z (Some c.in_ok-index.index)
    (raw_name c.args.name)) (sym c.remember_id.ensures.counts) (subst (λ (z : Scope). ExportsOne z (g.E.ValtypeEncoder.view c.define_kind.new.enc).definitions
    (g.E.ValtypeEncoder.view c.export.new.enc).definitions (Some c.in_ok-index.index) (raw_name c.args.name)) c.define_kind.ensures.scope_stays c.in_ok-slot.ensures.counts))
    (target g (goal.at.returns-clause-counts g c).In_ok-slot)) c.remember_id.ensures.ok

pub returns-clause-kinds : goal.returns-clause-kinds
returns-clause-kinds g c = on_ok c.remember_id.result _ _ (λ l. (rw (c.export.ensures.maps_stay, c.define_kind.ensures.maps_stay) at l).rest.kinds) c.remember_id.ensures.ok

pub returns-clause-leaves : goal.returns-clause-leaves
returns-clause-leaves g c = leaves-trans
    (leaves-beside (kept g (goal.at.returns-clause-leaves g c).In_ok-index) c.export.ensures.grows c.export.ensures.scope_stays c.export.ensures.maps_stay) c.remember_id.ensures.leaves

pub returns-in_err-slot-clause-leaves : goal.returns-in_err-slot-clause-leaves
returns-in_err-slot-clause-leaves g c =
    leaves-beside (kept g (goal.at.returns-in_err-slot-clause-leaves g c).In_ok-index) c.export.ensures.grows c.export.ensures.scope_stays c.export.ensures.maps_stay

pub returns-clause-written : goal.returns-clause-written
returns-clause-written g c = on_ok c.remember_id.result _ _ (λ l. written-on (written-more c.in_ok-index.ensures.written c.in_ok-slot.ensures.written) c.remember_id.ensures.written)
    c.remember_id.ensures.ok

pub returns-in_err-slot-clause-size : goal.returns-in_err-slot-clause-size
returns-in_err-slot-clause-size g c = λ h.
    let refused = c.export.ensures.size (search rules) in
    let held = refused.held in
    let before = c.define_kind.ensures.held in
    inr (record { lacks = refused.lacks; held = omega (arith, held, before) })

pub returns-in_err-index-clause-stopped : goal.returns-in_err-index-clause-stopped
returns-in_err-index-clause-stopped g c = at_err _ (part-same _ _ _ _ _ _ (same-when c.define_kind.ensures.maps_stay) c.in_err-index.ensures.err)

pub returns-in_err-slot-clause-stopped : goal.returns-in_err-slot-clause-stopped
returns-in_err-slot-clause-stopped g c = at_err _ (part-beside _ _ _ _ _ _ (same-when (c.export.ensures.maps_stay ∙ c.define_kind.ensures.maps_stay))
    (one-or-none (has_definition c.args.def.now.kind) c.in_ok-index.index _ _ (c.in_err-slot.ensures.err ∙ c.in_ok-index.ensures.counts)))

pub returns-clause-stopped : goal.returns-clause-stopped
returns-clause-stopped g c = never-err c.remember_id.result _ (c.remember_id.ensures.succeeds (rw (c.export.ensures.maps_stay, c.define_kind.ensures.maps_stay) c.requires.room))
