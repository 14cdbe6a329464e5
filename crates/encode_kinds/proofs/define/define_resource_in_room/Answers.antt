use Rattle.std.proofs.Common.{refl, sym, subst, None}
use Rattle.comp_bytes.specs.RawOf.{raw_name}
use Rattle.encode_types.specs.declared.maps.TypeEncodingMaps.{TypeEncodingMaps}
use Rattle.encode_types.specs.{Maps.LearnsNumber, Counts.Definitions, Counts.ExportsOne}
use Rattle.encode_types.proofs.{Agree.on_ok, Agree.learnt-one, Defining.counts-resource, Defining.leaves-before, Writing.written-on}
use Rattle.encode_types.proofs.Stopping.{never-err, part-same, same-when}
use Rattle.base_lemmas.proofs.Options.{at_err}
use Rattle.encode_kinds.proofs.define.define_resource_in_room.Goals as goal

pub returns-clause-ok : goal.returns-clause-ok
returns-clause-ok g c = on_ok c.remember_id.result _ _ (λ l. learnt-one _ _ _ c.args.id _ refl (rw c.export_resource.ensures.maps_stay at l)) c.remember_id.ensures.ok

pub returns-clause-counts : goal.returns-clause-counts
returns-clause-counts g c = on_ok c.remember_id.result _ _ (λ l. counts-resource c.args.resolve.now (g.E.ValtypeEncoder.view c.args.enc.now).scope (g.E.ValtypeEncoder.view c.args.enc.now).maps _
    (g.E.ValtypeEncoder.view c.args.enc.now).definitions _ c.args.id c.in_ok-index.index (raw_name c.args.name)
    (subst (λ (z : TypeEncodingMaps). LearnsNumber z (g.E.ValtypeEncoder.view c.remember_id.new.enc).maps c.args.id c.in_ok-index.index) c.export_resource.ensures.maps_stay l) c.requires.shown
    c.requires.no_definition (subst (λ (z : Definitions). ExportsOne (g.E.ValtypeEncoder.view c.args.enc.now).scope (g.E.ValtypeEncoder.view c.args.enc.now).definitions z None (raw_name c.args.name))
    (sym c.remember_id.ensures.counts) c.in_ok-index.ensures.counts)) c.remember_id.ensures.ok

pub returns-clause-kinds : goal.returns-clause-kinds
returns-clause-kinds g c = on_ok c.remember_id.result _ _ (λ l. (rw c.export_resource.ensures.maps_stay at l).rest.kinds) c.remember_id.ensures.ok

pub returns-clause-leaves : goal.returns-clause-leaves
returns-clause-leaves g c = leaves-before c.remember_id.ensures.leaves c.requires.agree c.export_resource.ensures.grows c.export_resource.ensures.scope_stays c.export_resource.ensures.maps_stay

pub returns-clause-written : goal.returns-clause-written
returns-clause-written g c = on_ok c.remember_id.result _ _ (λ l. written-on c.in_ok-index.ensures.written c.remember_id.ensures.written) c.remember_id.ensures.ok

pub returns-in_err-index-clause-stopped : goal.returns-in_err-index-clause-stopped
returns-in_err-index-clause-stopped g c = at_err _ (part-same _ _ _ _ _ _ (same-when c.export_resource.ensures.maps_stay) c.in_err-index.ensures.err)

pub returns-clause-stopped : goal.returns-clause-stopped
returns-clause-stopped g c = never-err c.remember_id.result _ (c.remember_id.ensures.succeeds (rw c.export_resource.ensures.maps_stay c.requires.room))
