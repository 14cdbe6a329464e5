use Rattle.std.proofs.Common.{refl, sym, ◌∙◌, subst}
use Rattle.encode_types.specs.{Codes.lists_of, Maps.LacksList, Leaves.Leaves}
use Rattle.encode_types.proofs.{Learning.kind-learnt, Defining.leaves-kept, Defining.counts-kind, Defining.leaves-trans, Writing.written-on}
use Rattle.encode_kinds.proofs.define.define_new_kind.{Given.Over, Goals.In_ok-index}
use Rattle.encode_types.specs.Counts.{a_type}
use Rattle.encode_types.proofs.Stopping.{part-same, part-beside, same-when}
use Rattle.base_lemmas.proofs.Options.{at_err}
use Rattle.encode_kinds.proofs.define.define_new_kind.Goals as goal

kept : (g : Over) (c : In_ok-index g) → Leaves c.args.resolve.now (g.E.ValtypeEncoder.view c.args.enc.now) (g.E.ValtypeEncoder.view c.define_shape.new.enc)
kept g c = leaves-kept c.requires.agree c.define_shape.ensures.grows c.define_shape.ensures.scope_stays c.define_shape.ensures.maps_stay

pub define_shape-requires : goal.define_shape-requires
define_shape-requires g c = λ _. ((refl, tt), (rw c.shape_of.ensures c.requires.ready, (rw c.shape_of.ensures c.requires.formed, c.requires.agree)))

pub remember_kind-requires : goal.remember_kind-requires
remember_kind-requires g c = λ _. (
  (refl, tt),
  (
    record { kind = c.args.kind.now; unnamed = c.requires.unnamed; is = c.requires.list; stands = (rw c.shape_of.ensures at c.in_ok-index.ensures.ok) },
    (
      rw c.define_shape.ensures.maps_stay (subst (LacksList (lists_of (g.E.ValtypeEncoder.view c.args.enc.now).maps.def_to_index)) (sym c.requires.list) c.requires.lacks),
      (leaves-kept {v = g.E.ValtypeEncoder.view c.args.enc.now} {v' = g.E.ValtypeEncoder.view c.define_shape.new.enc} c.requires.agree c.define_shape.ensures.grows c.define_shape.ensures.scope_stays
          c.define_shape.ensures.maps_stay).agree,
    ),
  ),
)

pub returns-clause-counts : goal.returns-clause-counts
returns-clause-counts g c = counts-kind _ _ _ _ _ _ c.args.list.0.items c.in_ok-index.index (rw c.define_shape.ensures.maps_stay at c.in_ok-remember_kind.ensures.ok)
    (c.remember_kind.ensures.counts ∙ c.in_ok-index.ensures.counts)

pub returns-clause-kinds : goal.returns-clause-kinds
returns-clause-kinds g c = kind-learnt _ _ _ _ c.args.list.0.items c.in_ok-index.index c.define_shape.ensures.maps_stay c.requires.unnamed c.requires.list c.in_ok-remember_kind.ensures.ok

pub returns-clause-leaves : goal.returns-clause-leaves
returns-clause-leaves g c = leaves-trans (kept g (goal.at.returns-clause-leaves g c).In_ok-index) c.remember_kind.ensures.leaves

pub returns-in_err-remember_kind-clause-leaves : goal.returns-in_err-remember_kind-clause-leaves
returns-in_err-remember_kind-clause-leaves g c = leaves-trans (kept g (goal.at.returns-in_err-remember_kind-clause-leaves g c).In_ok-index) c.remember_kind.ensures.leaves

pub returns-clause-written : goal.returns-clause-written
returns-clause-written g c = written-on (rw c.shape_of.ensures at c.in_ok-index.ensures.written) c.remember_kind.ensures.written

pub returns-in_err-index-clause-stopped : goal.returns-in_err-index-clause-stopped
returns-in_err-index-clause-stopped g c = at_err _ (part-same _ _ _ _ _ _ (same-when c.define_shape.ensures.maps_stay) c.in_err-index.ensures.err)

pub returns-in_err-remember_kind-clause-stopped : goal.returns-in_err-remember_kind-clause-stopped
returns-in_err-remember_kind-clause-stopped g c = at_err _ (part-beside _ _ _ _ _ _ (rw c.define_shape.ensures.maps_stay at c.in_err-remember_kind.ensures.err)
    (a_type c.in_ok-index.index (c.remember_kind.ensures.counts ∙ c.in_ok-index.ensures.counts)))
