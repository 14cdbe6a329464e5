use Rattle.comp_bytes.specs.RawOf.{raw_name}
use Rattle.std.proofs.Common.{refl, ◌∙◌, rules, arith}
use Rattle.encode_types.proofs.{Agree.on_ok, Defining.counts-trans, Defining.leaves-trans, Learning.ready-grow}
use Rattle.std.proofs.lemmas.Result.{on_err_weaker}
use Rattle.encode_types.proofs.Stopping.{counts-same, learnt-behind, named-behind, part-same, part-then, unknown-same, written-behind}
use Rattle.base_lemmas.proofs.Options.{at_err}
use Rattle.encode_kinds.proofs.define.define_named.Goals as goal

pub define_named_in_room-requires : goal.define_named_in_room-requires
define_named_in_room-requires g c = λ _. (
  (refl, tt),
  rw c.reserve_id.ensures.leaves.scope_stays (
    c.requires.kind,
    (
      c.requires.there,
      (
        c.requires.name,
        (
          c.requires.declared,
          (
            c.requires.shown,
            (
              c.requires.same_tree,
              (
                c.requires.by_name,
                (
                  ready-grow _ _ _ c.reserve_id.ensures.leaves.maps_grow c.requires.ready,
                  (unknown-same c.reserve_id.ensures.same c.requires.fresh, (c.requires.formed, (c.reserve_id.ensures.leaves.agree, c.in_ok-reserve_id.ensures.ok))),
                ),
              ),
            ),
          ),
        ),
      ),
    ),
  ),
)

pub returns-clause-ok : goal.returns-clause-ok
returns-clause-ok g c = on_ok c.define_named_in_room.result _ _ (λ l. learnt-behind c.reserve_id.ensures.same l) c.define_named_in_room.ensures.ok

pub returns-clause-leaves : goal.returns-clause-leaves
returns-clause-leaves g c = leaves-trans c.reserve_id.ensures.leaves c.define_named_in_room.ensures.leaves

pub returns-clause-around_stays : goal.returns-clause-around_stays
returns-clause-around_stays g c = c.define_named_in_room.ensures.around_stays ∙ c.reserve_id.ensures.around_stays

pub returns-clause-imports_stay : goal.returns-clause-imports_stay
returns-clause-imports_stay g c = c.define_named_in_room.ensures.imports_stay ∙ c.reserve_id.ensures.imports_stay

pub returns-clause-counts : goal.returns-clause-counts
returns-clause-counts g c = on_ok c.define_named_in_room.result _ _
    (λ k. counts-trans c.reserve_id.ensures.leaves.scope_stays (counts-same _ _ _ _ _ _ c.reserve_id.ensures.same c.reserve_id.ensures.counts) k) c.define_named_in_room.ensures.counts

pub returns-clause-stopped : goal.returns-clause-stopped
returns-clause-stopped g c = on_err_weaker c.define_named_in_room.result
    (λ k. part-then c.reserve_id.ensures.leaves.scope_stays (counts-same _ _ _ _ _ _ c.reserve_id.ensures.same c.reserve_id.ensures.counts) k) c.define_named_in_room.ensures.stopped

pub returns-clause-kinds : goal.returns-clause-kinds
returns-clause-kinds g c = on_ok c.define_named_in_room.result _ _ (λ k. k ∙ c.reserve_id.ensures.same.kinds) c.define_named_in_room.ensures.kinds

pub returns-clause-held : goal.returns-clause-held
returns-clause-held g c = (let x = c.define_named_in_room.ensures.held in let e = c.reserve_id.ensures.held in omega (arith, x, e))

pub returns-clause-written : goal.returns-clause-written
returns-clause-written g c = on_ok c.define_named_in_room.result _ _ (λ w. written-behind c.reserve_id.ensures.written w) c.define_named_in_room.ensures.written

pub returns-clause-size : goal.returns-clause-size
returns-clause-size g c = λ h. named-behind c.args.resolve.now c.args.def.now (raw_name c.args.name) (g.E.ValtypeEncoder.view c.args.enc.now) (g.E.ValtypeEncoder.view c.reserve_id.new.enc)
    (g.E.ValtypeEncoder.view c.define_named_in_room.new.enc) c.reserve_id.ensures.held (c.define_named_in_room.ensures.size h)

-- ---- where there is no memory for it in the maps

pub returns-in_err-reserve_id-clause-stopped : goal.returns-in_err-reserve_id-clause-stopped
returns-in_err-reserve_id-clause-stopped g c = at_err _ (part-same _ _ _ _ _ _ c.reserve_id.ensures.same c.reserve_id.ensures.counts)

pub returns-in_err-reserve_id-clause-held : goal.returns-in_err-reserve_id-clause-held
returns-in_err-reserve_id-clause-held g c = (let e = c.reserve_id.ensures.held in omega (arith, e))

pub returns-in_err-reserve_id-clause-size : goal.returns-in_err-reserve_id-clause-size
returns-in_err-reserve_id-clause-size g c = λ h. absurd (c.reserve_id.ensures.size (search rules))
