use Rattle.std.proofs.Common.{◌≡◌, ◌∙◌, sym, subst, refl, Some}
use Rattle.std.proofs.lemmas.Option.{slice_get_read, same_Some as some-same}
use Rattle.wit_model.specs.Lookup.{world_at}
use Rattle.wit_model.specs.declared.model.World.{World}
use Rattle.encode_names.specs.Clashes.{HasNoClash, RefusesNames}
use Rattle.wit_encode.proofs.WholeWorlds.{at-any, clash-fits, names-refused, room-refused, world-at}
use Rattle.wit_encode.proofs.world.encode_world.Goals as goal
use Rattle.wit_encode.proofs.world.encode_world.Goals.{After-index-def}

there : (c : After-index-def) (w : World) → world_at c.args.resolve.now c.args.world.0 ≡ Some w → c.index-def.result.now ≡ w
there c w is = some-same c.index-def.result.now w (sym (slice_get_read _ _ _ _ refl c.requires.in_range c.index-def.ensures) ∙ is)

pub returns-clause-clashes : goal.returns-clause-clashes
returns-clause-clashes c = λ canonical. at-any c.encode_entries.result
    (λ w is. subst (HasNoClash c.args.resolve.now) (there (goal.at.returns-clause-clashes c).After-index-def w is) (c.in_ok-refuse_clashes.ensures.ok canonical))

pub returns-clause-refuses : goal.returns-clause-refuses
returns-clause-refuses c = world-at c.args.resolve.now c.args.world.0 c.args.canonical_names c.encode_entries.result (λ w is. room-refused c.args.resolve.now w c.args.canonical_names
    (λ canonical. subst (HasNoClash c.args.resolve.now) (there (goal.at.returns-clause-refuses c).After-index-def w is) (c.in_ok-refuse_clashes.ensures.ok canonical)) c.encode_entries.result
    c.encode_entries.ensures.refuses)

pub returns-in_err-refuse_clashes-clause-refuses : goal.returns-in_err-refuse_clashes-clause-refuses
returns-in_err-refuse_clashes-clause-refuses c = world-at c.args.resolve.now c.args.world.0 c.args.canonical_names c.from_residual.result
    (λ w is. names-refused c.args.resolve.now w c.args.canonical_names c.in_err-refuse_clashes.field-0.0 c.from_residual.result
    (subst (λ (z : World). RefusesNames c.args.resolve.now z c.args.canonical_names c.in_err-refuse_clashes.field-0.0)
    (there (goal.at.returns-in_err-refuse_clashes-clause-refuses c).After-index-def w is) c.in_err-refuse_clashes.ensures.refuses) c.from_residual.ensures.1)

pub returns-in_err-refuse_clashes-clause-size : goal.returns-in_err-refuse_clashes-clause-size
returns-in_err-refuse_clashes-clause-size c = λ refused. clash-fits c.args.resolve.now c.index-def.result.now c.args.canonical_names c.in_err-refuse_clashes.field-0.0 c.from_residual.result
    c.in_err-refuse_clashes.ensures.refuses c.from_residual.ensures.1 refused
