use Rattle.std.proofs.Common.{◌≡◌, refl, ap, subst, Some, List, slice_get, length, arith}
use Rattle.std.proofs.lemmas.Option.{slice_get_read}
use Rattle.text_names.specs.declared.sources.WorldSource.{WorldSource}
use Rattle.text_types.proofs.Growth.{grows_join}
use Rattle.wit_text.specs.MadeWorlds.{IsWorldMade}
use Rattle.text_types.specs.Kept.{defs_of}
use Rattle.wit_text.proofs.{WorldsGrow.all_carried, WorldsGrow.interfaces_join}
use Rattle.wit_text.proofs.WorldsSoFar.{all_worlds, worlds_more}
use Rattle.wit_text.proofs.read.worlds_of.Goals as goal

pub world_of-requires-clause-made : goal.world_of-requires-clause-made
world_of-requires-clause-made c =
    all_carried c.args.around.now.sources.now c.loop-number.invariant.1 c.loop-number.invariant.0.defs c.requires.made

pub returns-in_err-push-in-Ok-clause-grows : goal.returns-in_err-push-in-Ok-clause-grows
returns-in_err-push-in-Ok-clause-grows c = grows_join c.loop-number.invariant.0 c.in_ok-world_of-in-Ok.ensures.grows

pub loop-number-preserved : goal.loop-number-preserved
loop-number-preserved c =
    let there : slice_get c.args.around.now.sources.now.worlds.items c.loop-number.number ≡ Some c.source-item.result =
    subst (λ (xs : List WorldSource). slice_get xs c.loop-number.number ≡ Some c.source-item.result) c.deref-source-items.ensures.value
    (slice_get_read c.deref-source-items.result.now _ c.loop-number.number c.source-item.result refl c.loop-number-test.true c.source-item.is) in
    let is : IsWorldMade c.args.around.now.sources.now c.world_of.new.interfaces (defs_of c.world_of.new.types) c.source-item.result c.loop-number.number
    c.in_ok-world_of-in-Ok.field-0 =
    subst (λ n. IsWorldMade c.args.around.now.sources.now c.world_of.new.interfaces (defs_of c.world_of.new.types) c.source-item.result n
    c.in_ok-world_of-in-Ok.field-0) c.in-Ok.ensures.1 c.in_ok-world_of-in-Ok.ensures.world in (
      grows_join c.loop-number.invariant.0 c.in_ok-world_of-in-Ok.ensures.grows,
      interfaces_join c.loop-number.invariant.1 c.in_ok-world_of-in-Ok.ensures.made,
      worlds_more c.args.around.now.sources.now c.in_ok-world_of-in-Ok.ensures.made c.in_ok-world_of-in-Ok.ensures.grows.defs c.loop-number.worlds.items
          c.push.new.self.items c.loop-number.number c.source-item.result there c.in_ok-world_of-in-Ok.field-0 is c.in_ok-push-in-Ok.ensures.items
          c.loop-number.invariant.2,
    )

pub returns-clause-worlds : goal.returns-clause-worlds
returns-clause-worlds c =
    all_worlds c.args.around.now.sources.now c.loop-number.interfaces (defs_of c.loop-number.types) c.loop-number.worlds.items c.loop-number.number
    (omega (arith, ap length c.deref-source-items.ensures.value)) c.loop-number.invariant.2
