use Rattle.std.proofs.{Common.rules, Common.arith, lemmas.Option.slice_get_within}
use Rattle.base_lemmas.proofs.Options.{at_err, at_ok, if_ok}
use Rattle.encode_types.specs.Known.{as_before}
use Rattle.wit_encode.specs.{Instance.around_at, Worlds.world_around}
use Rattle.wit_encode.proofs.{Aliases.known-reached, WorldCalls.world-imports, WorldCalls.world-source, BytesWritten.reached-more, Refusing.alias-behind, Refusing.on-size}
use Rattle.wit_encode.proofs.WorldHolding.{reached-beside, reached-kept}
use Rattle.wit_encode.proofs.world.WorldEncoderOfTypeEncodingMapsValtypeEncoder.import_type.Goals as goal

pub reach-requires-clause-source : goal.reach-requires-clause-source
reach-requires-clause-source c = world-source c.args.self.now.resolve.now c.args.self.now.world c.args.self.now.instances (world_around c.args.self.now) c.args.self.now.maps c.args.interface.0
    c.args.id c.requires

pub reach-requires-clause-in_range : goal.reach-requires-clause-in_range
reach-requires-clause-in_range c = slice_get_within c.args.self.now.resolve.now.types.items c.args.id.0 c.requires.def c.requires.there

pub returns : goal.returns
returns c =
    let imports = world-imports c.args.self.now.resolve.now c.args.self.now.world c.args.self.now.instances (world_around c.args.self.now) c.args.self.now.maps c.args.interface.0 c.args.id c.requires
    (around_at c.reach.new.outer c.reach.new.foreign) c.reach.ensures.reaches in
    record {
      ok = if_ok _ _ imports.stands c.reach.result c.reach.ensures.slot;
      grows = imports.grows;
      reaches = as_before imports.around_stays;
      imports = record { each = λ n h. known-reached (world_around c.args.self.now) (around_at c.reach.new.outer c.reach.new.foreign) c.reach.ensures.reaches n h };
      scope_stays = imports.scope_stays;
      maps_stay = search rules;
      counts = at_ok c.reach.result imports.counted;
      err = at_err c.reach.result imports.counted;
      held = reached-beside c.reach.ensures.reaches;
      written = at_ok c.reach.result (λ def at. record { extent = omega (arith, reached-more c.reach.ensures.reaches def at) });
      size = λ h. record {
        lacks = alias-behind c.args.self.now.resolve.now c.reach.new.outer c.args.id.0 (c.reach.ensures.size h);
        held = reached-kept c.args.self.now.resolve.now (world_around c.args.self.now) (around_at c.reach.new.outer c.reach.new.foreign) (on-size c.reach.result _ c.reach.ensures.err h);
      };
      refuses = search rules;
    }
