use Rattle.std.proofs.{Common.rules, lemmas.Map.Iter.rest_more}
use Rattle.std.specs.Map.Iter.{deref_pair}
use Rattle.wit_model.specs.Lookup.{identity_of}
use Rattle.wit_encode.proofs.{Packages.all-worlds_apart, Packages.next-world, Packages.world-done, Packages.world-refused, PackageRoom.next-world_lacks}
use Rattle.wit_encode.proofs.package.add_worlds.Goals as goal

pub add_world-requires-clause-in_range : goal.add_world-requires-clause-in_range
add_world-requires-clause-in_range c =
    let next = rest_more deref_pair c.loop-name.name-iterator c.next.new.self c.next.result (c.in-Some.name, c.in-Some.world) c.in-Some.is c.next.ensures.steps in
    c.requires.in_range (c.in-Some.name.now, c.in-Some.world.now) (next-world c.args.resolve.now (identity_of c.args.package.now) c.args.canonical_names c.args.worlds.now.entries
    c.loop-name.name-iterator c.next.new.self c.args.builder.now c.loop-name.builder (c.in-Some.name.now, c.in-Some.world.now) c.loop-name.invariant next)

pub loop-name-preserved : goal.loop-name-preserved
loop-name-preserved c =
    let next = rest_more deref_pair c.loop-name.name-iterator c.next.new.self c.next.result (c.in-Some.name, c.in-Some.world) c.in-Some.is c.next.ensures.steps in
    world-done c.args.resolve.now (identity_of c.args.package.now) c.args.canonical_names c.args.worlds.now.entries c.loop-name.name-iterator c.next.new.self c.args.builder.now c.loop-name.builder
    c.add_world.new.builder (c.in-Some.name.now, c.in-Some.world.now) c.loop-name.invariant next c.in_ok-add_world.ensures.adds c.in_ok-add_world.ensures.differ

pub returns-in_err-add_world : goal.returns-in_err-add_world
returns-in_err-add_world c =
    let next = rest_more deref_pair c.loop-name.name-iterator c.next.new.self c.next.result (c.in-Some.name, c.in-Some.world) c.in-Some.is c.next.ensures.steps in
    record {
      adds = search rules;
      differ = search rules;
      size = λ h. next-world_lacks c.args.resolve.now (identity_of c.args.package.now) c.args.canonical_names c.args.worlds.now.entries c.loop-name.name-iterator c.next.new.self c.args.builder.now
          c.loop-name.builder (c.in-Some.name.now, c.in-Some.world.now) c.loop-name.invariant next (c.add_world.ensures.size (search rules));
      refuses = world-refused c.args.resolve.now (identity_of c.args.package.now) c.args.canonical_names c.args.worlds.now.entries c.loop-name.name-iterator c.next.new.self
          c.args.builder.now c.loop-name.builder
          (c.in-Some.name.now, c.in-Some.world.now) c.in_err-add_world.field-0.0 c.from_residual.result c.loop-name.invariant next c.in_err-add_world.ensures.refuses c.from_residual.ensures.1;
    }

pub returns-clause-differ : goal.returns-clause-differ
returns-clause-differ c = all-worlds_apart c.args.resolve.now (identity_of c.args.package.now) c.args.canonical_names c.args.worlds.now.entries c.loop-name.name-iterator c.args.builder.now
    c.loop-name.builder c.loop-name.invariant (search rules)
