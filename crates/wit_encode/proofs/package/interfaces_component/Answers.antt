use Rattle.std.specs.Map.Iter.{deref_pair}
use Rattle.std.proofs.{lemmas.Map.Iter.rest_more, Common.rules}
use Rattle.wit_encode.proofs.{Packages.next-done, Packages.next-refused, PackageRoom.next-lacks}
use Rattle.wit_encode.proofs.package.interfaces_component.Goals as goal

pub loop-name-preserved : goal.loop-name-preserved
loop-name-preserved c =
    let next = rest_more deref_pair c.loop-name.name-iterator c.next.new.self c.next.result (c.in-Some.name, c.in-Some.interface) c.in-Some.is c.next.ensures.steps in
    next-done c.args.resolve.now c.args.canonical_names c.args.interfaces.now.entries c.loop-name.name-iterator c.next.new.self c.loop-name.builder c.add_interface.new.builder
    (c.in-Some.name.now, c.in-Some.interface.now) c.loop-name.invariant next c.in_ok-add_interface.ensures.adds c.in_ok-add_interface.ensures.differ

pub returns-in_err-add_interface : goal.returns-in_err-add_interface
returns-in_err-add_interface c =
    let next = rest_more deref_pair c.loop-name.name-iterator c.next.new.self c.next.result (c.in-Some.name, c.in-Some.interface) c.in-Some.is c.next.ensures.steps in
    record {
      holds = search rules;
      differ = search rules;
      size = λ h. next-lacks c.args.resolve.now c.args.canonical_names c.args.interfaces.now.entries c.loop-name.name-iterator c.next.new.self c.loop-name.builder
          (c.in-Some.name.now, c.in-Some.interface.now) c.loop-name.invariant next (c.add_interface.ensures.size (search rules));
      refuses = next-refused c.args.resolve.now c.args.canonical_names c.args.interfaces.now.entries c.loop-name.name-iterator c.next.new.self c.loop-name.builder (
        c.in-Some.name.now,
        c.in-Some.interface.now,
      ) c.in_err-add_interface.field-0.0 c.from_residual.result c.loop-name.invariant next c.in_err-add_interface.ensures.refuses c.from_residual.ensures.1;
    }
