use Rattle.std.proofs.Common.{subst}
use Rattle.witc_texts.specs.Worlds.{ComparesBytes}
use Rattle.witc_ffi.specs.Answers.{IsCompatible, LacksWorld, RefusesWorlds, no_next, no_prev, no_such_world, world_why}
use Rattle.witc_ffi.proofs.OutcomeLaws.{of-bad, of-done, of-refused}
use Rattle.witc_ffi.proofs.calls.compared_names.Goals as goal

pub returns-in-Ok-Compatible : goal.returns-in-Ok-Compatible
returns-in-Ok-Compatible c =
    let bytes = c.args.bytes.now in
    let prev = c.args.prev.now in
    let next = c.args.next.now in
    of-done (IsCompatible bytes prev next) (RefusesWorlds bytes prev next) (LacksWorld bytes prev next) c.new.result.items c.done.result
    (record { none = c.new.ensures.items; texts = c.requires; compares = subst (ComparesBytes bytes prev next) c.in-Ok-Compatible.field-0-is c.in-Ok-Compatible.ensures.compared }) c.done.ensures

pub returns-in-Ok-NoPrev : goal.returns-in-Ok-NoPrev
returns-in-Ok-NoPrev c =
    let bytes = c.args.bytes.now in
    let prev = c.args.prev.now in
    let next = c.args.next.now in
    of-bad (IsCompatible bytes prev next) (RefusesWorlds bytes prev next) (LacksWorld bytes prev next) (no_such_world prev) (world_why prev) c.no_world.result
    (no_prev c.requires (subst (ComparesBytes bytes prev next) c.in-Ok-NoPrev.field-0-is c.in-Ok-NoPrev.ensures.compared)) c.no_world.ensures

pub returns-in-Ok-NoNew : goal.returns-in-Ok-NoNew
returns-in-Ok-NoNew c =
    let bytes = c.args.bytes.now in
    let prev = c.args.prev.now in
    let next = c.args.next.now in
    of-bad (IsCompatible bytes prev next) (RefusesWorlds bytes prev next) (LacksWorld bytes prev next) (no_such_world next) (world_why next) c.no_world-in-Ok-NoNew.result
    (no_next c.requires (subst (ComparesBytes bytes prev next) c.in-Ok-NoNew.field-0-is c.in-Ok-NoNew.ensures.compared)) c.no_world-in-Ok-NoNew.ensures

pub returns-in-Err : goal.returns-in-Err
returns-in-Err c =
    let bytes = c.args.bytes.now in
    let prev = c.args.prev.now in
    let next = c.args.next.now in
    of-refused (IsCompatible bytes prev next) (RefusesWorlds bytes prev next) (LacksWorld bytes prev next) c.in-Err.error c.refusal.result
    (record { texts = c.requires; refuses = c.in-Err.ensures.refused }) c.refusal.ensures
