use Rattle.std.proofs.Common.{subst}
use Rattle.wit_model.specs.declared.error.Error.TheVariants as errors
use Rattle.witc_alike.specs.Likeness.{ComparesTwo}
use Rattle.witc_ffi.specs.Answers.{AreAlike, LacksEither, RefusesAlike, differ, no_first, no_second, no_such_world, refused_alike, world_why}
use Rattle.witc_ffi.proofs.OutcomeLaws.{of-bad, of-done, of-refused}
use Rattle.witc_ffi.proofs.calls.likened_names.Goals as goal

pub returns-in-Ok-Same : goal.returns-in-Ok-Same
returns-in-Ok-Same c =
    let bytes = c.args.bytes.now in
    let name = c.args.name.now in
    let other = c.args.other.now in
    let other_name = c.args.other_name.now in
    of-done (AreAlike bytes name other other_name) (RefusesAlike bytes name other other_name) (LacksEither bytes name other other_name) c.new.result.items c.done.result
    (record { none = c.new.ensures.items; texts = c.requires; compares = subst (ComparesTwo bytes name other other_name) c.in-Ok-Same.field-0-is c.in-Ok-Same.ensures.compared }) c.done.ensures

pub returns-in-Ok-NoFirst : goal.returns-in-Ok-NoFirst
returns-in-Ok-NoFirst c =
    let bytes = c.args.bytes.now in
    let name = c.args.name.now in
    let other = c.args.other.now in
    let other_name = c.args.other_name.now in
    of-bad (AreAlike bytes name other other_name) (RefusesAlike bytes name other other_name) (LacksEither bytes name other other_name) (no_such_world name) (world_why name) c.no_world.result
    (no_first c.requires (subst (ComparesTwo bytes name other other_name) c.in-Ok-NoFirst.field-0-is c.in-Ok-NoFirst.ensures.compared)) c.no_world.ensures

pub returns-in-Ok-NoSecond : goal.returns-in-Ok-NoSecond
returns-in-Ok-NoSecond c =
    let bytes = c.args.bytes.now in
    let name = c.args.name.now in
    let other = c.args.other.now in
    let other_name = c.args.other_name.now in
    of-bad (AreAlike bytes name other other_name) (RefusesAlike bytes name other other_name) (LacksEither bytes name other other_name) (no_such_world other_name) (world_why other_name)
    c.no_world-in-Ok-NoSecond.result (no_second c.requires (subst (ComparesTwo bytes name other other_name) c.in-Ok-NoSecond.field-0-is c.in-Ok-NoSecond.ensures.compared))
    c.no_world-in-Ok-NoSecond.ensures

pub returns-in-Err : goal.returns-in-Err
returns-in-Err c =
    let bytes = c.args.bytes.now in
    let name = c.args.name.now in
    let other = c.args.other.now in
    let other_name = c.args.other_name.now in
    of-refused (AreAlike bytes name other other_name) (RefusesAlike bytes name other other_name) (LacksEither bytes name other other_name) c.in-Err.error c.refusal-in-Err.result
    (refused_alike c.in-Err.error c.requires c.in-Err.ensures.refused) c.refusal-in-Err.ensures

pub returns-in_ok-from_str-in-Ok-Other : goal.returns-in_ok-from_str-in-Ok-Other
returns-in_ok-from_str-in-Ok-Other c =
    let bytes = c.args.bytes.now in
    let name = c.args.name.now in
    let other = c.args.other.now in
    let other_name = c.args.other_name.now in
    let told = c.in_ok-from_str-in-Ok-Other.field-0 in
    of-refused (AreAlike bytes name other other_name) (RefusesAlike bytes name other other_name) (LacksEither bytes name other other_name) (errors.Differs told) c.refusal.result
    (differ told c.in_ok-from_str-in-Ok-Other.ensures.ok c.requires (subst (ComparesTwo bytes name other other_name) c.in-Ok-Other.field-0-is c.in-Ok-Other.ensures.compared)) c.refusal.ensures
