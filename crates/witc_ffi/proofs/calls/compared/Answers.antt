use Rattle.std.specs.Str.{is_utf8}
use Rattle.std.proofs.lemmas.Bool.{and_left as first-bad}
use Rattle.witc_refusals.specs.Numbers.{plain_why}
use Rattle.witc_ffi.specs.Answers.{IsCompatible, LacksWorld, RefusesWorlds, no_names, not_utf8}
use Rattle.witc_ffi.proofs.OutcomeLaws.{are-texts, of-bad, second-bad}
use Rattle.witc_ffi.proofs.calls.compared.Goals as goal

pub returns-in_default : goal.returns-in_default
returns-in_default c =
    let bytes = c.args.bytes.now in
    let prev = c.args.prev.now in
    let next = c.args.next.now in
    of-bad (IsCompatible bytes prev next) (RefusesWorlds bytes prev next) (LacksWorld bytes prev next) not_utf8 (plain_why 18) c.bad.result
    (no_names (first-bad (is_utf8 prev) (is_utf8 next) c.in_default.ensures)) c.bad.ensures

pub returns-in_default-text_of : goal.returns-in_default-text_of
returns-in_default-text_of c =
    let bytes = c.args.bytes.now in
    let prev = c.args.prev.now in
    let next = c.args.next.now in
    of-bad (IsCompatible bytes prev next) (RefusesWorlds bytes prev next) (LacksWorld bytes prev next) not_utf8 (plain_why 18) c.bad-in_default-text_of.result
    (no_names (second-bad (is_utf8 prev) (is_utf8 next) c.in-Some.ensures.1 c.in_default-text_of.ensures)) c.bad-in_default-text_of.ensures

pub compared_names-requires : goal.compared_names-requires
compared_names-requires c = are-texts _ _ c.args.prev.now c.args.next.now c.in-Some.ensures c.in-Some-text_of.ensures
