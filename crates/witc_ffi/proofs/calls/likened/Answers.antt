use Rattle.std.specs.Str.{is_utf8}
use Rattle.std.proofs.lemmas.Bool.{and_left as first-bad}
use Rattle.witc_refusals.specs.Numbers.{plain_why}
use Rattle.witc_ffi.specs.Answers.{AreAlike, LacksEither, RefusesAlike, no_texts, not_utf8}
use Rattle.witc_ffi.proofs.OutcomeLaws.{are-texts, of-bad, second-bad}
use Rattle.witc_ffi.proofs.calls.likened.Goals as goal

pub returns-in_default : goal.returns-in_default
returns-in_default c =
    let bytes = c.args.bytes.now in
    let name = c.args.name.now in
    let other = c.args.other.now in
    let other_name = c.args.other_name.now in
    of-bad (AreAlike bytes name other other_name) (RefusesAlike bytes name other other_name) (LacksEither bytes name other other_name) not_utf8 (plain_why 18) c.bad.result
    (no_texts (first-bad (is_utf8 name) (is_utf8 other_name) c.in_default.ensures)) c.bad.ensures

pub returns-in_default-text_of : goal.returns-in_default-text_of
returns-in_default-text_of c =
    let bytes = c.args.bytes.now in
    let name = c.args.name.now in
    let other = c.args.other.now in
    let other_name = c.args.other_name.now in
    of-bad (AreAlike bytes name other other_name) (RefusesAlike bytes name other other_name) (LacksEither bytes name other other_name) not_utf8 (plain_why 18) c.bad-in_default-text_of.result
    (no_texts (second-bad (is_utf8 name) (is_utf8 other_name) c.in-Some.ensures.1 c.in_default-text_of.ensures)) c.bad-in_default-text_of.ensures

pub likened_names-requires : goal.likened_names-requires
likened_names-requires c = are-texts _ _ c.args.name.now c.args.other_name.now c.in-Some.ensures c.in-Some-text_of.ensures
