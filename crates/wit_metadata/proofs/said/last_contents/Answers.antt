use Rattle.std.proofs.Common.{Some, None}
use Rattle.wit_metadata.proofs.SaidLaws.{all-read, none-framed, one-more}
use Rattle.wit_metadata.proofs.said.last_contents.Goals as goal
use Rattle.base_lemmas.proofs.Lists.{none_left as none-left, some_left as some-left}

pub loop-rest-preserved-in-Some : goal.loop-rest-preserved-in-Some
loop-rest-preserved-in-Some c = one-more c.args.bytes.now c.loop-rest.rest.now c.loop-rest.last c.loop-rest.invariant (some-left c.loop-rest.rest.now c.loop-rest-test.ensures)
    (c.in-Ok.section.id, c.in-Ok.section.contents.now) c.in-Ok.behind.now c.in-Ok.ensures.stands.0 c.in-Ok.ensures.stands.1 c.in-Ok.ensures.stands.2 (Some c.in-Some.found) c.in-Some.ensures

pub loop-rest-preserved : goal.loop-rest-preserved
loop-rest-preserved c = one-more c.args.bytes.now c.loop-rest.rest.now c.loop-rest.last c.loop-rest.invariant (some-left c.loop-rest.rest.now c.loop-rest-test.ensures)
    (c.in-Ok.section.id, c.in-Ok.section.contents.now) c.in-Ok.behind.now c.in-Ok.ensures.stands.0 c.in-Ok.ensures.stands.1 c.in-Ok.ensures.stands.2 None c.in_default.ensures

pub returns-in-Err : goal.returns-in-Err
returns-in-Err c = none-framed c.args.bytes.now c.loop-rest.rest.now c.loop-rest.last c.loop-rest.invariant (some-left c.loop-rest.rest.now c.loop-rest-test.ensures) c.in-Err.ensures.stands

pub returns : goal.returns
returns c = all-read c.args.bytes.now c.loop-rest.rest.now c.loop-rest.last c.loop-rest.invariant (none-left c.loop-rest.rest.now c.loop-rest-test.ensures)
