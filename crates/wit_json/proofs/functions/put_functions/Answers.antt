use Rattle.std.proofs.{Common.refl, lemmas.Map.Iter.rest_all, lemmas.Map.Iter.rest_more}
use Rattle.std.specs.Map.Iter.{deref}
use Rattle.indexmap.specs.IndexMap.{values}
use Rattle.wit_json.specs.Listed.{function_tokens}
use Rattle.wit_json.proofs.Adding.{adds2, lists_all, lists_more, then_token}
use Rattle.wit_json.proofs.functions.put_functions.Goals as goal

pub loop-function-preserved : goal.loop-function-preserved
loop-function-preserved c = lists_more function_tokens _ c.loop-function.function-iterator c.next.new.self c.in-Some.function.now c.loop-function.invariant
    (rest_more deref c.loop-function.function-iterator c.next.new.self c.next.result c.in-Some.function c.in-Some.is c.next.ensures.steps) c.in_ok-put_function.ensures

pub returns : goal.returns
returns c =
    let ended = rest_all deref c.loop-function.function-iterator c.next.new.self c.next.result c.in-None.is c.next.ensures.steps in
    let all = lists_all function_tokens (values c.args.functions.now) c.loop-function.function-iterator c.loop-function.invariant ended in
    then_token _ (adds2 c.in_ok-begin_list_under.ensures all refl) c.end_array.ensures refl
