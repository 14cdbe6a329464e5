use Rattle.std.proofs.Common.{◌∙◌, sym, subst, map-id, List}
use Rattle.std.proofs.lemmas.{Iterator.Adapters.YieldsList-from_vec, Iterator.Consumers.YieldsList-end}
use Rattle.text_types.specs.declared.functions.Callable.{Callable}
use Rattle.wit_text.specs.Stages.{AddsCallables}
use Rattle.wit_text.proofs.StageLaws.{callables_join, callables_none}
use Rattle.wit_text.proofs.externs.add_callables.Goals as goal

pub loop-callable-init : goal.loop-callable-init
loop-callable-init c = callables_none

pub loop-callable-preserved : goal.loop-callable-preserved
loop-callable-preserved c = callables_join c.loop-callable.invariant c.in_ok-add_callable.ensures.adds

pub returns : goal.returns
returns c =
    let gives = c.into_iter-callable-iterator.ensures.into_iter_gives in
    let end = YieldsList-end (YieldsList-from_vec c.args.callables.items gives.0 (gives.1 ∙ c.args.callables.ok.0)) c.loop-callable.yielded
    c.loop-callable.callable-iterator c.loop-callable.yielded_by c.next.result c.next.new.self c.in-None.is c.next.ensures.steps in
    record {
      adds = subst (λ (all : List Callable). AddsCallables all c.args.entries.now.entries c.loop-callable.entries.entries)
          (sym (map-id c.loop-callable.yielded) ∙ end.0) c.loop-callable.invariant;
    }
