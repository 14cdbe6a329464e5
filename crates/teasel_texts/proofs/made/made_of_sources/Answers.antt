use Rattle.std.proofs.Common.{sym, subst, ◌∙◌, ◌∷◌, ◌++◌, [], map-id, List}
use Rattle.std.proofs.lemmas.{Iterator.Adapters.YieldsList-from_vec, Iterator.Consumers.YieldsList-end}
use Rattle.base_lemmas.proofs.Elements.{zip-append}
use Rattle.teasel_files.specs.declared.source.Source.{Source}
use Rattle.teasel_texts.specs.{Made.AreTaken, Made.IsTaken, declared.input.Input.Input}
use Rattle.teasel_texts.proofs.made.made_of_sources.Goals as goal

pub loop-source-preserved : goal.loop-source-preserved
loop-source-preserved c =
    subst (λ (taken : List Input). AreTaken (c.loop-source.yielded ++ c.in-Some.source ∷ []) taken) (sym c.in_ok-push.ensures.items)
    (zip-append IsTaken c.loop-source.yielded c.loop-source.made.items (c.in-Some.source ∷ []) (c.in_ok-made_of_source.field-0 ∷ []) c.loop-source.invariant
    (c.in_ok-made_of_source.ensures, tt))

pub returns : goal.returns
returns c =
    let gives = c.into_iter-source-iterator.ensures.into_iter_gives in
    let end = YieldsList-end (YieldsList-from_vec c.args.sources.items gives.0 (gives.1 ∙ c.args.sources.ok.0)) c.loop-source.yielded c.loop-source.source-iterator c.loop-source.yielded_by
    c.next.result c.next.new.self c.in-None.is c.next.ensures.steps in
    subst (λ (found : List Source). AreTaken found c.loop-source.made.items) (sym (map-id c.loop-source.yielded) ∙ end.0) c.loop-source.invariant
