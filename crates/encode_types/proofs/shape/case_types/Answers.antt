use Rattle.std.proofs.Common.{sym, ap, ◌∙◌, ◌++◌, option_to_list}
use Rattle.encode_types.proofs.shape.case_types.Goals as goal
use Rattle.wit_model.proofs.Elements.{filter_map_more}

pub loop-case-preserved : goal.loop-case-preserved
loop-case-preserved c = c.in_ok-push_given.ensures ∙ ap (λ ts. ts ++ option_to_list c.case-item.result.ty) c.loop-case.invariant
    ∙ sym (filter_map_more (λ d. d.ty) c.args.cases.now c.loop-case.case-index c.case-item.result c.loop-case-test.true c.case-item.is)
