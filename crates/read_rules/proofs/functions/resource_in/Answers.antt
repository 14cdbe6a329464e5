use Rattle.std.proofs.{Common.sym, Common.◌∙◌, lemmas.Bool.and_right as and_false}
use Rattle.wit_model.specs.Text.{text_eq}
use Rattle.read_rules.proofs.MemberNames.{last_dot, no_last_dot, no_mark, and_true}
use Rattle.read_rules.proofs.functions.resource_in.Goals as goal

pub returns-then-is_label : goal.returns-then-is_label
returns-then-is_label c = λ r. last_dot c.args.mark.now c.args.name.now r c.in-Some.rest.now c.in-Some.ensures (c.in-Some-at_last_dot.resource.now, c.in-Some-at_last_dot.member.now)
    c.in-Some-at_last_dot.ensures.0 c.in-Some-at_last_dot.ensures.1 ∙ and_true (text_eq c.in-Some-at_last_dot.resource.now r) _ (sym c.if-is_label.ensures)

pub returns-else-is_label : goal.returns-else-is_label
returns-else-is_label c = λ r. last_dot c.args.mark.now c.args.name.now r c.in-Some.rest.now c.in-Some.ensures (c.in-Some-at_last_dot.resource.now, c.in-Some-at_last_dot.member.now)
    c.in-Some-at_last_dot.ensures.0 c.in-Some-at_last_dot.ensures.1 ∙ and_false (text_eq c.in-Some-at_last_dot.resource.now r) _ (sym c.if-is_label.ensures)

pub returns-in-None : goal.returns-in-None
returns-in-None c = λ r. no_mark c.args.mark.now c.args.name.now r c.in-None.ensures

pub returns-in-None-at_last_dot : goal.returns-in-None-at_last_dot
returns-in-None-at_last_dot c = λ r. no_last_dot c.args.mark.now c.args.name.now r c.in-Some.rest.now c.in-Some.ensures c.in-None-at_last_dot.ensures
