use Rattle.std.proofs.{Common.◌∙◌, Common.ap, Common.sym, Common.◌==◌, Common.length, lemmas.Bool.eqb-true}
use Rattle.plan_meaning.specs.Shapes.{one_mark}
use Rattle.wit_model.specs.Tree.{Form}
use Rattle.read_rules.specs.Tables.{numbered_shape}
use Rattle.plan_parts.proofs.KindLaws.{counted, formed_over, future_form, tuple_form}
use Rattle.plan_parts.proofs.kinds.kind_of_form.Goals as goal

pub given_of-requires-clause-many : goal.given_of-requires-clause-many
given_of-requires-clause-many c =
    let s = numbered_shape c.args.shape in
    eqb-true (length c.args.shape.parts.now) (one_mark (c.args.shape.number == 1)) (counted c.args.kept.now s c.requires (Form.future_of (c.args.shape.number == 1)) (future_form s c.in-13.is))

pub returns-in-13 : goal.returns-in-13
returns-in-13 c =
    let s = numbered_shape c.args.shape in
    formed_over c.args.kept.now s c.requires _ _ (future_form s c.in-13.is ∙ ap Form.future_of (sym c.given_of.ensures.there)) c.given_of.ensures.parts

pub returns-in_ok-parts_of-in-9 : goal.returns-in_ok-parts_of-in-9
returns-in_ok-parts_of-in-9 c =
    let s = numbered_shape c.args.shape in
    formed_over c.args.kept.now s c.requires Form.tuple_of _ (tuple_form s c.in-9.is) c.in_ok-parts_of-in-9.ensures
