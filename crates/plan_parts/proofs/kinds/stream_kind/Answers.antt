use Rattle.std.proofs.{Common.◌∙◌, Common.ap, Common.sym, Common.◌==◌, Common.length, lemmas.Bool.eqb-true}
use Rattle.plan_meaning.specs.Shapes.{one_mark}
use Rattle.wit_model.specs.Tree.{Form}
use Rattle.read_rules.specs.Tables.{numbered_shape}
use Rattle.plan_parts.proofs.KindLaws.{counted, formed_over, stream_form}
use Rattle.plan_parts.proofs.kinds.stream_kind.Goals as goal

pub given_of-requires-clause-many : goal.given_of-requires-clause-many
given_of-requires-clause-many c =
    let s = numbered_shape c.args.shape in
    eqb-true (length c.args.shape.parts.now) (one_mark (c.args.shape.number == 1))
    (counted c.args.kept.now s c.requires.form (Form.stream_of (c.args.shape.number == 1)) (stream_form s c.requires.sort))

pub returns : goal.returns
returns c =
    let s = numbered_shape c.args.shape in
    formed_over c.args.kept.now s c.requires.form _ _ (stream_form s c.requires.sort ∙ ap Form.stream_of (sym c.given_of.ensures.there)) c.given_of.ensures.parts
