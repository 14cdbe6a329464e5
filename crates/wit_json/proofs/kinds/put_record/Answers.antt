use Rattle.std.proofs.Common.{refl, Some}
use Rattle.wit_model.specs.Text.{text_of}
use Rattle.wit_json.specs.Listed.{typed_object}
use Rattle.wit_json.proofs.Adding.{adds2, lists_whole, then_ok}
use Rattle.wit_json.proofs.kinds.put_record.Goals as goal

pub returns : goal.returns
returns c =
    let all = lists_whole (λ f. typed_object (text_of f.name) (Some f.ty)) c.args.fields.now c.loop-field.field-index c.loop-field.invariant c.loop-field-test.false in
    then_ok _ _ _ (adds2 c.in_ok-begin_list.ensures all refl) c.end_list.ensures refl
