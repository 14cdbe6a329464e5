-- Those so far are written.
use Rattle.std.proofs.Common.{Some, drop}
use Rattle.wit_model.specs.Text.{text_of}
use Rattle.wit_json.specs.Listed.{typed_object}
use Rattle.wit_json.proofs.Adding.{Lists}
use Rattle.wit_json.proofs.kinds.put_record.Given as goal

abbrev pub invariant-loop-field : goal.invariant-loop-field
invariant-loop-field l = Lists (λ f. typed_object (text_of f.name) (Some f.ty)) l.fields (drop l.field-index l.fields) l.initial.w l.w
