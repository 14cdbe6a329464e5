-- Those so far are written.
use Rattle.std.proofs.Common.{drop}
use Rattle.wit_model.specs.Text.{text_of}
use Rattle.wit_json.specs.Listed.{typed_object}
use Rattle.wit_json.proofs.Adding.{Lists}
use Rattle.wit_json.proofs.kinds.put_variant.Given as goal

abbrev pub invariant-loop-case : goal.invariant-loop-case
invariant-loop-case l = Lists (λ c. typed_object (text_of c.name) c.ty) l.cases (drop l.case-index l.cases) l.initial.w l.w
