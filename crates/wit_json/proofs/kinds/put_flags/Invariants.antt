-- Those so far are written.
use Rattle.std.proofs.Common.{drop}
use Rattle.wit_model.specs.Text.{text_of}
use Rattle.wit_json.specs.Listed.{name_object}
use Rattle.wit_json.proofs.Adding.{Lists}
use Rattle.wit_json.proofs.kinds.put_flags.Given as goal

abbrev pub invariant-loop-flag : goal.invariant-loop-flag
invariant-loop-flag l = Lists (λ f. name_object (text_of f.name)) l.flags (drop l.flag-index l.flags) l.initial.w l.w
