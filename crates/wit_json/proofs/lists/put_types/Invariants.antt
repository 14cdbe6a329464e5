-- Those so far are written.
use Rattle.std.proofs.Common.{drop}
use Rattle.wit_json.specs.Listed.{type_tokens}
use Rattle.wit_json.proofs.Adding.{Lists}
use Rattle.wit_json.proofs.lists.put_types.Given as goal

abbrev pub invariant-loop-def : goal.invariant-loop-def
invariant-loop-def l = Lists type_tokens l.types (drop l.def-index l.types) l.initial.w l.w
