-- Those so far are written.
use Rattle.indexmap.specs.IndexMap.{values}
use Rattle.wit_json.specs.Listed.{function_tokens}
use Rattle.wit_json.proofs.Adding.{Lists}
use Rattle.wit_json.proofs.functions.put_functions.Given as goal

abbrev pub invariant-loop-function : goal.invariant-loop-function
invariant-loop-function l = Lists function_tokens (values l.functions) l.function-iterator l.initial.w l.w
