-- Those so far are written.
use Rattle.std.proofs.Common.{drop}
use Rattle.wit_json.specs.Listed.{param_tokens}
use Rattle.wit_json.proofs.Adding.{Lists}
use Rattle.wit_json.proofs.functions.put_params.Given as goal

abbrev pub invariant-loop-param : goal.invariant-loop-param
invariant-loop-param l = Lists param_tokens l.params (drop l.param-index l.params) l.initial.w l.w
