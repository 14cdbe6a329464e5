-- Those so far are written.
use Rattle.std.proofs.Common.{drop}
use Rattle.wit_json.specs.Listed.{interface_tokens}
use Rattle.wit_json.proofs.Adding.{Lists}
use Rattle.wit_json.proofs.lists.put_interfaces.Given as goal

abbrev pub invariant-loop-interface : goal.invariant-loop-interface
invariant-loop-interface l = Lists interface_tokens l.interfaces (drop l.interface-index l.interfaces) l.initial.w l.w
