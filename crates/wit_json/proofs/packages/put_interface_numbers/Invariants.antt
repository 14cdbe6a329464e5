-- Those so far are written.
use Rattle.indexmap.specs.IndexMap.{values}
use Rattle.wit_json.specs.Listed.{number_entry}
use Rattle.wit_json.proofs.Adding.{Lists}
use Rattle.wit_json.proofs.packages.put_interface_numbers.Given as goal

abbrev pub invariant-loop-id : goal.invariant-loop-id
invariant-loop-id l = Lists (λ id. number_entry id.0) (values l.interfaces) l.id-iterator l.initial.w l.w
