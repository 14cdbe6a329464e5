use Rattle.std.proofs.Common.{◌≡◌, ◌&&◌, drop}
use Rattle.std.specs.List.{list_all}
use Rattle.wit_model.specs.declared.model.TypeOwner.{TypeOwner}
use Rattle.check_rules.specs.Owners.{stays, met_entry}
use Rattle.check_rules.proofs.owners.met_by_all.Given as goal

abbrev pub invariant-loop-number : goal.invariant-loop-number
invariant-loop-number l = (o : TypeOwner) → (stays l.met o && list_all (λ n. stays (met_entry l.table n) o) (drop l.number-index l.numbers)) ≡ list_all (λ n. stays (met_entry l.table n) o) l.numbers
