use Rattle.std.proofs.Common.{◌≡◌, ℕ, ◌<◌, length}
use Rattle.std.specs.List.{list_all}
use Rattle.wit_model.specs.declared.model.TypeOwner.{TypeOwner}
use Rattle.wit_model.specs.Parts.{has_owner, met_by, met_of}
use Rattle.check_rules.specs.Owners.{stays, met_entry}
use Rattle.check_rules.proofs.owners.met_table.Given as goal

abbrev pub invariant-loop-number : goal.invariant-loop-number
invariant-loop-number l = record {
  made : length l.table.items ≡ l.number;
  right : (n : ℕ) → n < l.number → (o : TypeOwner) → stays (met_entry l.table.items n) o ≡ list_all (has_owner l.resolve o) (met_by (met_of l.resolve) n);
}
