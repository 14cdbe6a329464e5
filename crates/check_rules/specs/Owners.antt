-- What the check of owners keeps of the named types that are met at a number.
use Rattle.std.specs.Prelude.{◌≡◌, ℕ, Bool, true, false, List, unwrap_or, slice_get}
use Rattle.std.specs.List.{list_all}
use Rattle.check_rules.specs.declared.owners.Met.{Met}
use Rattle.wit_model.specs.declared.model.{Resolve.Resolve, TypeOwner.TypeOwner}
use Rattle.wit_model.specs.Parts.{met_by, met_of, same_owner, has_owner}
use Rattle.check_rules.specs.declared.owners.Met.TheVariants as met

-- whether all that is met has this owner
abbrev pub stays : Met → TypeOwner → Bool
stays met.Nothing o = true
stays (met.Only p) o = same_owner p o
stays met.Mixed o = false

-- the entry of a table, and nothing past its end
abbrev pub met_entry : List Met → ℕ → Met
met_entry table n = unwrap_or (slice_get table n) met.Nothing

-- the table says of each number and owner whether all that is met there has that owner
abbrev pub IsMetTable : Resolve → List Met → Type 0
IsMetTable r table = (n : ℕ) (o : TypeOwner) → stays (met_entry table n) o ≡ list_all (has_owner r o) (met_by (met_of r) n)
