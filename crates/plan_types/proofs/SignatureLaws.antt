-- What two walks add, one behind the other.
use Rattle.std.proofs.Common.{rules as std_rules, ◌≡◌, ℕ, List, ◌++◌, append_assoc, Result, IfOk}
use Rattle.std.specs.List.{flat_map}
use Rattle.read_rules.specs.declared.scopes.Scope.{Scope}
use Rattle.read_exports.specs.declared.members.Part.{Part}
use Rattle.read_exports.specs.declared.members.Part.TheVariants as parts
use Rattle.plan_types.specs.Showings.{signatures_of_part, signatures_of_seen}

pub both_added : {R E : Type 0} (r : Result R E) (p : Part) (w : Scope) → p ≡ parts.World w → (old mid new : List ℕ) → mid ≡ old ++ flat_map signatures_of_seen w.imports.now
    → IfOk r (λ _. new ≡ mid ++ flat_map signatures_of_seen w.exports.now) → IfOk r (λ _. new ≡ old ++ signatures_of_part p)
both_added x p w is old mid new first second = search (std_rules, append_assoc)
