use Rattle.std.proofs.Common.{◌≡◌, ◌||◌, ℕ, map, drop}
use Rattle.wit_model.specs.Uses.{has}
use Rattle.read_rules.specs.{Reached.used_by_types, Tables.numbered_tables, Views.numbered_type}
use Rattle.read_rules.proofs.reached.add_used.Given as goal

-- the places that were added and those that are left are all
abbrev pub invariant-loop-ty : goal.invariant-loop-ty
invariant-loop-ty l = (n : ℕ) → (has l.used.keys n || has (used_by_types (numbered_tables l.tables) (map numbered_type (drop l.ty-index l.types))) n)
    ≡ (has l.initial.used.keys n || has (used_by_types (numbered_tables l.tables) (map numbered_type l.types)) n)
