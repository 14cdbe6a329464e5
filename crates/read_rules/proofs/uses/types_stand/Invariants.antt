use Rattle.std.proofs.Common.{◌≡◌, drop}
use Rattle.std.specs.List.{list_all}
use Rattle.wit_model.specs.Uses.{has}
use Rattle.plan_meaning.specs.NumberedWorlds.{others_than, used_by}
use Rattle.read_rules.specs.Tables.{numbered_tables}
use Rattle.read_rules.proofs.uses.types_stand.Given as goal

-- those that are left decide
abbrev pub invariant-loop-ty : goal.invariant-loop-ty
invariant-loop-ty l = list_all (λ x. list_all (has l.earlier.keys) (others_than l.own (used_by (numbered_tables l.tables) x.declared))) (drop l.ty-index l.types)
    ≡ list_all (λ x. list_all (has l.earlier.keys) (others_than l.own (used_by (numbered_tables l.tables) x.declared))) l.types
