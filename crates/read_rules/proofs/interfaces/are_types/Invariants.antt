use Rattle.std.proofs.Common.{◌≡◌, map, drop}
use Rattle.std.specs.List.{list_all}
use Rattle.plan_meaning.specs.NumberedRules.{is_type}
use Rattle.read_rules.specs.{Tables.known_in, Tables.numbered_tables, Views.numbered_type}
use Rattle.read_rules.proofs.interfaces.are_types.Given as goal

-- those that are left decide
abbrev pub invariant-loop-ty : goal.invariant-loop-ty
invariant-loop-ty l = list_all (λ x. is_type (numbered_tables l.tables) (known_in l.tables) l.place (numbered_type x)) (drop l.ty-index l.types)
    ≡ list_all (is_type (numbered_tables l.tables) (known_in l.tables) l.place) (map numbered_type l.types)
