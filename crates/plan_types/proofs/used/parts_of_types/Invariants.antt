use Rattle.std.proofs.Common.{◌≡◌, map, take}
use Rattle.plan_parts.specs.Marks.{parts_of}
use Rattle.read_rules.specs.Tables.{numbered_shape}
use Rattle.plan_types.proofs.used.parts_of_types.Given as goal

-- those of so many
abbrev pub invariant-loop-shape : goal.invariant-loop-shape
invariant-loop-shape l = parts_of l.parts.items ≡ map (λ s. s.parts) (map numbered_shape (take l.shape-index l.shapes))
