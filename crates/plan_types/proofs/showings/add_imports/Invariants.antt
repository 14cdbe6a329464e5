use Rattle.std.proofs.Common.{◌≡◌, ◌++◌, map, drop}
use Rattle.std.specs.List.{flat_map}
use Rattle.plan_types.specs.Showings.{numbered_showing, showings_of_import}
use Rattle.plan_types.proofs.showings.add_imports.Given as goal

-- those that were added, and those of what is left, are all
abbrev pub invariant-loop-import : goal.invariant-loop-import
invariant-loop-import l = map numbered_showing l.all.items ++ flat_map showings_of_import (drop l.import-index l.imports) ≡ map numbered_showing l.initial.all.items ++ flat_map
    showings_of_import l.imports
