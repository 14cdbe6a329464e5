use Rattle.std.proofs.Common.{map, take}
use Rattle.std.specs.List.{AllZip}
use Rattle.plan_package.specs.WholePackages.{labelled_place, numbered_interface, ListsPlace}
use Rattle.plan_package.proofs.packages.by_number.Given as goal

-- so many interfaces
abbrev pub invariant-loop-interface : goal.invariant-loop-interface
invariant-loop-interface l = AllZip (ListsPlace l.places.keys) (map labelled_place (take l.interface-index l.interfaces)) (map numbered_interface l.all.items)
