use Rattle.std.proofs.Common.{map, take}
use Rattle.std.specs.List.{AllZip}
use Rattle.read_homes.specs.Homes.{given_home, given_text, ArePackages, ComeInOrder, Grows, HaveReasons, IsHomeOf, KeepsHomes}
use Rattle.read_homes.proofs.homes.homes_of.Given as goal

-- the homes of so many places
abbrev pub invariant-loop-path : goal.invariant-loop-path
invariant-loop-path l = record {
  homes : AllZip (IsHomeOf l.packages) (map given_text (take l.path-index l.paths)) (map given_home l.homes.items);
  grows : Grows l.initial.packages l.packages;
  packages : ArePackages l.packages;
  reasons : HaveReasons l.initial.packages l.packages (map given_home l.homes.items);
  order : ComeInOrder l.initial.packages (map given_home l.homes.items);
  keeps : KeepsHomes l.initial.packages l.packages;
}
