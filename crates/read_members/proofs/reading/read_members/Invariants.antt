use Rattle.std.proofs.Common.{map, take}
use Rattle.read_homes.specs.Homes.{ArePackages, Grows, KeepsHomes}
use Rattle.read_exports.specs.Members.{homes_in}
use Rattle.read_rules.specs.Tables.{known_in, numbered_tables}
use Rattle.read_members.specs.ReadMembers.{read_member, AreForMembers, AreRead}
use Rattle.read_members.proofs.reading.read_members.Given as goal

-- so many members are read
abbrev pub invariant-loop-number : goal.invariant-loop-number
invariant-loop-number l = record {
  read : AreRead (numbered_tables l.tables) (known_in l.tables) (homes_in l.packages l.homes) (take l.number l.members) (map read_member l.all.items);
  grows : Grows l.initial.packages l.packages;
  packages : ArePackages l.packages;
  reasons : AreForMembers l.initial.packages l.packages (map read_member l.all.items);
  keeps : KeepsHomes l.initial.packages l.packages;
}
