use Rattle.std.proofs.Common.{◌≡◌, ◌==◌, drop}
use Rattle.std.specs.List.{list_all}
use Rattle.read_exports.specs.Members.{numbered_members}
use Rattle.read_exports.proofs.packages.have_package.Given as goal

-- those that are left decide
abbrev pub invariant-loop-member : goal.invariant-loop-member
invariant-loop-member l = list_all (λ m. l.package_number == m.package_number) (drop l.member-index l.members) ≡ list_all (λ m. l.package_number == m.package_) (numbered_members l.members)
