-- The names of a package, or of one world, that has a meaning have one kind.
use Rattle.std.proofs.{Common.rules as std_rules, Common.◌≡◌, Common.List, Common.[], Common.◌∷◌, Common.Some, lemmas.List.append-nil}
use Rattle.std.specs.List.{AllByRecursion}
use Rattle.wit_model.specs.{Meaning.PackageMeaning, Meaning.WorldPackage}
use Rattle.comp_bytes.proofs.Readers.{when_some}
use Rattle.comp_meaning.specs.Reads.{Member, package_of_members, world_of_members}
use Rattle.read_shown.specs.{Parts.MemberStands, Kinds.NamesHaveKinds}
use Rattle.read_shown.proofs.MemberKinds.{have_kinds}
use Rattle.base_lemmas.proofs.Bools.{left_of as first_true, right_of as second_true}

pub packages_have_kinds : (members : List Member) (m : PackageMeaning) → AllByRecursion MemberStands members → package_of_members members ≡ Some m → NamesHaveKinds members
packages_have_kinds z m stand e = search (std_rules, when_some, second_true, have_kinds, first_true)

pub worlds_have_kinds : (members : List Member) (m : WorldPackage) → AllByRecursion MemberStands members → world_of_members members ≡ Some m → NamesHaveKinds members
worlds_have_kinds (x ∷ []) m stand e = search (std_rules, when_some, first_true, second_true, have_kinds, append-nil)
worlds_have_kinds _ m stand e = absurd cc
