use Rattle.read_shown.proofs.{MeaningKinds.packages_have_kinds, MeaningKinds.worlds_have_kinds, MemberKinds.have_kinds}
use Rattle.read_shown.proofs.laws.names_have_kinds.Goals as goal

pub returns : goal.returns
returns c = record { names = have_kinds; packages = packages_have_kinds; worlds = worlds_have_kinds }
