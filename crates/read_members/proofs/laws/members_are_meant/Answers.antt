use Rattle.read_members.proofs.MeantLaws.{no_members_are_meant, read_members_are_meant}
use Rattle.read_members.proofs.laws.members_are_meant.Goals as goal

pub returns-clause-read : goal.returns-clause-read
returns-clause-read c = read_members_are_meant

pub returns-clause-none : goal.returns-clause-none
returns-clause-none c = no_members_are_meant
