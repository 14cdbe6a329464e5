use Rattle.bind_carry.proofs.{FirstWorlds.first_is_carried, FirstWorlds.first_is_copied, FirstWorlds.first_worlds_are_copied}
use Rattle.bind_carry.proofs.laws.first_pass.Goals as goal

pub returns-clause-carried : goal.returns-clause-carried
returns-clause-carried c = first_is_carried

pub returns-clause-copied : goal.returns-clause-copied
returns-clause-copied c = first_is_copied

pub returns-clause-worlds : goal.returns-clause-worlds
returns-clause-worlds c = first_worlds_are_copied
