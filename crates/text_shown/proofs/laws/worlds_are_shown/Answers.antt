use Rattle.text_shown.proofs.Worlds.{world_shown}
use Rattle.text_shown.proofs.laws.worlds_are_shown.Goals as goal

pub returns : goal.returns
returns c = λ r valid home p at id w members h. world_shown r valid home p at id w members h
