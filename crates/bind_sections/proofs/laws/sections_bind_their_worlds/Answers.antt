use Rattle.bind_sections.proofs.BoundWorlds as laws
use Rattle.bind_sections.proofs.laws.sections_bind_their_worlds.Goals as goal

pub returns : goal.returns
returns c = laws.sections_bind_their_worlds
