use Rattle.comp_meaning.proofs.MeaningLaws as laws
use Rattle.comp_meaning.proofs.laws.one_meaning.Goals as goal

pub returns : goal.returns
returns c = record { one_package = laws.one_meaning; one_world = laws.one_world; read = laws.meaning_is_read; read_world = laws.world_is_read }
