use Rattle.bind_union.proofs.Meanings as lemmas
use Rattle.bind_union.proofs.BoundMeanings as bound
use Rattle.bind_union.proofs.United as united
use Rattle.bind_union.proofs.UnitedWorlds as worlds
use Rattle.bind_union.proofs.laws.meanings.Goals as goal

pub returns : goal.returns
returns c = record { parts = lemmas.merged_means; bound = bound.bound_means; interfaces = united.interfaces_are_united; worlds = worlds.worlds_are_united }
