use Rattle.wit_model.proofs.Maps as laws
use Rattle.wit_model.proofs.laws.one_map.Goals as goal

pub returns : goal.returns
returns c = record { interfaces = λ es fs same. laws.one_map es fs same; functions = λ es fs same. laws.one_map es fs same }
