use Rattle.comp_meaning.proofs.FunctionLists as laws
use Rattle.comp_meaning.proofs.laws.functions_agree.Goals as goal

pub returns : goal.returns
returns c = record { both_ways = laws.functions_stand; as_maps = laws.functions_make_one_map }
