use Rattle.wit_model.proofs.Chains as laws
use Rattle.wit_model.proofs.laws.chains_reach.Goals as goal

pub returns : goal.returns
returns c = record { all = laws.chains_reach; alone = laws.reached_by_chains }
