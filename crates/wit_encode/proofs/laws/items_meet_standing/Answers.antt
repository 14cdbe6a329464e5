use Rattle.wit_encode.proofs.WorldShown as theory
use Rattle.wit_encode.proofs.laws.items_meet_standing.Goals as goal

pub returns : goal.returns
returns c = theory.items_meet_standing
