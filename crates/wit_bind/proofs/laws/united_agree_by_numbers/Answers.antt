use Rattle.wit_bind.proofs.NumbersAgree as laws
use Rattle.wit_bind.proofs.laws.united_agree_by_numbers.Goals as goal

pub returns : goal.returns
returns c = laws.united_agree_by_numbers
