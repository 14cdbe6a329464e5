use Rattle.encode_types.proofs.EqualLists as lemmas
use Rattle.encode_types.proofs.laws.equal_lists.Goals as goal

pub returns : goal.returns
returns c = record { kinds = lemmas.equal_kinds; keys = lemmas.equal_keys }
