use Rattle.bind_carry.proofs.UnionKeys.{exports_are_added, exports_come_behind, keys_keep_texts}
use Rattle.bind_carry.proofs.added_laws.added_keys.Goals as goal

pub returns-clause-exports : goal.returns-clause-exports
returns-clause-exports c = exports_are_added

pub returns-clause-behind : goal.returns-clause-behind
returns-clause-behind c = exports_come_behind

pub returns-clause-texts : goal.returns-clause-texts
returns-clause-texts c = keys_keep_texts
