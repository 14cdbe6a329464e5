use Rattle.wit_json.proofs.KeysTold.{keys_are_told, valid_texts_tell}
use Rattle.wit_json.proofs.laws.valid_listings_keep_keys.Goals as goal

pub returns-clause-keys : goal.returns-clause-keys
returns-clause-keys c = keys_are_told

pub returns-clause-texts : goal.returns-clause-texts
returns-clause-texts c = valid_texts_tell
