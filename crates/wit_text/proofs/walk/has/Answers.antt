use Rattle.std.proofs.Common.{◌∙◌, ap}
use Rattle.wit_text.specs.Items.{key_test}
use Rattle.wit_text.proofs.Keys.{found_path, path_tested}
use Rattle.wit_text.proofs.walk.has.Goals as goal

pub returns : goal.returns
returns c = c.contains_key.ensures ∙ found_path c.args.number _ (λ k. ap (λ x. key_test x k) c.key_of.ensures ∙ path_tested c.args.number k) c.args.entries.now.entries
