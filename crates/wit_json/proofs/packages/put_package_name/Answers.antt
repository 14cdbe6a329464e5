use Rattle.std.proofs.Common.{refl}
use Rattle.wit_json.specs.Listed.{package_name_tokens}
use Rattle.wit_json.proofs.Adding.{adds2, then_ok}
use Rattle.wit_json.proofs.packages.put_package_name.Goals as goal

pub returns : goal.returns
unfolding package_name_tokens
returns c = then_ok _ _ _ (adds2 c.in_ok-put_text.ensures c.in_ok-put_text-2.ensures refl) c.put_version.ensures (cc)
