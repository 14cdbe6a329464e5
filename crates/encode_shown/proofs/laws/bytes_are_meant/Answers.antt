use Rattle.encode_shown.proofs.PackageTypes as lemmas
use Rattle.encode_shown.proofs.laws.bytes_are_meant.Goals as goal

pub returns : goal.returns
returns c = record {
  package_ = λ r n p xs sections bytes v at types some e spelled m. lemmas.bytes-mean r v n p at xs sections bytes types some e spelled m;
  world = λ r n w p x sections bytes v there home is e spelled m. lemmas.world-bytes-mean r v n w p there home x sections bytes is e spelled m;
}
