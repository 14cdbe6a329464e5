use Rattle.encode_shown.proofs.PackageTypes as lemmas
use Rattle.encode_shown.proofs.laws.sections_are_meant.Goals as goal

pub returns : goal.returns
returns c = record {
  package_ = λ r n p xs sections v at types some e. lemmas.sections-mean r v n p at xs sections types some e;
  world = λ r n w p x sections v there home is e. lemmas.world-sections-mean r v n w p there home x sections is e;
}
