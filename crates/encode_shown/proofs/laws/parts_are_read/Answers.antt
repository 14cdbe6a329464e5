use Rattle.encode_shown.proofs.Dependencies as lemmas
use Rattle.encode_shown.proofs.laws.parts_are_read.Goals as goal

pub returns : goal.returns
returns c = record {
  interfaces = λ r n p e ds scope imports exported v at d follows shows. lemmas.interface-part-read r v n p at e d ds scope imports exported follows shows;
  worlds = λ r n p e w ds scope v at d there follows shows. lemmas.world-part-read r v n p at e d w there ds scope follows shows;
}
