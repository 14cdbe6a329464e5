use Rattle.encode_shown.proofs.{Worlds.world-obeys, WorldMeans.world-means, WorldMeans.world-package-means}
use Rattle.encode_shown.proofs.laws.worlds_are_meant.Goals as goal

pub returns : goal.returns
returns c = record {
  obey = λ r n w scope v there shows. world-obeys r v n w there scope shows;
  mean = λ r n w scope v there shows. world-means r v n w there scope shows;
  alone = λ r n w p scope v there home shows. world-package-means r v n w there scope shows p home;
}
