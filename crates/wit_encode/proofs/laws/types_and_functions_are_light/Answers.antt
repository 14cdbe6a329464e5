use Rattle.wit_encode.proofs.Extents as lemmas
use Rattle.wit_encode.proofs.ExtentWeighing as sums
use Rattle.wit_encode.proofs.ComponentExtents as components
use Rattle.wit_encode.proofs.laws.types_and_functions_are_light.Goals as goal

pub returns : goal.returns
returns c = record {
  bytes = lemmas.bytes-few;
  types = lemmas.types-light;
  functions = lemmas.functions-light;
  instances = sums.instances-light;
  dependencies = sums.dependencies-light;
  components = components.components-light;
  worlds = components.worlds-light;
}
