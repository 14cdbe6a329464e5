use Rattle.std.proofs.Common.{refl}
use Rattle.plan_parts.specs.Functions.{found_under}
use Rattle.plan_package.proofs.worlds.world_of.Goals as goal

pub returns : goal.returns
returns c = record {
  name = refl;
  package_ = refl;
  find = found_under c.in_ok-resources.resources.entries;
  resources = c.in_ok-resources.ensures;
  imports = c.in_ok-imports.ensures;
  exports = c.in_ok-exports.ensures;
}
