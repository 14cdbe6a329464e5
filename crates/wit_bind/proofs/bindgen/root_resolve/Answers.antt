use Rattle.std.proofs.Common.{rules}
use Rattle.wit_bind.proofs.bindgen.root_resolve.Goals as goal

pub returns-clause-ok : goal.returns-clause-ok
returns-clause-ok c = record {
  package_ = c.in_ok-package.package;
  packages = search rules;
  is_package = c.in_ok-package.ensures.ok;
  world = c.in_ok-world.world;
  worlds = search rules;
  is_world = c.in_ok-world.ensures.ok;
  no_interfaces = search rules;
  no_types = search rules;
}
