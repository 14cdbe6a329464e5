use Rattle.std.proofs.Common.{ap, Some}
use Rattle.plan_parts.specs.Functions.{found_under}
use Rattle.read_rules.specs.Views.{numbered_view}
use Rattle.plan_package.proofs.InterfaceLaws.{numbers_listed}
use Rattle.plan_package.proofs.interfaces.interface_of.Goals as goal

pub returns : goal.returns
returns c = record {
  name = c.name_of.ensures;
  package_ = ap Some c.in_ok-package.ensures;
  types = numbers_listed c.args.kept.now (numbered_view c.args.view).types c.in_ok-types.types.items c.in_ok-types.ensures.types;
  find = found_under c.in_ok-types.resources.entries;
  resources = c.in_ok-types.ensures.resources;
  functions = c.in_ok-functions.ensures;
}
