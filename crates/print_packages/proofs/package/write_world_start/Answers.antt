use Rattle.std.proofs.Common.{refl}
use Rattle.print_items.proofs.Driven.{driven, driven_on}
use Rattle.print_packages.proofs.package.write_world_start.Goals as goal

pub returns : goal.returns
returns g c = record {
  calls = driven_on (driven c.write_docs.ensures.calls c.write_gates.ensures.calls) (driven c.keyword_and_blank.ensures.calls (driven c.name.ensures.calls c.indent_start.ensures.calls)) refl;
}
