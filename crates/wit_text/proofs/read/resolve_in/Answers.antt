use Rattle.std.proofs.Common.{refl}
use Rattle.std.proofs.lemmas.Grind.{merely}
use Rattle.text_names.specs.Orders.{links_of}
use Rattle.wit_text.proofs.{Ranks.grounded, WorldsGrow.all_carried}
use Rattle.wit_text.proofs.read.resolve_in.Goals as goal

pub invariant_of-around : goal.invariant_of-around
invariant_of-around c = record { grounded = merely (grounded (links_of c.args.needs.now) c.args.order.now c.requires.order) }

pub returns : goal.returns
returns c = record {
  interfaces = c.worlds_of.new.interfaces;
  list = refl;
  made = all_carried c.args.sources.now c.in_ok-worlds.ensures.made c.in_ok-worlds.ensures.grows.defs c.in_ok-interfaces.ensures.made;
  worlds = c.in_ok-worlds.ensures.worlds;
  packages = c.in_ok-packages.ensures;
}
