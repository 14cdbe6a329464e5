use Rattle.std.proofs.Common.{◌≡◌, map, take}
use Rattle.read_numbers.specs.{OwnedViews.owned_view, NumberedParts.instance_view}
use Rattle.read_numbers.proofs.views.views_of.Given as goal

abbrev pub invariant-loop-instance : goal.invariant-loop-instance
invariant-loop-instance l = map owned_view l.views.items ≡ map instance_view (take l.instance-index l.instances)
