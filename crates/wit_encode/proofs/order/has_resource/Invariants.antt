use Rattle.std.proofs.Common.{◌≡◌, map}
use Rattle.wit_encode.specs.{Instance.keyed, Order.any_of_resource}
use Rattle.wit_encode.proofs.order.has_resource.Given as goal

abbrev pub invariant-loop-name : goal.invariant-loop-name
invariant-loop-name l = any_of_resource (map keyed l._name-iterator) ≡ any_of_resource (map keyed l.interface.functions.entries)
