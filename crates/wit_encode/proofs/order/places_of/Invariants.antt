use Rattle.std.proofs.Common.{take}
use Rattle.wit_encode.specs.Order.{ArePlaces}
use Rattle.wit_encode.proofs.order.places_of.Given as goal

abbrev pub invariant-loop-place : goal.invariant-loop-place
invariant-loop-place l = ArePlaces (take l.place l.types) l.places
