use Rattle.std.proofs.Common.{◌≡◌, ◌++◌, map}
use Rattle.std.specs.Prelude.{All}
use Rattle.wit_encode.specs.{Instance.keyed, Instance.placed_function, Order.place_among}
use Rattle.wit_encode.proofs.order.placed.Given as goal

abbrev pub invariant-loop-name : goal.invariant-loop-name
invariant-loop-name l = record {
  functions : map placed_function l.all.items ++ map keyed l.name-iterator ≡ map keyed l.interface.functions.entries;
  places : All (λ e. e.0 ≡ place_among l.types e.2.now) l.all.items;
}
