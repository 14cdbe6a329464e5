use Rattle.std.proofs.Common.{◌≡◌, ◌++◌, false, map, filter_map}
use Rattle.wit_model.specs.{Uses.interface_used_by, Uses.interfaces_used_by, ItemOrders.holds, DirectDeps.number_of_interface, DirectDeps.yet_unlisted}
use Rattle.wit_model.proofs.direct_deps.deps_of.Given as goal

abbrev pub invariant-loop-id : goal.invariant-loop-id
invariant-loop-id l = map number_of_interface l.deps.items ++ yet_unlisted l.own.0 (holds l.listed) (filter_map (λ id. interface_used_by l.resolve id.0) l.id-iterator)
    ≡ yet_unlisted l.own.0 (λ n. false) (interfaces_used_by l.resolve l.interface)
