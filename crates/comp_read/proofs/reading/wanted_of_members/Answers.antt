use Rattle.std.proofs.Common.{Some, subst, sym, IfOk}
use Rattle.comp_meaning.specs.ByLevels.{package_of_pieces, world_of_pieces}
use Rattle.comp_read.specs.declared.wanted.Wanted.{Wanted}
use Rattle.comp_read.specs.{Decoded.HoldsFound, DecodedWorlds.HoldsWorldFound, Order.FollowsLevels, WantedFound.HoldsWanted}
use Rattle.comp_read.proofs.ReadOrder.{both_ok}
use Rattle.comp_read.specs.declared.wanted.Wanted.TheVariants as wanted
use Rattle.comp_read.proofs.reading.wanted_of_members.Goals as goal

pub returns-in-Package-clause-holds : goal.returns-in-Package-clause-holds
returns-in-Package-clause-holds c = λ pieces followed. subst (λ (w : Wanted). IfOk c.package_of_members.result (λ x. HoldsWanted w (Some pieces) x.0 x.1.0)) (sym c.in-Package.is)
    (both_ok c.package_of_members.result (λ x. HoldsFound (package_of_pieces pieces) x.0 x.1.0) (λ x. FollowsLevels (Some pieces) x.0) (λ x. HoldsWanted wanted.Package (Some pieces) x.0 x.1.0)
    (λ x holds follows. record { holds = holds; follows = follows }) (c.package_of_members.ensures.holds pieces followed) (c.package_of_members.ensures.follows pieces followed))

pub returns-in-World-clause-holds : goal.returns-in-World-clause-holds
returns-in-World-clause-holds c = λ pieces followed. subst (λ (w : Wanted). IfOk c.world_of_members.result (λ x. HoldsWanted w (Some pieces) x.0 x.1.0)) (sym c.in-World.is)
    (both_ok c.world_of_members.result (λ x. HoldsWorldFound (world_of_pieces pieces) x.0 x.1.0) (λ x. FollowsLevels (Some pieces) x.0) (λ x. HoldsWanted wanted.World (Some pieces) x.0 x.1.0)
    (λ x holds follows. record { holds = holds; follows = follows }) (c.world_of_members.ensures.holds pieces followed) (c.world_of_members.ensures.follows pieces followed))
