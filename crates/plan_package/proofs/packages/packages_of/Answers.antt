use Rattle.std.proofs.{Common.◌∙◌, Common.ap, Common.length, Common.map, lemmas.Result.IfOk-weaker as if_ok}
use Rattle.plan_build.specs.PlanOf.{stated_package}
use Rattle.read_exports.specs.Members.{homes_alone}
use Rattle.plan_meaning.specs.NumberedMembers.{home_at}
use Rattle.plan_package.specs.WholePackages.{listed_at, ArePlanned, PlansPackages}
use Rattle.plan_package.proofs.PackageLaws.{planned_as}
use Rattle.plan_package.proofs.packages.packages_of.Goals as goal

pub all_packages-requires-clause-many : goal.all_packages-requires-clause-many
all_packages-requires-clause-many c = ap length c.deref_mut.ensures.value ∙ (c.in_ok-lists.ensures.many ∙ c.count.ensures.many)

pub returns : goal.returns
returns c = if_ok c.all_packages.result (λ all. ArePlanned c.args.packages.now c.args.main c.args.places.now.keys c.args.members.now (listed_at c.deref_mut.result.now) (length c.deref_mut.result.now)
    (map stated_package all.items)) (λ all. PlansPackages c.args.packages.now (home_at (homes_alone c.args.homes.now)) c.args.main c.args.places.now.keys c.args.members.now
    (map stated_package all.items)) (λ all. planned_as c.args.packages.now c.args.main c.args.places.now.keys c.args.members.now (home_at (homes_alone c.args.homes.now)) (map stated_package all.items)
    c.deref_mut.result.now c.in_ok-lists.lists.items c.deref_mut.ensures.value (c.in_ok-lists.ensures.many ∙ c.count.ensures.many) c.in_ok-lists.ensures.listed) c.all_packages.ensures
