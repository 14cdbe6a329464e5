use Rattle.std.proofs.Common.{◌≤◌, Some, ap, subst, sym, ◌∙◌, List, ◌∷◌, length}
use Rattle.std.proofs.lemmas.Result.{IfOk-weaker as if_ok}
use Rattle.comp_meaning.specs.ByLevels.{world_of_pieces}
use Rattle.read_exports.specs.Members.{homes_in}
use Rattle.read_exports.specs.declared.members.Member.{Member}
use Rattle.read_rules.specs.Tables.{numbered_tables}
use Rattle.plan_package.specs.PlanWhole.{MayBeWhole}
use Rattle.plan_meaning.specs.NumberedMembers.{home_at}
use Rattle.comp_read.specs.{DecodedWorlds.HoldsWorldFound, Order.FollowsLevels, Planned.CanBeBuilt, Planned.IsBuiltOf}
use Rattle.comp_read.proofs.{WorldLaws.few_in_world, WorldLaws.world_built, ReadOrder.world_in_order, ShownOrder.world_packages_rise, WorldReadLaws.world_can_be_built, WorldReadLaws.world_may_be_whole, WorldReadLaws.world_plans_mean}
use Rattle.comp_read.proofs.worlds.built_world.Goals as goal

pub built-requires-clause-whole : goal.built-requires-clause-whole
built-requires-clause-whole c =
    let t = numbered_tables c.args.tables.now in
    let h = homes_in c.args.packages.now c.args.homes.now in
    let all = c.deref-2.ensures.value ∙ (c.in_ok-members.ensures ∙ ap (λ (own : List Member). c.args.world ∷ own) c.deref.ensures.value) in
    subst (λ (ms : List Member). MayBeWhole t ms) (sym all) (world_may_be_whole c.args.followed.now t c.args.tables.now.facts.now h c.args.world c.args.scope c.requires.read c.requires.followed.pieces
    c.requires.followed.followed c.in_ok-own.own.items (c.in_ok-own.ensures.own c.args.packages.now))

pub built-requires-clause-buildable : goal.built-requires-clause-buildable
built-requires-clause-buildable c =
    let t = numbered_tables c.args.tables.now in
    let h = homes_in c.args.packages.now c.args.homes.now in
    let all = c.deref-2.ensures.value ∙ (c.in_ok-members.ensures ∙ ap (λ (own : List Member). c.args.world ∷ own) c.deref.ensures.value) in
    subst (λ (ms : List Member). CanBeBuilt t c.args.packages.now (home_at h) c.args.world.package_number ms) (sym all)
    (world_can_be_built c.args.followed.now t c.args.tables.now.facts.now h c.args.world c.args.scope c.requires.read c.requires.followed.pieces c.requires.followed.followed c.in_ok-own.own.items
    (c.in_ok-own.ensures.own c.args.packages.now))

pub returns-clause-holds : goal.returns-clause-holds
returns-clause-holds c = λ pieces followed.
    let t = numbered_tables c.args.tables.now in
    let h = homes_in c.args.packages.now c.args.homes.now in
    let n = c.args.world.package_number in
    let own = c.in_ok-own.own.items in
    let all = c.deref-2.ensures.value ∙ (c.in_ok-members.ensures ∙ ap (λ (ms : List Member). c.args.world ∷ ms) c.deref.ensures.value) in
    let mean = world_plans_mean c.args.followed.now t c.args.tables.now.facts.now h c.args.world c.args.scope c.requires.read pieces followed own (c.in_ok-own.ensures.own c.args.packages.now) in
    let rises = world_packages_rise t h c.requires.read.read.homes n c.args.world c.args.scope c.requires.read.is own (c.in_ok-own.ensures.own c.args.packages.now)
    (c.in_ok-own.ensures.order c.args.packages.now) c.args.packages.now in
    if_ok c.built.result (λ x. IsBuiltOf t c.args.packages.now (home_at h) n c.deref-2.result.now x.0 x.1.0) (λ x. HoldsWorldFound (world_of_pieces pieces) x.0 x.1.0)
    (λ x is. world_built t c.args.packages.now (home_at h) n (c.args.world ∷ own) x.0 x.1.0 (subst (λ (ms : List Member). IsBuiltOf t c.args.packages.now (home_at h) n ms x.0 x.1.0) all is)
    (world_of_pieces pieces) mean rises)
    c.built.ensures.built

pub returns-clause-follows : goal.returns-clause-follows
returns-clause-follows c = λ pieces followed.
    let t = numbered_tables c.args.tables.now in
    let h = homes_in c.args.packages.now c.args.homes.now in
    let n = c.args.world.package_number in
    let own = c.in_ok-own.own.items in
    let facts = c.args.tables.now.facts.now in
    let all = c.deref-2.ensures.value ∙ (c.in_ok-members.ensures ∙ ap (λ (ms : List Member). c.args.world ∷ ms) c.deref.ensures.value) in
    let beside = c.in_ok-own.ensures.own c.args.packages.now in
    let mean = world_plans_mean c.args.followed.now t facts h c.args.world c.args.scope c.requires.read pieces followed own beside in
    if_ok c.built.result (λ x. IsBuiltOf t c.args.packages.now (home_at h) n c.deref-2.result.now x.0 x.1.0) (λ x. FollowsLevels (Some pieces) x.0)
    (λ x is. world_in_order c.args.followed.now t facts h c.args.world c.args.scope c.requires.read pieces followed own beside (c.in_ok-own.ensures.order c.args.packages.now) (world_of_pieces pieces)
    mean x.0 x.1.0 (subst (λ (ms : List Member). IsBuiltOf t c.args.packages.now (home_at h) n ms x.0 x.1.0) all is)) c.built.ensures.built

pub returns-clause-few : goal.returns-clause-few
returns-clause-few c =
    let t = numbered_tables c.args.tables.now in
    let h = homes_in c.args.packages.now c.args.homes.now in
    let n = c.args.world.package_number in
    let own = c.in_ok-own.own.items in
    let pieces = c.requires.followed.pieces in
    let all = c.deref-2.ensures.value ∙ (c.in_ok-members.ensures ∙ ap (λ (ms : List Member). c.args.world ∷ ms) c.deref.ensures.value) in
    let beside = c.in_ok-own.ensures.own c.args.packages.now in
    let mean = world_plans_mean c.args.followed.now t c.args.tables.now.facts.now h c.args.world c.args.scope c.requires.read pieces c.requires.followed.followed own beside in
    let may = world_may_be_whole c.args.followed.now t c.args.tables.now.facts.now h c.args.world c.args.scope c.requires.read pieces c.requires.followed.followed own beside in
    if_ok c.built.result (λ x. IsBuiltOf t c.args.packages.now (home_at h) n c.deref-2.result.now x.0 x.1.0) (λ x. length x.0.types.items ≤ length t.shapes)
    (λ x is. few_in_world t c.args.packages.now (home_at h) n (c.args.world ∷ own) x.0 x.1.0 (subst (λ (ms : List Member). IsBuiltOf t c.args.packages.now (home_at h) n ms x.0 x.1.0) all is)
    (world_of_pieces pieces) mean may.fall)
    c.built.ensures.built
