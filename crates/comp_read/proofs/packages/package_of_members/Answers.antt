use Rattle.std.proofs.{Common.◌≤◌, Common.Some, Common.length, Common.refl, lemmas.Result.IfOk-weaker as if_ok}
use Rattle.comp_meaning.specs.ByLevels.{package_of_pieces}
use Rattle.read_exports.specs.Members.{homes_in}
use Rattle.read_rules.specs.Tables.{known_in, numbered_tables}
use Rattle.plan_meaning.specs.NumberedMembers.{home_at}
use Rattle.comp_read.specs.{Decoded.HoldsFound, Order.FollowsLevels, Planned.IsBuiltOf}
use Rattle.comp_read.proofs.{WorldLaws.few_in_package, WorldLaws.package_built, ReadOrder.package_in_order}
use Rattle.comp_read.proofs.ReadLaws.{can_be_built, main_is, may_be_whole, no_package, none_is, plans_mean}
use Rattle.comp_read.proofs.packages.package_of_members.Goals as goal

pub built-requires-clause-whole : goal.built-requires-clause-whole
built-requires-clause-whole c =
    let t = numbered_tables c.args.tables.now in
    let h = homes_in c.args.packages.now c.args.homes.now in
    let ms = c.args.members.now in
    may_be_whole c.args.followed.now t c.args.tables.now.facts.now h ms c.requires.read c.requires.followed.pieces c.requires.followed.followed c.in-Some.main
    (main_is t h (known_in c.args.tables.now) ms ms refl c.in_ok-main.field-0 c.in-Some.main c.in-Some.is (c.in_ok-main.ensures c.args.packages.now))

pub built-requires-clause-buildable : goal.built-requires-clause-buildable
built-requires-clause-buildable c =
    let t = numbered_tables c.args.tables.now in
    let h = homes_in c.args.packages.now c.args.homes.now in
    let ms = c.args.members.now in
    can_be_built c.args.followed.now t c.args.tables.now.facts.now h ms c.requires.read c.requires.followed.pieces c.requires.followed.followed c.in-Some.main
    (main_is t h (known_in c.args.tables.now) ms ms refl c.in_ok-main.field-0 c.in-Some.main c.in-Some.is (c.in_ok-main.ensures c.args.packages.now))

pub returns-in-Some-clause-holds : goal.returns-in-Some-clause-holds
returns-in-Some-clause-holds c = λ pieces followed.
    let t = numbered_tables c.args.tables.now in
    let h = homes_in c.args.packages.now c.args.homes.now in
    let ms = c.args.members.now in
    let obeys = main_is t h (known_in c.args.tables.now) ms ms refl c.in_ok-main.field-0 c.in-Some.main c.in-Some.is (c.in_ok-main.ensures c.args.packages.now) in
    let mean = plans_mean c.args.followed.now t c.args.tables.now.facts.now h ms c.requires.read pieces followed c.in-Some.main obeys in
    if_ok c.built.result (λ x. IsBuiltOf t c.args.packages.now (home_at h) c.in-Some.main ms x.0 x.1.0) (λ x. HoldsFound (package_of_pieces pieces) x.0 x.1.0)
    (λ x is. package_built t c.args.packages.now (home_at h) c.in-Some.main ms x.0 x.1.0 is (package_of_pieces pieces) mean) c.built.ensures.built

pub returns-in-Some-clause-follows : goal.returns-in-Some-clause-follows
returns-in-Some-clause-follows c = λ pieces followed.
    let t = numbered_tables c.args.tables.now in
    let h = homes_in c.args.packages.now c.args.homes.now in
    let ms = c.args.members.now in
    let facts = c.args.tables.now.facts.now in
    let obeys = main_is t h (known_in c.args.tables.now) ms ms refl c.in_ok-main.field-0 c.in-Some.main c.in-Some.is (c.in_ok-main.ensures c.args.packages.now) in
    let mean = plans_mean c.args.followed.now t facts h ms c.requires.read pieces followed c.in-Some.main obeys in
    if_ok c.built.result (λ x. IsBuiltOf t c.args.packages.now (home_at h) c.in-Some.main ms x.0 x.1.0) (λ x. FollowsLevels (Some pieces) x.0)
    (λ x is. package_in_order c.args.followed.now t facts h c.in-Some.main ms c.requires.read pieces followed obeys (package_of_pieces pieces) mean x.0 x.1.0 is) c.built.ensures.built

pub returns-in-Some-clause-few : goal.returns-in-Some-clause-few
returns-in-Some-clause-few c =
    let t = numbered_tables c.args.tables.now in
    let h = homes_in c.args.packages.now c.args.homes.now in
    let ms = c.args.members.now in
    let pieces = c.requires.followed.pieces in
    let obeys = main_is t h (known_in c.args.tables.now) ms ms refl c.in_ok-main.field-0 c.in-Some.main c.in-Some.is (c.in_ok-main.ensures c.args.packages.now) in
    let mean = plans_mean c.args.followed.now t c.args.tables.now.facts.now h ms c.requires.read pieces c.requires.followed.followed c.in-Some.main obeys in
    let may = may_be_whole c.args.followed.now t c.args.tables.now.facts.now h ms c.requires.read pieces c.requires.followed.followed c.in-Some.main obeys in
    if_ok c.built.result (λ x. IsBuiltOf t c.args.packages.now (home_at h) c.in-Some.main ms x.0 x.1.0) (λ x. length x.0.types.items ≤ length t.shapes)
    (λ x is. few_in_package t c.args.packages.now (home_at h) c.in-Some.main ms x.0 x.1.0 is (package_of_pieces pieces) mean may.fall) c.built.ensures.built

pub returns-in_ok-cause_among-in-None-clause-absent : goal.returns-in_ok-cause_among-in-None-clause-absent
returns-in_ok-cause_among-in-None-clause-absent c = λ pieces followed.
    let t = numbered_tables c.args.tables.now in
    let h = homes_in c.args.packages.now c.args.homes.now in
    let ms = c.args.members.now in
    no_package c.args.followed.now t c.args.tables.now.facts.now h ms c.requires.read pieces followed
    (none_is t h (known_in c.args.tables.now) ms ms refl c.in_ok-main.field-0 c.in-None.is (c.in_ok-main.ensures c.args.packages.now))
