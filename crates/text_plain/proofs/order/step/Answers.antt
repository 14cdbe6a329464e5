use Rattle.std.proofs.Common.{rules as std_rules, refl, ap, ◌∙◌, ◌++◌, ◌∷◌, [], arith}
use Rattle.text_plain.proofs.WalkLaws.{number_within, need_within, leaves, closes, goes_on, goes_in}
use Rattle.text_plain.proofs.WalkLaws as laws
use Rattle.text_plain.proofs.order.step.Goals as goal

pub bounds-needs-number : goal.bounds-needs-number
bounds-needs-number c = number_within c.args.needs.now c.requires.within c.args.walk.now.states.items c.args.walk.now.path.items c.args.walk.now.done.items c.args.number c.args.at c.requires.walks

pub index-requires : goal.index-requires
index-requires c =
    let below = need_within c.args.needs.now c.requires.within c.args.walk.now.states.items c.args.walk.now.path.items c.args.walk.now.done.items c.args.number c.args.at c.requires.walks
    c.index-needs-number.result c.index-needs-number.is c.index-need.result.now (omega arith) c.index-need.ensures in
    omega (arith, below)

pub enter-requires : goal.enter-requires
enter-requires c = need_within c.args.needs.now c.requires.within c.args.walk.now.states.items c.args.walk.now.path.items c.args.walk.now.done.items c.args.number c.args.at c.requires.walks
    c.index-needs-number.result c.index-needs-number.is c.index-need.result.now (omega arith) c.index-need.ensures

pub leave-requires : goal.leave-requires
leave-requires c = laws.last_within _ c.args.walk.now.states.items c.args.walk.now.path.items c.args.walk.now.done.items c.args.number c.args.at c.requires.walks

pub returns-in-Open : goal.returns-in-Open
returns-in-Open c = closes c.args.needs.now c.requires.within c.args.walk.now.states.items c.args.walk.now.path.items c.args.walk.now.done.items c.args.number c.args.at c.requires.walks
    c.index-needs-number.result c.index-needs-number.is c.index-need.result.now (omega arith) c.index-need.ensures c.index.result.now c.index.ensures c.in-Open.is

pub returns-in_ok-push-in-Done : goal.returns-in_ok-push-in-Done
returns-in_ok-push-in-Done c = goes_on c.args.needs.now c.requires.within c.args.walk.now.states.items c.args.walk.now.path.items c.args.walk.now.done.items c.args.number c.args.at c.requires.walks
    c.index-needs-number.result c.index-needs-number.is c.index-need.result.now (omega arith) c.index-need.ensures c.index.result.now c.index.ensures c.in-Done.is
    (record { states = c.args.walk.now.states; path = c.push.new.self; done = c.args.walk.now.done }) refl (search std_rules) refl

pub returns-in_ok-enter-in-New : goal.returns-in_ok-enter-in-New
returns-in_ok-enter-in-New c = goes_in c.args.needs.now c.requires.within c.args.walk.now.states.items c.args.walk.now.path.items c.args.walk.now.done.items c.args.number c.args.at c.requires.walks
    c.index-needs-number.result c.index-needs-number.is c.index-need.result.now (omega arith) c.index-need.ensures c.index.result.now c.index.ensures c.in-New.is
    c.enter.new.walk c.in_ok-enter-in-New.ensures.states (c.in_ok-enter-in-New.ensures.path ∙ ap (λ xs. xs ++ (c.index-need.result.now.number, 0) ∷ []) c.in_ok-push-in-New.ensures.items)
    c.in_ok-enter-in-New.ensures.done

pub returns-in_ok-leave : goal.returns-in_ok-leave
returns-in_ok-leave c = leaves c.args.needs.now c.requires.within c.args.walk.now.states.items c.args.walk.now.path.items c.args.walk.now.done.items c.args.number c.args.at c.requires.walks
    c.index-needs-number.result c.index-needs-number.is c.leave.new.walk (omega arith) c.in_ok-leave.ensures.states c.in_ok-leave.ensures.path c.in_ok-leave.ensures.done
