use Rattle.std.proofs.Common.{rules, sym, subst, ◌≡◌, ◌∙◌, [], map}
use Rattle.wit_model.specs.declared.model.InterfaceId.{InterfaceId}
use Rattle.wit_model.specs.Uses.{direct_deps}
use Rattle.encode_shown.specs.Views.{AreReached}
use Rattle.encode_reach.specs.Walk.{listed_at_end, visits}
use Rattle.encode_reach.proofs.{Steps.visits-found, InOrder.in-order}
use Rattle.encode_reach.proofs.reach.interfaces_reached.Goals as goal

order : goal.returns-clause-order
order c =
    let r = c.args.resolve.now in
    let n = c.args.interface.0 in
    let used = c.in_ok-used.used.items in
    let uses : map (λ (i : InterfaceId). i.0) used ≡ direct_deps r n = search rules in
    let found : map (λ (i : InterfaceId). i.0) c.in_ok-interfaces_of.field-0.items ≡ listed_at_end r (visits used) [] = search rules in
    found ∙ visits-found r c.requires n used uses

pub returns-clause-order : goal.returns-clause-order
returns-clause-order c = order c

pub returns-clause-reached : goal.returns-clause-reached
returns-clause-reached c = subst (AreReached c.args.resolve.now c.args.interface.0) (sym (order c)) (in-order c.args.resolve.now c.requires c.args.interface.0)
