use Rattle.std.proofs.Common.{arith, ap, length, subst, List}
use Rattle.std.specs.List.{AllZip}
use Rattle.text_trees.specs.declared.tree.MemberTree.{MemberTree}
use Rattle.text_names.specs.Paths.{IsNeedOf, paths_of}
use Rattle.text_names.proofs.PathLaws.{all_needs_end, all_needs_turn, any_refused, needs_within}
use Rattle.text_names.proofs.needs.needs_of_interfaces.Goals as goal

pub returns-in-Err-clause-refuses : goal.returns-in-Err-clause-refuses
returns-in-Err-clause-refuses c = any_refused c.args.sources.now c.deref-interface-items.result.now c.loop-interface.interface-index c.interface-item.result c.as_slice-members.result.now
    c.in-Err.fault
    c.deref-interface-items.ensures.value c.loop-interface-test.true c.interface-item.is c.as_slice-members.ensures.value c.in-Err.ensures.refuses

pub loop-interface-preserved : goal.loop-interface-preserved
loop-interface-preserved c = all_needs_turn c.args.sources.now c.args.sources.now.interfaces.items c.loop-interface.interface-index c.interface-item.result
    (omega (arith, ap length c.deref-interface-items.ensures.value, c.loop-interface-test.true)) (cc (c.interface-item.is, c.deref-interface-items.ensures.value))
    c.loop-interface.all.items c.push.new.self.items c.in-Ok.needs c.loop-interface.invariant c.in_ok-push-in-Ok.ensures.items
    (subst (λ (l : List MemberTree). AllZip (IsNeedOf c.args.sources.now c.interface-item.result.text c.interface-item.result.«package») (paths_of l) c.in-Ok.needs.items)
    c.as_slice-members.ensures.value c.in-Ok.ensures.needs)

pub returns-clause-within : goal.returns-clause-within
returns-clause-within c = needs_within c.args.sources.now c.loop-interface.all.items
    (all_needs_end c.args.sources.now c.args.sources.now.interfaces.items c.loop-interface.interface-index c.loop-interface.all.items
    (omega (arith, ap length c.deref-interface-items.ensures.value, c.loop-interface-test.false)) c.loop-interface.invariant)
