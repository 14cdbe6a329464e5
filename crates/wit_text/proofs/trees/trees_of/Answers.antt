use Rattle.std.proofs.Common.{arith, subst}
use Rattle.std.proofs.lemmas.List.{take_all}
use Rattle.wit_text.proofs.Refusing.{plain_trees, refuses_here, trees_more, TreesOf}
use Rattle.wit_text.proofs.trees.trees_of.Goals as goal

pub returns-in-Err-clause-err : goal.returns-in-Err-clause-err
returns-in-Err-clause-err c =
    refuses_here c.args.texts.now c.loop-number.number _ c.loop-number.trees.items (omega arith) c.loop-number.invariant c.in-Err.fault c.in-Err.ensures.err

pub loop-number-preserved : goal.loop-number-preserved
loop-number-preserved c =
    trees_more c.args.texts.now c.loop-number.number _ c.loop-number.trees.items c.push.new.self.items c.in-Ok.tree (omega arith) c.loop-number.invariant
    c.in-Ok.ensures.ok c.in_ok-push-in-Ok.ensures.items

pub returns-clause-ok : goal.returns-clause-ok
returns-clause-ok c =
    plain_trees c.args.texts.now c.loop-number.trees.items
    (subst (λ ts. TreesOf ts c.loop-number.trees.items) (take_all c.loop-number.number c.args.texts.now (omega arith)) c.loop-number.invariant)
