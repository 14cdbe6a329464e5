use Rattle.std.proofs.Common.{subst}
use Rattle.wit_text.specs.Refusals.{RefusesTree}
use Rattle.wit_text.proofs.trees.tree_at.Goals as goal

pub returns-in-Err-read_tree-clause-err : goal.returns-in-Err-read_tree-clause-err
returns-in-Err-read_tree-clause-err c =
    subst (λ n. RefusesTree n c.args.text.now c.fault_of.result) c.in-Ok.ensures (c.fault_of.ensures c.args.text.now c.in-Err-read_tree.ensures.err)
