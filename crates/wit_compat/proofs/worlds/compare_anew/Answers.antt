use Rattle.std.proofs.Common.{rules, ◌≡◌, subst, is_ok, ◌++◌, [], List}
use Rattle.compat_meaning.specs.{Walk.Pair, Walk.pairs_of_worlds, Table.AreReached}
use Rattle.compat_meaning.proofs.{Validity.layered}
use Rattle.wit_compat.proofs.{Counting.counted, Counting.ok_holds}
use Rattle.wit_compat.proofs.worlds.compare_anew.Goals as goal

pub returns-clause-counted : goal.returns-clause-counted
returns-clause-counted c =
    let r = c.args.resolve.now in
    let e = c.compare_contents-compared in
    let empty : c.new-pairs.result.keys ≡ [] = search rules in
    counted r (layered r c.requires.valid) c.args.prev.now c.args.new.now e.new.pairs.keys e.new.steps.count (is_ok e.result) c.len-len.ensures.unique
    (subst (λ (x : List Pair). AreReached r (x ++ pairs_of_worlds r c.args.prev.now c.args.new.now) e.new.pairs.keys) empty e.ensures.reached) e.ensures.counted
    (λ b. (ok_holds e.result b e.ensures.settled, ok_holds e.result b e.ensures.holds))
