use Rattle.std.proofs.Common.{◌≡◌, sym, subst, true, IfOk}
use Rattle.compat_meaning.specs.{Parts.thing_of, Walk.pairs_between, Table.AreAmong}
use Rattle.wit_compat.proofs.included.same_sides.Goals as goal

pub returns-then-back-clause-holds : goal.returns-then-back-clause-holds
returns-then-back-clause-holds c = subst (λ x. IfOk c.same_parts.result
    (λ b. b ≡ true → AreAmong (pairs_between c.args.resolve.now x (thing_of c.args.small) (thing_of c.args.large)) c.same_parts.new.pairs.keys)) (sym c.if-back.true) c.same_parts.ensures.holds

pub returns-else-back-clause-holds : goal.returns-else-back-clause-holds
returns-else-back-clause-holds c = subst (λ x. IfOk c.same_parts-else-back.result (λ b. b ≡ true → AreAmong (pairs_between c.args.resolve.now x (thing_of c.args.small) (thing_of c.args.large))
    c.same_parts-else-back.new.pairs.keys)) (sym c.if-back.false) c.same_parts-else-back.ensures.holds
