use Rattle.std.proofs.Common.{sym, subst, ◌∙◌}
use Rattle.std.specs.List.{Contains}
use Rattle.compat_meaning.proofs.Sided.{inserted, remembered}
use Rattle.wit_compat.proofs.sense.remember.Goals as goal

pub returns-in_ok-insert-in-Some-number_of : goal.returns-in_ok-insert-in-Some-number_of
returns-in_ok-insert-in-Some-number_of c = remembered c.args.left.now.resolve.now c.args.right.now.resolve.now c.args.a c.args.b c.args.pairs.now.keys c.insert.new.self.keys c.in-Some.a
    c.in-Some-number_of.b (sym c.number_of.ensures ∙ c.in-Some.is) (sym c.number_of-in-Some.ensures ∙ c.in-Some-number_of.is) c.requires.same c.requires.pairs
    (λ p d. inserted _ c.args.pairs.now.keys (c.in-Some.a, c.in-Some-number_of.b) p (subst (λ ks. Contains ks p) c.in_ok-insert-in-Some-number_of.ensures.keys d))
