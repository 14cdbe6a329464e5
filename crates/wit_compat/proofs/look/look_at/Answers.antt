use Rattle.std.proofs.Common.{sym, ◌∙◌}
use Rattle.compat_meaning.proofs.Sided.{never, number_apart, primitive_exact}
use Rattle.wit_compat.proofs.look.look_at.Goals as goal

pub returns-in-None-number_of : goal.returns-in-None-number_of
returns-in-None-number_of c = never _ (number_apart c.args.left.now.resolve.now c.args.right.now.resolve.now c.requires.left.valid c.requires.right.valid c.args.a c.args.b c.in-Some.prev
    (sym c.number_of.ensures ∙ c.in-Some.is) c.requires.a (sym c.number_of-in-Some.ensures ∙ c.in-None-number_of.is))

pub returns-in-None : goal.returns-in-None
returns-in-None c = primitive_exact c.args.left.now.resolve.now c.args.right.now.resolve.now c.requires.left.valid c.requires.right.valid c.args.a c.args.b c.is_same.result c.is_same.ensures.same
    c.is_same.ensures.differ (sym c.number_of.ensures ∙ c.in-None.is) c.requires.b
