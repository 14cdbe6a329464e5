use Rattle.std.proofs.Common.{sym, ◌∙◌}
use Rattle.wit_compat.proofs.Declared.{alias_apart, apart_alias}
use Rattle.wit_compat.proofs.declarations.look_at_both.Goals as goal

pub returns-in-None-alias_of : goal.returns-in-None-alias_of
returns-in-None-alias_of c = alias_apart c.args.a.now c.args.b.now c.in-Some.target (sym c.alias_of.ensures ∙ c.in-Some.is) (sym c.alias_of-in-Some.ensures ∙ c.in-None-alias_of.is)

pub returns-in-Some-alias_of-2 : goal.returns-in-Some-alias_of-2
returns-in-Some-alias_of-2 c = apart_alias c.args.a.now c.args.b.now _ (sym c.alias_of.ensures ∙ c.in-None.is) (sym c.alias_of-in-None.ensures ∙ c.in-Some-alias_of-2.is)
