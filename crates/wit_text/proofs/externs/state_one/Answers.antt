use Rattle.std.proofs.Common.{◌∙◌, nat_eq, sym}
use Rattle.wit_text.proofs.Keys.{added_last}
use Rattle.wit_text.proofs.externs.state_one.Goals as goal

pub returns-clause-ok : goal.returns-clause-ok
returns-clause-ok c =
    c.in_ok-insert.ensures.entries
    ∙ added_last nat_eq c.args.stated.now c.args.interface c.args.prefix c.in_ok-insert.field-0 c.in_ok-insert.ensures.old (sym c.is_some.ensures ∙
    c.if-is_some.false)
