use Rattle.std.proofs.Common.{◌∙◌, sym}
use Rattle.wit_text.specs.Items.{key_test}
use Rattle.wit_text.proofs.Keys.{added_last}
use Rattle.wit_text.proofs.parts.add_new.Goals as goal

pub returns-clause-ok : goal.returns-clause-ok
returns-clause-ok c =
    c.in_ok-insert.ensures.entries
    ∙ added_last key_test c.args.entries.now c.args.key c.args.item c.in_ok-insert.field-0 c.in_ok-insert.ensures.old (sym c.is_some.ensures ∙
    c.if-is_some.false)
