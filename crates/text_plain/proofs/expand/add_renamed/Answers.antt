use Rattle.base_lemmas.proofs.Options.{on_ok}
use Rattle.text_plain.proofs.ExpandLaws.{renamed_added}
use Rattle.text_plain.proofs.expand.add_renamed.Goals as goal

pub returns : goal.returns
returns c = on_ok c.add_all.result _ _ c.add_all.ensures
    (renamed_added c.args.whole.now c.args.table.now.entries c.args.home c.args.merged.now c.add_all.new.merged c.args.its.now c.moving_from-moving.result c.requires.same
    c.moving_from-moving.ensures)
