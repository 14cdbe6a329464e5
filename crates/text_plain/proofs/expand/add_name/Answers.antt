use Rattle.std.proofs.Common.{◌∙◌, sym}
use Rattle.text_plain.proofs.ExpandLaws.{name_added, own_cut}
use Rattle.text_plain.proofs.MapLaws.{entry_put}
use Rattle.text_plain.proofs.ScopeLaws.{span_copied}
use Rattle.text_plain.proofs.expand.add_name.Goals as goal

pub returns-in-None : goal.returns-in-None
returns-in-None c = name_added c.args.place.now.whole.now c.args.place.now.from.now c.args.table.now.entries c.insert.new.self.entries c.cut.result c.copy_span-own.result c.args.used.now
    (entry_put _ c.args.table.now c.cut.result c.copy_span-own.result c.insert.new.self.entries c.in_ok-insert.ensures.entries (sym c.in_ok-insert.ensures.old ∙ c.in-None.is))
    (c.cut.ensures ∙ span_copied c.args.place.now _ _ c.moving_at-moving.result c.moving_at-moving.ensures c.args.used.now.other c.copy_span-other.result c.copy_span-other.ensures)
    (span_copied c.args.place.now _ _ c.moving_at-moving.result c.moving_at-moving.ensures c.unwrap_or.result c.copy_span-own.result c.copy_span-own.ensures
    ∙ own_cut c.args.place.now.from.now c.args.used.now.own c.args.used.now.other c.unwrap_or.result c.unwrap_or.ensures)
