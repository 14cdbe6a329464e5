use Rattle.text_plain.proofs.MapLaws.{absent, entry_put}
use Rattle.text_plain.proofs.WorldLaws.{put_first}
use Rattle.text_plain.proofs.worlds.number_first.Goals as goal

pub returns-in_ok-insert : goal.returns-in_ok-insert
returns-in_ok-insert c = put_first c.args.numbers.now.entries c.insert.new.self.entries c.args.key c.args.number
    (entry_put _ c.args.numbers.now c.args.key c.args.number c.insert.new.self.entries c.in_ok-insert.ensures.entries
    (absent _ c.contains_key.result c.contains_key.ensures c.if-not-contains_key.true))
