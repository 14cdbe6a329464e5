use Rattle.std.proofs.Common.{◌∙◌, ap, arith}
use Rattle.wit_text.specs.{Items.path_key, Puts.number_at}
use Rattle.wit_text.proofs.Keys.{put_last}
use Rattle.wit_text.proofs.walk.put_one.Goals as goal

pub returns : goal.returns
returns c = record {
  item = c.in_ok-item.item;
  declared = omega (arith, c.len.ensures);
  fronted = c.in_ok-item.ensures;
  grows =
      c.in_ok-insert.ensures.entries
      ∙ put_last (number_at c.args.walk.now.numbers.now c.args.interface) c.key_of.result c.in_ok-item.item c.args.entries.now
      (c.key_of.ensures ∙ ap path_key c.made_number.ensures) c.requires;
}
