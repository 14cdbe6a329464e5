use Rattle.std.proofs.Common.{sym, ap, ◌∙◌, length}
use Rattle.text_trees.specs.Seen.{text_of}
use Rattle.text_trees.proofs.Ahead.{byte_none, byte_some}
use Rattle.text_trees.proofs.front.byte_at.Goals as goal

pub returns-in-Some : goal.returns-in-Some
returns-in-Some c = sym (byte_some (text_of c.args.tokens.now) c.args.tokens.now.places.now c.args.at c.in-Some.place (sym c.place_at.ensures ∙ c.in-Some.is))

pub returns-in-None : goal.returns-in-None
returns-in-None c =
    ap length c.as_bytes.ensures.value ∙ sym (byte_none (text_of c.args.tokens.now) c.args.tokens.now.places.now c.args.at (sym c.place_at.ensures ∙ c.in-None.is))
