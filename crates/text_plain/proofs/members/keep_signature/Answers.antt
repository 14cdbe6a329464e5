use Rattle.std.proofs.Common.{◌∙◌}
use Rattle.text_trees.specs.TreesSeen.{signature_of}
use Rattle.base_lemmas.proofs.Options.{if_ok}
use Rattle.text_plain.specs.Moves.{text_from}
use Rattle.text_plain.proofs.Stays.{signature_stays}
use Rattle.text_plain.proofs.members.keep_signature.Goals as goal

pub returns : goal.returns
returns c = if_ok _ _ (λ r e. e ∙ signature_stays (signature_of (text_from c.args.moving.now) c.args.signature.now)) c.copy_signature.result c.copy_signature.ensures
