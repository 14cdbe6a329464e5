use Rattle.std.proofs.Common.{◌∙◌}
use Rattle.text_trees.specs.TreesSeen.{declared_of}
use Rattle.base_lemmas.proofs.Options.{if_ok}
use Rattle.text_plain.specs.Moves.{text_from}
use Rattle.text_plain.proofs.Stays.{declared_stays}
use Rattle.text_plain.proofs.members.keep_declared.Goals as goal

pub returns : goal.returns
returns c = if_ok _ _ (λ r e. e ∙ declared_stays (declared_of (text_from c.args.moving.now) c.args.declared.now)) c.copy_declared.result c.copy_declared.ensures
