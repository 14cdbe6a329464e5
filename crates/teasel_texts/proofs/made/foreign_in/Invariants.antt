use Rattle.std.proofs.Common.{◌≡◌, false, take}
use Rattle.std.specs.List.{list_any}
use Rattle.teasel_texts.specs.Made.{is_foreign}
use Rattle.teasel_texts.proofs.made.foreign_in.Given as goal

abbrev pub invariant-loop-text : goal.invariant-loop-text
invariant-loop-text l = list_any is_foreign (take l.text-index l.texts) ≡ false
