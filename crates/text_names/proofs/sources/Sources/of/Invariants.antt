use Rattle.std.proofs.Common.{◌≡◌, take}
use Rattle.text_names.specs.Contents.{all_heads, all_items, all_mains}
use Rattle.text_names.specs.Tables.{Declares, IsIndex}
use Rattle.text_names.proofs.sources.Sources.of.Given as goal

-- what the texts so far declare is declared
abbrev pub invariant-loop-number : goal.invariant-loop-number
invariant-loop-number l = IsIndex l.sources × (l.sources.texts.now ≡ l.texts)
    × Declares l.sources (all_heads (take l.number l.texts)) (all_items (take l.number l.texts)) (all_mains (take l.number l.texts))
