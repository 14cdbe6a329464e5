use Rattle.std.proofs.Common.{take}
use Rattle.text_names.specs.Tables.{AddsItems}
use Rattle.text_names.proofs.sources.Sources.add_items.Given as goal

-- the items so far are added
abbrev pub invariant-loop-item : goal.invariant-loop-item
invariant-loop-item l = AddsItems l.initial.self l.self l.home l.number (take l.item-index l.items.items)
