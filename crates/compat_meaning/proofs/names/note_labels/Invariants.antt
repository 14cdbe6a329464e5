use Rattle.std.proofs.Common.{◌≡◌, ℕ}
use Rattle.std.specs.Option.{option_or}
use Rattle.compat_meaning.specs.{Opened.label_among, Outline.label_noted}
use Rattle.compat_meaning.proofs.names.note_labels.Given as goal

-- what is noted, and what is left
abbrev pub invariant-loop-key : goal.invariant-loop-key
invariant-loop-key l = (n : ℕ) → option_or (label_noted n l.labels.entries) (label_among n l.key-iterator) ≡ option_or (label_noted n l.fn.labels.entries) (label_among n l.items.entries)
