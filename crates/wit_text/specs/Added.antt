-- What is refused where a key is taken.
use Rattle.std.specs.Prelude.{◌≡◌, true, Bool, ℕ}
use Rattle.text_names.specs.declared.error.Fault.{Fault}
use Rattle.text_names.specs.declared.error.Fault.TheVariants as fault
use Rattle.text_names.specs.declared.error.Why.TheVariants as why
use Rattle.text_trees.specs.declared.tree.Span.{Span}

-- The key is taken, and the text of this number is refused for it at the place; else it is want of memory.
abbrev pub IsTwice : Bool → ℕ → Span → Fault → Type 0
IsTwice taken number at fault.Memory = Unit {0}
IsTwice taken number at fault.Size = ⊥
IsTwice taken number at (fault.Refused refused) = (taken ≡ true) × (refused.text ≡ number) × (refused.at ≡ at) × (refused.why ≡ why.Twice)
IsTwice taken number at (fault.Broken rule list n) = ⊥
