use Rattle.std.proofs.Common.{◌≡◌, true, length}
use Rattle.bind_carry.specs.Shown.{any_new, are_keys_below}
use Rattle.bind_unite.proofs.bound.has_new.Given as goal

-- none so far is new
abbrev pub invariant-loop-key : goal.invariant-loop-key
invariant-loop-key l = (are_keys_below (length l.interfaces) l.key-iterator ≡ true) × (any_new l.interfaces l.here.entries l.key-iterator ≡ any_new l.interfaces l.here.entries l.items.entries)
