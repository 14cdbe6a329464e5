use Rattle.std.proofs.Common.{◌≡◌, length, drop}
use Rattle.wit_model.specs.Types.{grow}
use Rattle.compat_meaning.specs.Walk.{head_of, heads_of}
use Rattle.compat_meaning.proofs.follow.heads.Given as goal

-- what is left makes the rest of the table
abbrev pub invariant-loop-def : goal.invariant-loop-def
invariant-loop-def l = (length l.heads.items ≡ l.def-index) × (grow head_of l.heads.items (drop l.def-index l.resolve.types.items) ≡ heads_of l.resolve)
