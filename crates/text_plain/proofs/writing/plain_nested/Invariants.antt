use Rattle.std.proofs.Common.{take}
use Rattle.text_plain.specs.Files.{GivesAll, IsPackage}
use Rattle.text_plain.specs.Worlds.{worlds_of_scope}
use Rattle.text_plain.proofs.writing.plain_nested.Given as goal

-- the packages so far are written out
abbrev pub invariant-loop-scope : goal.invariant-loop-scope
invariant-loop-scope l = GivesAll l.whole (IsPackage l.whole) worlds_of_scope (take l.scope-index l.scopes) l.packages.items l.fn.queue.items l.queue.items
