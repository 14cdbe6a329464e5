use Rattle.std.proofs.Common.{take}
use Rattle.std.specs.List.{flat_map}
use Rattle.text_plain.specs.Files.{GivesAll, IsFile}
use Rattle.text_plain.specs.Worlds.{scopes_in, worlds_of_scope}
use Rattle.text_plain.proofs.writing.files_of.Given as goal

-- the files so far are written out
abbrev pub invariant-loop-text : goal.invariant-loop-text
invariant-loop-text l = GivesAll l.whole (IsFile l.whole) (λ t. flat_map worlds_of_scope (scopes_in t)) (take l.text-index l.texts) l.files.items l.fn.queue.items l.queue.items
