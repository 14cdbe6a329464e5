use Rattle.std.proofs.Common.{map, take}
use Rattle.std.specs.List.{AllZip}
use Rattle.text_plain.specs.Places.{placed_of}
use Rattle.text_plain.specs.Scopes.{IsTextScope}
use Rattle.text_plain.proofs.scopes.scopes_of.Given as goal

-- the scopes are those of the texts so far
abbrev pub invariant-loop-it : goal.invariant-loop-it
invariant-loop-it l = AllZip (IsTextScope (map placed_of l.texts) l.whole) (map placed_of (take l.it-index l.texts)) l.scopes.items
