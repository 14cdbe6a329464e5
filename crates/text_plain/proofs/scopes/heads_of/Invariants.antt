use Rattle.std.proofs.Common.{map, take}
use Rattle.text_plain.specs.Places.{placed_of}
use Rattle.text_plain.specs.Scopes.{AreHeadsOf}
use Rattle.text_plain.proofs.scopes.heads_of.Given as goal

-- the names of the texts so far stand in the table
abbrev pub invariant-loop-it : goal.invariant-loop-it
invariant-loop-it l = AreHeadsOf l.whole (map placed_of (take l.it-index l.texts)) l.heads.entries
