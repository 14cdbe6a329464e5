use Rattle.std.proofs.Common.{◌≡◌, map, take}
use Rattle.read_rules.specs.Scopes.{numbered_seen}
use Rattle.read_numbers.specs.{ImportParts.part_followed, ImportParts.part_seen, NumberedParts.numbered_seen as followed_seen, OwnedViews.owned_view}
use Rattle.read_numbers.proofs.scopes.seen_of.Given as goal

abbrev pub invariant-loop-one : goal.invariant-loop-one
invariant-loop-one l = (map numbered_seen l.all.items ≡ map (followed_seen l.places (map owned_view l.views)) (take l.one-index l.seen))
    × (map part_seen l.all.items ≡ map part_followed (take l.one-index l.seen))
