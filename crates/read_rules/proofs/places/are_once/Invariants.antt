use Rattle.std.proofs.Common.{◌≡◌, ◌==◌, map, drop, []}
use Rattle.wit_model.proofs.Distinct.{adds_new}
use Rattle.read_rules.proofs.PlaceLaws.{itself}
use Rattle.read_rules.proofs.places.are_once.Given as goal

-- what is left decides, after the numbers that were seen
abbrev pub invariant-loop-place : goal.invariant-loop-place
invariant-loop-place l = adds_new ◌==◌ (map itself l.seen.keys) (drop l.place-index (map itself l.places)) ≡ adds_new ◌==◌ [] (map itself l.places)
