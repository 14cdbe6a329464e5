use Rattle.std.proofs.Common.{◌≡◌, ℕ, flat_map, take}
use Rattle.compat_meaning.specs.{Opened.entries_of_world, Opened.label_among, Outline.label_noted}
use Rattle.compat_meaning.proofs.names.labels.Given as goal

-- the labels in the worlds so far
abbrev pub invariant-loop-world : goal.invariant-loop-world
invariant-loop-world l = (n : ℕ) → label_noted n l.labels.entries ≡ label_among n (flat_map entries_of_world (take l.world-index l.resolve.worlds.items))
