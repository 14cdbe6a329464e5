use Rattle.std.proofs.Common.{◌≡◌, true, map, take}
use Rattle.std.specs.{List.list_all, Str.is_utf8}
use Rattle.witc_read.specs.Packages.{bytes_of}
use Rattle.witc_read.proofs.packages.texts_of.Given as goal

-- those that came are UTF-8, and are found
abbrev pub invariant-loop-number : goal.invariant-loop-number
invariant-loop-number l = (map (λ t. t.now) l.found.items ≡ bytes_of (take l.number l.texts)) × (list_all is_utf8 (bytes_of (take l.number l.texts)) ≡ true)
