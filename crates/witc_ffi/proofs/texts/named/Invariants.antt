use Rattle.std.proofs.Common.{◌≡◌, true, take}
use Rattle.std.specs.{List.list_all, Str.is_utf8}
use Rattle.witc_read.specs.{Packages.bytes_of, Places.names_of}
use Rattle.witc_ffi.specs.Texts.{bytes_in, names_in}
use Rattle.witc_ffi.proofs.texts.named.Given as goal

-- those that came have names that are UTF-8, and are found
abbrev pub invariant-loop-number : goal.invariant-loop-number
invariant-loop-number l =
    (names_of l.found.items ≡ names_in (take l.number l.texts)) × (bytes_of l.found.items ≡ bytes_in (take l.number l.texts))
    × (list_all is_utf8 (names_in (take l.number l.texts)) ≡ true)
