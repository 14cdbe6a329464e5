use Rattle.std.proofs.Common.{◌≡◌, ◌++◌, map}
use Rattle.compat_meaning.specs.{Flat.type_member, Parts.numbered_thing, Parts.with_number}
use Rattle.wit_compat.proofs.things.push_types.Given as goal

-- what is there, and what is left
abbrev pub invariant-loop-name : goal.invariant-loop-name
invariant-loop-name l = map numbered_thing l.entries.items ++ map (with_number l.key.number) (map (type_member l.key.text.now) l.name-iterator)
    ≡ map numbered_thing l.fn.entries.items ++ map (with_number l.key.number) (map (type_member l.key.text.now) l.types.entries)
