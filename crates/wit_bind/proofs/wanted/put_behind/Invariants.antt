use Rattle.bind_keys.specs.{KeyLists.member_entries, Tables.Stands}
use Rattle.wit_bind.specs.{Choices.choice_of}
use Rattle.wit_bind.proofs.Putting.{IsLeft}
use Rattle.wit_bind.proofs.wanted.put_behind.Given as goal

-- the text before them has its number, and the functions that are left still have to be put
abbrev pub invariant-loop-name : goal.invariant-loop-name
invariant-loop-name l = Stands l.table.fronts l.front
    × IsLeft (member_entries l.resolve (choice_of l.resolve l.wanted) l.scope l.functions.entries) (member_entries l.resolve (choice_of l.resolve l.wanted) l.scope l.name-iterator)
    l.fn.table.encodings l.table.encodings
