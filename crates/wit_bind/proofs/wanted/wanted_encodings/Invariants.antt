use Rattle.std.specs.FinMap.{empty}
use Rattle.bind_keys.specs.{KeyLists.entries_of_items}
use Rattle.wit_bind.specs.{Choices.choice_of}
use Rattle.wit_bind.proofs.Putting.{IsLeft}
use Rattle.wit_bind.proofs.wanted.wanted_encodings.Given as goal

-- the items that are left still have to be put
abbrev pub invariant-loop-key : goal.invariant-loop-key
invariant-loop-key l = IsLeft (entries_of_items l.resolve (choice_of l.resolve l.wanted) l.items.entries) (entries_of_items l.resolve (choice_of l.resolve l.wanted) l.key-iterator) empty
    l.table.encodings
