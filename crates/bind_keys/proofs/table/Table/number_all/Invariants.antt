use Rattle.std.proofs.Common.{◌≡◌, ◌++◌, map, List, Some}
use Rattle.wit_model.specs.Text.{Text, text_of}
use Rattle.bind_keys.specs.Tables.{numbers_among}
use Rattle.bind_keys.proofs.table.Table.number_all.Given as goal

-- the texts that came have these numbers
abbrev pub invariant-loop-text : goal.invariant-loop-text
invariant-loop-text l = (l.self.encodings ≡ l.fn.self.encodings) × ((done : List Text) × (map text_of l.texts.keys ≡ done ++ map text_of l.text-iterator)
    × (map Some l.numbers.items ≡ numbers_among l.self.fronts done))
