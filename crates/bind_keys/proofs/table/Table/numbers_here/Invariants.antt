use Rattle.std.proofs.Common.{◌≡◌, ◌++◌, map}
use Rattle.wit_model.specs.Text.{text_of}
use Rattle.bind_keys.specs.Tables.{numbers_among}
use Rattle.bind_keys.proofs.table.Table.numbers_here.Given as goal

-- with the numbers of the texts that are left come all
abbrev pub invariant-loop-text : goal.invariant-loop-text
invariant-loop-text l = l.numbers.items ++ numbers_among l.self.fronts (map text_of l.text-iterator) ≡ numbers_among l.self.fronts l.other.fronts
