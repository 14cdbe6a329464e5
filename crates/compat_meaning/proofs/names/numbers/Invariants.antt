use Rattle.std.proofs.Common.{◌≡◌, map, take, Some}
use Rattle.compat_meaning.specs.Numbered.{number_in}
use Rattle.wit_model.specs.Text.{text_of}
use Rattle.compat_meaning.proofs.names.numbers.Given as goal

-- the numbers so far
abbrev pub invariant-loop-text : goal.invariant-loop-text
invariant-loop-text l = map (number_in l.keys.keys) (map text_of (take l.text-index l.texts)) ≡ map Some l.numbers.items
