use Rattle.std.proofs.Common.{◌≡◌, map, take}
use Rattle.compat_meaning.specs.Outline.{names_from}
use Rattle.wit_model.specs.Text.{text_of}
use Rattle.compat_meaning.proofs.names.interface_names.Given as goal

-- the names so far
abbrev pub invariant-loop-number : goal.invariant-loop-number
invariant-loop-number l = map text_of l.names.items ≡ names_from l.resolve 0 (take l.number l.resolve.interfaces.items)
