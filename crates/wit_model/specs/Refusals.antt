-- What a call refuses with that only wants memory.
use Rattle.std.specs.Prelude.{◌≡◌}
use Rattle.wit_model.specs.declared.error.{Error.Error, Error.TheVariants.Memory}

-- only want of memory
abbrev pub IsMemory : Error → Type 0
IsMemory e = e ≡ Memory
