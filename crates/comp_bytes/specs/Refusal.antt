-- Why a writer refuses.
use Rattle.wit_model.specs.declared.error.Error.{Error}
use Rattle.wit_model.specs.declared.error.Error.TheVariants as errors

-- a refusal for want of memory or of room, and for nothing else
abbrev pub IsMemoryOrSize : Error → Type 0
IsMemoryOrSize errors.Memory = Unit {0}
IsMemoryOrSize errors.Size = Unit {0}
IsMemoryOrSize _ = ⊥
