-- Which faults a call answers.
use Rattle.text_plain.specs.declared.error.Fault.{Fault}
use Rattle.text_plain.specs.declared.error.Fault.TheVariants.{Memory, Size, Refused}

-- It is want of memory, or there is too much of something.
abbrev pub IsMemoryOrSize : Fault → Type 0
IsMemoryOrSize Memory = Unit {0}
IsMemoryOrSize Size = Unit {0}
IsMemoryOrSize (Refused r) = ⊥
