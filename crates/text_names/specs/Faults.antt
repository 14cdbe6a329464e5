-- Which faults a call answers.
use Rattle.text_names.specs.declared.error.Fault.{Fault}
use Rattle.text_names.specs.declared.error.Fault.TheVariants.{Memory, Size, Refused, Broken}

-- It is want of memory, or a text is too large, or there are too many of something.
abbrev pub IsMemoryOrSize : Fault → Type 0
IsMemoryOrSize Memory = Unit {0}
IsMemoryOrSize Size = Unit {0}
IsMemoryOrSize (Refused r) = ⊥
IsMemoryOrSize (Broken rule list number) = ⊥
