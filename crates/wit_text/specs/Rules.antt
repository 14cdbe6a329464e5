-- What a broken rule says.
use Rattle.text_names.specs.declared.error.Fault.{Fault}
use Rattle.text_names.specs.declared.error.Fault.TheVariants as fault
use Rattle.wit_model.specs.Valid.{Breaks}
use Rattle.wit_model.specs.declared.model.Resolve.{Resolve}

-- A fault of a test of validity: the entry that it names breaks the rule that it names. Want of memory says nothing.
abbrev pub SaysBroken : Resolve → Fault → Type 0
SaysBroken resolve fault.Memory = Unit {0}
SaysBroken resolve fault.Size = ⊥
SaysBroken resolve (fault.Refused refused) = ⊥
SaysBroken resolve (fault.Broken rule list number) = Breaks resolve rule list number
