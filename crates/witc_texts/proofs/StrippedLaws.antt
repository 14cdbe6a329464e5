-- What is left of a module.
use Rattle.std.proofs.Common.{◌≡◌, ℕ, List, subst, Option, Some, None, Vec}
use Rattle.std.specs.declared.alloc.Global.{Global}
use Rattle.wit_component.specs.Modules.{StripsModule}
use Rattle.witc_texts.specs.Stripped.{StripsBytes, StripsTo, stripped, whole}

-- the module without the sections that carry worlds
pub part-left : (bytes : List ℕ) (o : Option (Vec ℕ Global)) (kept : Vec ℕ Global) → o ≡ Some kept → StripsTo bytes o → StripsBytes bytes kept.items
part-left bytes o kept some is = record { bound = is.bound; binds = is.binds; leaves = stripped kept.items (subst (StripsModule bytes) some is.strips) }

-- the module as it is
pub whole-left : (bytes : List ℕ) (o : Option (Vec ℕ Global)) → o ≡ None → StripsTo bytes o → StripsBytes bytes bytes
whole-left bytes o none is = record { bound = is.bound; binds = is.binds; leaves = whole (subst (StripsModule bytes) none is.strips) }
