-- What is told of a file's kind.
use Rattle.std.specs.Prelude.{◌≡◌, ℕ, Bool, true, false, ◌||◌, nat_lt, List}
use Rattle.teasel_texts.specs.declared.input.Input.{Input}
use Rattle.teasel_messages.specs.Looks.{begins_as_component, begins_as_module}
use Rattle.witc_alike.specs.Kinds.{AreKinds}

-- Something is known of bytes: they mean a package or one world, or are a module that binds something; or they begin as a core module or a component does.
abbrev pub is_known_by : ℕ → List ℕ → Bool
is_known_by sum bytes = nat_lt 0 sum || (begins_as_module bytes || begins_as_component bytes)

-- whether something is known of bytes, where these are all of a file; else nothing is
abbrev pub IsKnownOf : Bool → List ℕ → Bool → Type 0
IsKnownOf true bytes known = (sum : ℕ) × AreKinds bytes sum × (known ≡ is_known_by sum bytes)
IsKnownOf false bytes known = known ≡ false

-- whether a file's kind is known
abbrev pub IsKnown : Input → Bool → Type 0
IsKnown i known = IsKnownOf i.whole i.bytes.items known
