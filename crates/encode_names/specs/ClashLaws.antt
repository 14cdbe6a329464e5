-- Laws of the canonical names that repeat.
use Rattle.std.specs.Prelude.{◌≡◌}
use Rattle.wit_model.specs.Text.{Text}
use Rattle.wit_model.specs.declared.model.{Resolve.Resolve, World.World}
use Rattle.encode_names.specs.Clashes.{HasNoClash, IsNameClash}

-- A world clashes at one name at most, and at none where it has no clash.
abbrev pub OneClash : Type 0
OneClash = (r : Resolve) (w : World) (x y : Text) → IsNameClash r w x → IsNameClash r w y → x ≡ y

abbrev pub NoClashWithout : Type 0
NoClashWithout = (r : Resolve) (w : World) (x : Text) → HasNoClash r w → IsNameClash r w x → ⊥
