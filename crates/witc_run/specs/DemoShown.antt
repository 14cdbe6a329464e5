-- The demo's package as text and as digits.
use Rattle.std.specs.Prelude.{◌≡◌, ℕ, false, List, []}
use Rattle.wit_model.specs.declared.model.Resolve.{Resolve}
use Rattle.wit_model.specs.Meant.{Meant}
use Rattle.comp_meaning.specs.Reads.{Reads}
use Rattle.wit_component.specs.{Built.IsBare, Packages.SpellsPackageAt}
use Rattle.witc_run.specs.{Demo.demo, Hex.hex_text}
use Rattle.witc_texts.specs.Printed.{IsTextOf}

-- The text is of a `Resolve` whose first package means the demo's, without documentation and with no stability known.
pub record IsDemoText (text : List ℕ) : Type 0 where
  pub resolve : Resolve
  pub means : Meant resolve 0 demo
  pub bare : IsBare resolve
  pub is_text : IsTextOf resolve (record { 0 = 0 }) [] text

-- The digits are of bytes that mean the demo's package, as the first package of such a `Resolve` is encoded: under whole names, each number spelled shortest.
pub record IsDemoDigits (text : List ℕ) : Type 0 where
  pub resolve : Resolve
  pub means : Meant resolve 0 demo
  pub bytes : List ℕ
  pub reads : Reads bytes demo
  pub spelled : SpellsPackageAt resolve false 0 bytes
  pub is_text : text ≡ hex_text bytes
