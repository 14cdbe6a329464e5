-- The text, the JSON or the bytes of a package, a world or a core module.
use Rattle.std.specs.Prelude.{◌≡◌, ℕ, Bool, true, false, List, [], Option, Some, None, Vec}
use Rattle.std.specs.declared.alloc.Global.{Global}
use Rattle.wit_component.specs.{DecodedWorlds.RefusesWorldBytes}
use Rattle.wit_component.specs.Decoded.{IsDecoded, MeansNothing, RefusesBytes}
use Rattle.wit_model.specs.Refusals.{IsMemory}
use Rattle.wit_model.specs.declared.{error.Error.Error, model.Resolve.Resolve}
use Rattle.teasel_answers.specs.Checks.{RefusesModule}
use Rattle.teasel_answers.specs.declared.forms.Form.{Form}
use Rattle.teasel_answers.specs.declared.forms.Form.TheVariants as forms
use Rattle.teasel_texts.specs.declared.input.{Input.Input, Read.Read}
use Rattle.teasel_messages.specs.{Looks.begins_as_module, Reasons.is_memory}
use Rattle.teasel_words.specs.declared.choices.Kind.{Kind}
use Rattle.teasel_words.specs.declared.choices.Kind.TheVariants as kinds
use Rattle.witc_listed.specs.Listings.{ListsModule, ListsPackage, ListsWorld}
use Rattle.witc_texts.specs.{Bindings.PrintsModule, Printed.IsTextOf, Printed.PrintsBytes}
use Rattle.witc_within.specs.Within.{TextWithin}
use Rattle.witc_within.specs.declared.texts.Within.{Within}
use Rattle.witc_within.specs.declared.texts.Within.TheVariants as within
use Rattle.witc_written.specs.{Worlds.EncodesWorld, Worlds.PrintsWorld, Worlds.RefusesEncodedWorld}
use Rattle.witc_written.specs.Written.{EncodesModule, EncodesPackage, RefusesEncoded, RefusesEncodedModule}

-- this is made, of which that is true
abbrev pub IsMade : (List ℕ → Type 0) → Within → Type 0
IsMade Is (within.Text t) = Is t.items
IsMade Is within.Beyond = ⊥

-- what is made of the package that bytes mean: its text, within the bound; its listing; or its bytes, anew
abbrev pub MakesPackage : Form → List ℕ → Within → Type 0
MakesPackage (forms.Text most) bytes = TextWithin (PrintsBytes bytes) most
MakesPackage forms.Json bytes = IsMade (ListsPackage bytes)
MakesPackage forms.Wasm bytes = IsMade (EncodesPackage bytes false)

-- the same of the one world that bytes mean
abbrev pub MakesWorld : Form → List ℕ → Within → Type 0
MakesWorld (forms.Text most) bytes = TextWithin (PrintsWorld bytes) most
MakesWorld forms.Json bytes = IsMade (ListsWorld bytes)
MakesWorld forms.Wasm bytes = IsMade (EncodesWorld bytes)

-- the same of what a core module binds
abbrev pub MakesModule : Form → List ℕ → Within → Type 0
MakesModule (forms.Text most) bytes = TextWithin (PrintsModule bytes) most
MakesModule forms.Json bytes = IsMade (ListsModule bytes)
MakesModule forms.Wasm bytes = IsMade (EncodesModule bytes)

-- What is made of bytes whose kind isn't said: of a core module, where they begin as one; else of a package, where they mean one; else of one world.
pub data MakesFound (form : Form) (bytes : List ℕ) (w : Within) : Type 0 where
  of_module : begins_as_module bytes ≡ true → MakesModule form bytes w → MakesFound form bytes w
  of_package : begins_as_module bytes ≡ false → MakesPackage form bytes w → MakesFound form bytes w
  of_world : begins_as_module bytes ≡ false → MeansNothing bytes → MakesWorld form bytes w → MakesFound form bytes w

-- the same of bytes whose kind is said, or found
abbrev pub MakesShown : Form → Option Kind → List ℕ → Within → Type 0
MakesShown form (Some kinds.Package) bytes = MakesPackage form bytes
MakesShown form (Some kinds.World) bytes = MakesWorld form bytes
MakesShown form (Some kinds.Module) bytes = MakesModule form bytes
MakesShown form None bytes = MakesFound form bytes

-- the text of a package within the bound: in the place of texts, of the package that they were read as, with no others nested; else as of bytes
abbrev pub MakesText : ℕ → Option Kind → List ℕ → Option Read → Within → Type 0
MakesText most kind bytes None = MakesShown (forms.Text most) kind bytes
MakesText most kind bytes (Some r) = TextWithin (IsTextOf r.resolve r.main []) most

-- what is made of an input whose kind is said, or found: all but the text of a package is made of the bytes
abbrev pub MakesInput : Form → Option Kind → Input → Within → Type 0
MakesInput (forms.Text most) None i = MakesText most None i.bytes.items i.read
MakesInput (forms.Text most) (Some kinds.Package) i = MakesText most (Some kinds.Package) i.bytes.items i.read
MakesInput form kind i = MakesShown form kind i.bytes.items

-- The input is all of its file, and this is made of it, within the bound.
pub record Shows (form : Form) (kind : Option Kind) (i : Input) (made : Vec ℕ Global) : Type 0 where
  pub whole : i.whole ≡ true
  pub is : MakesInput form kind i (within.Text made)

-- ---- why nothing is made

-- what a package's bytes are refused for, in each form
abbrev pub RefusesPackage : Form → List ℕ → Error → Type 0
RefusesPackage forms.Wasm bytes = RefusesEncoded bytes false
RefusesPackage _ bytes = RefusesBytes bytes

-- the same of one world's bytes
abbrev pub RefusesWorld : Form → List ℕ → Error → Type 0
RefusesWorld forms.Wasm bytes = RefusesEncodedWorld bytes
RefusesWorld _ bytes = RefusesWorldBytes bytes

-- the same of a core module's
abbrev pub RefusesBound : Form → List ℕ → Error → Type 0
RefusesBound forms.Wasm bytes = RefusesEncodedModule bytes
RefusesBound _ bytes = RefusesModule bytes

-- One world's bytes are refused so, or for a reason that isn't told, which isn't want of memory where this isn't.
abbrev pub RefusesWorldFor : Form → List ℕ → Error → Type 0
RefusesWorldFor form bytes e = (of_world : Error) × RefusesWorld form bytes of_world × (is_memory e ≡ false → is_memory of_world ≡ false)

-- Bytes mean no package; or they mean one.
abbrev pub DecidesPackage : List ℕ → Bool → Type 0
DecidesPackage bytes true = MeansNothing bytes
DecidesPackage bytes false = (r : Resolve) × (n : ℕ) × IsDecoded bytes r n

-- Bytes mean a package, and are refused as one; or they mean none, and are refused as one world.
pub data RefusesComponent (form : Form) (bytes : List ℕ) (e : Error) : Type 0 where
  as_package : DecidesPackage bytes false → RefusesPackage form bytes e → RefusesComponent form bytes e
  as_world : MeansNothing bytes → RefusesWorldFor form bytes e → RefusesComponent form bytes e

-- The same of bytes whose kind isn't said: they are refused as a core module, where they begin as one; else as a package, where they mean one; else as one
-- world.
pub data RefusesFound (form : Form) (bytes : List ℕ) (e : Error) : Type 0 where
  as_module : begins_as_module bytes ≡ true → RefusesBound form bytes e → RefusesFound form bytes e
  as_component : begins_as_module bytes ≡ false → RefusesComponent form bytes e → RefusesFound form bytes e

-- the same of bytes whose kind is said, or found
abbrev pub RefusesShown : Form → Option Kind → List ℕ → Error → Type 0
RefusesShown form (Some kinds.Package) bytes = RefusesPackage form bytes
RefusesShown form (Some kinds.World) bytes = RefusesWorld form bytes
RefusesShown form (Some kinds.Module) bytes = RefusesBound form bytes
RefusesShown form None bytes = λ e. is_memory e ≡ false → RefusesFound form bytes e

-- what the text of a package is refused for: want of memory alone, where it stands in the place of texts; else as bytes are
abbrev pub RefusesText : ℕ → Option Kind → List ℕ → Option Read → Error → Type 0
RefusesText most kind bytes None = RefusesShown (forms.Text most) kind bytes
RefusesText most kind bytes (Some r) = IsMemory

-- what an input whose kind is said, or found, is refused for
abbrev pub RefusesInput : Form → Option Kind → Input → Error → Type 0
RefusesInput (forms.Text most) None i = RefusesText most None i.bytes.items i.read
RefusesInput (forms.Text most) (Some kinds.Package) i = RefusesText most (Some kinds.Package) i.bytes.items i.read
RefusesInput form kind i = RefusesShown form kind i.bytes.items

-- Nothing is made of the input: it is no WebAssembly; what is made of it is longer than the bound; or it is refused, and not for want of memory.
pub data ShowsNothing (form : Form) (kind : Option Kind) (i : Input) : Type 0 where
  foreign : i.whole ≡ false → ShowsNothing form kind i
  beyond : MakesInput form kind i within.Beyond → ShowsNothing form kind i
  refused : (e : Error) → is_memory e ≡ false → RefusesInput form kind i e → ShowsNothing form kind i
