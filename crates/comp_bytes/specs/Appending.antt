-- What a function that appends a form to a byte string does.
use Rattle.std.specs.Prelude.{◌≡◌, ◌++◌, Bool, false, List, ℕ, Result, OnOk, IfErr}
use Rattle.wit_model.specs.declared.error.Error.{Error}
use Rattle.comp_bytes.specs.{Raw.Declaration, Form.Spellings, Spelling.IsDeclaration, Writing.declaration_bytes, Fits.fits_declaration, Refusal.IsMemoryOrSize}
use Rattle.comp_bytes.specs.Held.{Begins}
use Rattle.wit_model.specs.declared.error.Error.TheVariants as errors

-- the text stands behind what was there, and spells the form
pub record Appended (form : Spellings) (text old new : List ℕ) : Type 0 where
  pub items : new ≡ old ++ text
  pub spelled : form text

-- What was there stands in front, perhaps with a part of the text behind it. A size was refused only where the form doesn't fit.
pub record Stopped (fits : Bool) (old new : List ℕ) (e : Error) : Type 0 where
  pub kept : Begins old new
  pub size : e ≡ errors.Size → fits ≡ false
  pub refuses : IsMemoryOrSize e

-- appends this text of a form, or refuses
pub record Appends {X : Type 0} (form : Spellings) (text : List ℕ) (fits : Bool) (old new : List ℕ) (r : Result X Error) : Type 0 where
  pub ok : OnOk r (Appended form text old new)
  pub err : IfErr r (Stopped fits old new)

-- appends the shortest bytes of a declaration, or refuses
abbrev pub AppendsDeclaration : {X : Type 0} → Declaration → List ℕ → List ℕ → Result X Error → Type 0
AppendsDeclaration d old new r = Appends (IsDeclaration d) (declaration_bytes d) (fits_declaration d) old new r
