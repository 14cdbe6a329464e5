-- The parts of a component that exports component types, each under its label (Component Model WIT.md, "Package Format").
use Rattle.std.specs.Prelude.{◌≡◌, ◌&&◌, ℕ, zero, suc, Bool, List, [], ◌∷◌, ◌++◌}
use Rattle.wit_model.specs.Text.{Text}
use Rattle.comp_bytes.specs.{Raw.Declarations, Raw.TopType, Parts.Part, Parts.fits_component, Parts.plain_export, Parts.top_slots}

-- a component type that takes this type index, and its export
abbrev pub one_exported : ℕ → Text × Declarations → List Part
one_exported n x = Part.top_type (TopType.component x.1) ∷ Part.top_export (plain_export x.0 n) ∷ []

-- Component types, each with its export, from this type index on. Each type takes an index, and so does each export.
abbrev pub exporting_from : ℕ → List (Text × Declarations) → List Part
exporting_from n [] = []
exporting_from n (x ∷ xs) = one_exported n x ++ exporting_from (suc (suc n)) xs

-- the parts of a component that exports these component types
abbrev pub exporting : List (Text × Declarations) → List Part
exporting xs = exporting_from zero xs

-- ---- one more

-- the parts, with a component type behind them
abbrev pub with_type : List Part → Declarations → List Part
with_type parts ds = parts ++ Part.top_type (TopType.component ds) ∷ []

-- the parts, with a component type and its export behind them
abbrev pub with_exported : List Part → Text × Declarations → List Part
with_exported parts x = parts ++ one_exported (top_slots parts) x

-- whether a component still fits in 32 bits with a component type behind its parts, and with the export of it too
abbrev pub fits_with_export : List Part → Text × Declarations → Bool
fits_with_export parts x = fits_component (with_type parts x.1) && fits_component (with_exported parts x)

-- Where a component exported component types, it now exports the same and this one behind them.
abbrev pub ExportsOneMore : List Part → Text × Declarations → List Part → Type 0
ExportsOneMore old x new = (types : List (Text × Declarations)) → old ≡ exporting types → new ≡ exporting (types ++ x ∷ [])
