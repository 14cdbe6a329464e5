-- What views tell of their functions, as sets (Component Model WIT.md, "Package Format": views of one interface agree).
use Rattle.std.specs.Prelude.{◌≡◌, Bool, ◌&&◌, List, ℕ, []}
use Rattle.std.specs.List.{list_all, list_any}
use Rattle.wit_model.specs.Text.{Text, text_eq}
use Rattle.plan_meaning.specs.{NumberedMembers.are_interfaces, NumberedRules.Fact}
use Rattle.plan_meaning.specs.NumberedViews.{NumberedFunction, NumberedSight, Tables, agree_in_numbers, agree_with_first_in_numbers, same_function}
use Rattle.read_rules.specs.Tables.{given_text}
use Rattle.plan_parts.specs.declared.agreement.ToldFunction.{ToldFunction}

abbrev pub told_function : ToldFunction → Text × NumberedFunction
told_function f = (f.name.now, record { signature = f.signature; external_id = given_text f.external_id })

-- The same functions stand in both, in any order and however often.
abbrev pub AreTold : List (Text × NumberedFunction) → List (Text × NumberedFunction) → Type 0
AreTold fs gs = (test : Text × NumberedFunction → Bool) → list_any test fs ≡ list_any test gs

-- the same name, and the same is told under it
abbrev pub tells_same : Text × NumberedFunction → Text × NumberedFunction → Bool
tells_same f g = text_eq f.0 g.0 && same_function f.1 g.1

-- the function stands among some, under its name
abbrev pub is_told : List (Text × NumberedFunction) → Text × NumberedFunction → Bool
is_told fs f = list_any (tells_same f) fs

abbrev pub are_told : List (Text × NumberedFunction) → List (Text × NumberedFunction) → Bool
are_told fs gs = list_all (is_told fs) gs

-- ---- laws

-- Views of interfaces agree, each with each, exactly where each agrees with the first of its place, and each that shows functions with the first
-- that does.
abbrev pub FirstViewsTell : Type 0
FirstViewsTell = (t : Tables) (known : ℕ → Fact) (seen : List NumberedSight)
    → (agree_in_numbers seen && are_interfaces t known seen) ≡ (agree_with_first_in_numbers [] seen && are_interfaces t known seen)
