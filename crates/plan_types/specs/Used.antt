-- Which types are used, by what is shown (Component Model WIT.md, "Package Format": a decoded package has the types that are used alone).
use Rattle.std.specs.Prelude.{◌≡◌, ◌↔◌, ◌<◌, ◌+◌, ◌||◌, ℕ, Bool, true, if◌then◌else◌, List, [], ◌∷◌, ◌++◌, length, map, option_to_list, Option, Some, None}
use Rattle.std.specs.{List.flat_map, Option.option_map_or}
use Rattle.wit_model.specs.{Text.Text, Uses.has}
use Rattle.plan_meaning.specs.{NumberedRules.is_form, NumberedRules.shape_at, NumberedViews.FunctionShape, NumberedViews.Tables, NumberedViews.function_at}
use Rattle.plan_parts.specs.Marks.{is_marked, IsUsed, PartsFall}
use Rattle.plan_types.specs.Showings.{NumberedShowing, numbered_showing}
use Rattle.plan_types.specs.declared.showings.Showing.{Showing}

-- the parts of a part that is a form
abbrev pub form_parts : Tables → ℕ → List ℕ
form_parts t k = option_map_or (λ s. s.parts) (shape_at t k) []

-- the parts that are declared: those of a form, or the one that is named
abbrev pub declared_parts : Tables → Option ℕ → List ℕ
declared_parts t None = []
declared_parts t (Some k) = if is_form t k then form_parts t k else k ∷ []

-- the parts of a function: its parameters' and its result's
abbrev pub signature_parts : FunctionShape → List ℕ
signature_parts f = map (λ (x : Text × ℕ). x.1) f.params ++ option_to_list f.result

-- the part that the name is, and those that are declared
abbrev pub showing_parts : Tables → NumberedShowing → List ℕ
showing_parts t s = s.part ∷ declared_parts t s.declared

abbrev pub function_parts : Tables → ℕ → List ℕ
function_parts t n = signature_parts (function_at t n)

-- The parts are marked too, and nothing else.
pub record Marks (parts : List ℕ) (old new : List Bool) : Type 0 where
  pub many : length new ≡ length old
  pub each : (n : ℕ) → n < length old → is_marked new n ≡ (is_marked old n || has parts (14 + n))

-- all that are used by what is shown
abbrev pub used_parts : Tables → List NumberedShowing → List ℕ → List ℕ
used_parts t showings signatures = flat_map (showing_parts t) showings ++ flat_map (function_parts t) signatures

-- The types that are marked are those that are shown or that a function has, and the parts of these.
pub record AreUsed (t : Tables) (parts : List ℕ) (marks : List Bool) : Type 0 where
  pub roots : List Bool
  pub shown : (n : ℕ) → n < length t.shapes → is_marked roots n ≡ has parts (14 + n)
  pub many : length roots ≡ length t.shapes
  pub marked : (n : ℕ) → (is_marked marks n ≡ true) ↔ IsUsed (map (λ s. s.parts) t.shapes) roots n

-- the types that are marked are those that these showings and the functions of these numbers use
abbrev pub AreUsedBy : Tables → List Showing → List ℕ → List Bool → Type 0
AreUsedBy t showings signatures marks = AreUsed t (used_parts t (map numbered_showing showings) signatures) marks

abbrev pub TypesFall : Tables → Type 0
TypesFall t = PartsFall (map (λ s. s.parts) t.shapes)
