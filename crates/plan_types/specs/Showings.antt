-- The types that are shown, one after the other, and the types of functions (WIT.md, "Interfaces" and "Worlds").
use Rattle.std.specs.Prelude.{ℕ, List, [], ◌∷◌, ◌++◌, map, Option}
use Rattle.std.specs.List.{flat_map}
use Rattle.wit_model.specs.Text.{Text}
use Rattle.plan_meaning.specs.NumberedViews.{NumberedFunction, NumberedType, NumberedView}
use Rattle.plan_parts.specs.Interfaces.{slot_part}
use Rattle.read_rules.specs.declared.{reached.ImportedView.ImportedView, scopes.Seen.Seen, scopes.Shown.Shown}
use Rattle.read_rules.specs.{Tables.given_text, Views.numbered_view}
use Rattle.read_exports.specs.declared.members.{Member.Member, Part.Part}
use Rattle.plan_types.specs.declared.showings.Showing.{Showing}
use Rattle.read_rules.specs.declared.scopes.Shown.TheVariants as shown
use Rattle.read_exports.specs.declared.members.Part.TheVariants as parts

-- A type that is shown: the part that its name is, the part that it is another name for, if it is no resource, and its external id.
pub record NumberedShowing : Type 0 where
  pub part : ℕ
  pub declared : Option ℕ
  pub external_id : Option Text

abbrev pub numbered_showing : Showing → NumberedShowing
numbered_showing s = record { part = s.part; declared = s.declared; external_id = given_text s.external_id }

abbrev pub showing_of : NumberedType → NumberedShowing
showing_of x = record { part = slot_part x.slot; declared = x.declared; external_id = x.external_id }

-- ---- of a view

abbrev pub showings_of_view : NumberedView → List NumberedShowing
showings_of_view v = map showing_of v.types

abbrev pub signatures_of_view : NumberedView → List ℕ
signatures_of_view v = map (λ (f : Text × NumberedFunction). f.1.signature) v.functions

-- ---- of an import or an export

abbrev pub showings_of_shown : Shown → Option Text → List NumberedShowing
showings_of_shown (shown.Instance key v) external_id = showings_of_view (numbered_view v)
showings_of_shown (shown.Function n) external_id = []
showings_of_shown (shown.Declares part d) external_id = record { part = part; declared = d; external_id = external_id } ∷ []

abbrev pub signatures_of_shown : Shown → List ℕ
signatures_of_shown (shown.Instance key v) = signatures_of_view (numbered_view v)
signatures_of_shown (shown.Function n) = n ∷ []
signatures_of_shown (shown.Declares part d) = []

abbrev pub showings_of_seen : Seen → List NumberedShowing
showings_of_seen s = showings_of_shown s.shown (given_text s.external_id)

abbrev pub signatures_of_seen : Seen → List ℕ
signatures_of_seen s = signatures_of_shown s.shown

-- ---- of all that is exported

abbrev pub showings_of_import : ImportedView → List NumberedShowing
showings_of_import i = showings_of_view (numbered_view i.view)

abbrev pub showings_of_part : Part → List NumberedShowing
showings_of_part (parts.World w) = flat_map showings_of_seen w.imports.now ++ flat_map showings_of_seen w.exports.now
showings_of_part (parts.Interface p v imports) = flat_map showings_of_import imports.now ++ showings_of_view (numbered_view v)

abbrev pub signatures_of_part : Part → List ℕ
signatures_of_part (parts.World w) = flat_map signatures_of_seen w.imports.now ++ flat_map signatures_of_seen w.exports.now
signatures_of_part (parts.Interface p v imports) = signatures_of_view (numbered_view v)

abbrev pub showings_of_members : List Member → List NumberedShowing
showings_of_members ms = flat_map (λ m. showings_of_part m.part) ms

abbrev pub signatures_of_members : List Member → List ℕ
signatures_of_members ms = flat_map (λ m. signatures_of_part m.part) ms
