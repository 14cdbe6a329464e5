-- The first view of each place, and what all views of a place tell (Component Model WIT.md, "Package Format": views of one interface agree).
use Rattle.std.specs.Prelude.{◌≡◌, ℕ, true, List, Option, Some, None, slice_get}
use Rattle.std.specs.List.{AllZip, Contains}
use Rattle.wit_model.specs.Text.{Text}
use Rattle.plan_meaning.specs.NumberedViews.{NumberedSight, NumberedType, NumberedView, Tables, first_at, path_at, place_at, view_of}
use Rattle.plan_meaning.specs.{PlanRules.are_rising, ReadInterfaces.IsNumberOf}
use Rattle.read_exports.specs.Members.{numbered_members}
use Rattle.read_exports.specs.declared.members.Member.{Member}
use Rattle.plan_package.specs.Views.{views_of_members}
use Rattle.plan_laws.specs.Owners.{homes_in}
use Rattle.comp_meaning.specs.Rules as rules

-- a type's name, the part that it is another name for, and its external id
abbrev pub told : NumberedType → Text × (Option ℕ × Option Text)
told x = (x.name, (x.declared, x.external_id))

-- the names of the view stand in the table in the view's order
pub record IsRisingView (t : Tables) (q : ℕ) (v : NumberedView) : Type 0 where
  pub numbers : List ℕ
  pub shapes : AllZip (IsNumberOf t q) v.types numbers
  pub rise : are_rising numbers ≡ true

-- The views of what was followed: each obeys the rules on interfaces, and an inline interface is viewed once. No place of a view is a
-- world's own. The names of the first view of a place rise in the table.
pub record ViewsAreOrdered (t : Tables) (ms : List Member) : Type 0 where
  pub obey : (s : NumberedSight) → Contains (views_of_members (numbered_members ms)) s → rules.is_interface (place_at t s.place) (view_of t s.view) ≡ true
  pub inline : (i j : ℕ) (s u : NumberedSight) → slice_get (views_of_members (numbered_members ms)) i ≡ Some s
      → slice_get (views_of_members (numbered_members ms)) j ≡ Some u → path_at t s.place ≡ None → s.place ≡ u.place → i ≡ j
  pub apart : (s : NumberedSight) → Contains (views_of_members (numbered_members ms)) s → Contains (homes_in ms) s.place → ⊥
  pub rising : (q : ℕ) (s : NumberedSight) → first_at q (views_of_members (numbered_members ms)) ≡ Some s → IsRisingView t q s.view
