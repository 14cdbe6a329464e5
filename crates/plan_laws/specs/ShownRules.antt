-- What is shown obeys the rules of reading, each as it is seen from its place (WIT.md, "Types", "Functions", "Interfaces" and "Worlds").
use Rattle.std.specs.Prelude.{◌≡◌, ◌+◌, ℕ, true, List, [], map}
use Rattle.std.specs.List.{AllByRecursion, list_all}
use Rattle.wit_model.specs.{Names.is_label, Text.Text}
use Rattle.plan_meaning.specs.{FollowedNumbers.IsNameOf, NumberedRules.Fact, NumberedWorlds.seen_of}
use Rattle.plan_meaning.specs.NumberedMembers.{Homes, IsKnownSight, are_interfaces, sights_of_members}
use Rattle.plan_meaning.specs.NumberedViews.{NumberedSight, Tables, declaration_of, place_at, view_of}
use Rattle.read_rules.specs.Scopes.{numbered_seen}
use Rattle.read_exports.specs.Members.{numbered_members}
use Rattle.read_exports.specs.declared.members.{Member.Member, Part.Part}
use Rattle.plan_types.specs.Showings.{NumberedShowing, showings_of_members, signatures_of_members}
use Rattle.plan_package.specs.Views.{views_of_members}
use Rattle.plan_type_laws.specs.UsedParts.{SignatureObeys}
use Rattle.plan_laws.specs.ShownNames.{IsInput}
use Rattle.comp_meaning.specs.Reads as reads
use Rattle.comp_meaning.specs.Rules as rules
use Rattle.read_exports.specs.declared.members.Part.TheVariants as parts

module _ (t : Tables) where
  -- the view is what an interface may have whose names stand in its place
  abbrev pub ViewObeys : NumberedSight → Type 0
  ViewObeys s = rules.is_interface (place_at t s.place) (view_of t s.view) ≡ true

  -- A type is shown under a label of its place, as what may be declared there.
  pub record TypeObeys (y : NumberedShowing) : Type 0 where
    pub place : ℕ
    pub name : Text
    pub number : ℕ
    pub part : y.part ≡ 14 + number
    pub is : IsNameOf t place name y.declared number
    pub label : is_label name ≡ true
    pub obeys : rules.is_declared (place_at t place) (declaration_of t y.declared) ≡ true

  -- a world imports and exports what one may have
  abbrev pub PartObeys : Part → Type 0
  PartObeys (parts.World w) =
      (rules.are_imports [] (map (seen_of t) (map numbered_seen w.imports.now)) ≡ true)
      × (list_all (λ s. rules.is_item [] s.key s.shown) (map (seen_of t) (map numbered_seen w.exports.now)) ≡ true)
  PartObeys (parts.Interface p v imports) = Unit {0}

-- All views, all types, all worlds and the types of all functions obey the rules.
pub record RulesAreObeyed (t : Tables) (ms : List Member) : Type 0 where
  pub views : AllByRecursion (ViewObeys t) (views_of_members (numbered_members ms))
  pub types : AllByRecursion (TypeObeys t) (showings_of_members ms)
  pub worlds : AllByRecursion (λ (m : Member). PartObeys t m.part) ms
  pub signatures : AllByRecursion (SignatureObeys t) (signatures_of_members ms)

-- They do where each interface with a path obeys the rules by what is known of its parts.
abbrev pub ShownObeysRules : Type 0
ShownObeysRules = (t : Tables) (h : Homes) (ms : List Member) (members : List reads.Member) → IsInput t h ms members → (known : ℕ → Fact)
    → AllByRecursion (IsKnownSight t known) (sights_of_members t (numbered_members ms))
    → are_interfaces t known (sights_of_members t (numbered_members ms)) ≡ true → RulesAreObeyed t ms
