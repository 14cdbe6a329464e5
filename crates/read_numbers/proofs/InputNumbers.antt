-- All parts of an input in numbers.
use Rattle.std.proofs.Common.{rules as std_rules, refl, List, [], ◌∷◌, map, Option}
use Rattle.std.specs.List.{AllZip}
use Rattle.wit_model.specs.Text.{Text}
use Rattle.plan_meaning.specs.{NumberedViews.place_at, NumberedViews.Tables, Shapes.Shape}
use Rattle.read_follow.specs.Functions.{FunctionShape}
use Rattle.read_parts.specs.declared.members.{FollowedPart.FollowedPart, Member.Member}
use Rattle.read_parts.specs.Members.{member_meant, part_meant, MembersStand, StandsIn}
use Rattle.read_numbers.specs.{NumberedInput.InputInNumbers, NumberedInput.MemberShown, NumberedInput.PartShown, NumberedParts.tables_in}
use Rattle.read_numbers.proofs.{ScopeNumbers.scopes_in_numbers, TableNumbers.places_in_numbers, TableNumbers.tables_in_numbers}

module _ (shapes : List Shape) (fs : List FunctionShape) (paths : List (Option Text)) where
  abbrev t : Tables
  t = tables_in shapes fs paths

  part_shown : (p : FollowedPart) → StandsIn shapes fs paths p → PartShown t p (part_meant shapes fs paths (place_at t) p)
  part_shown x st = search (std_rules, scopes_in_numbers)

  members_shown : (ms : List Member) → MembersStand shapes fs paths ms → AllZip (MemberShown t) ms (map (member_meant shapes fs paths (place_at t)) ms)
  members_shown [] st = tt
  members_shown (m ∷ ms) st = ((refl, part_shown m.part st.0), members_shown ms st.1)

pub input_in_numbers : InputInNumbers
input_in_numbers pieces x f = search (std_rules, tables_in_numbers, places_in_numbers, members_shown)
