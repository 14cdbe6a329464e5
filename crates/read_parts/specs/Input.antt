-- All parts of an input, followed into one set of tables.
use Rattle.std.specs.Prelude.{◌≡◌, ◌≤◌, ℕ, List, [], length, map, Some}
use Rattle.wit_model.specs.{Text.Text, Tree.Place}
use Rattle.comp_bytes.specs.Levels.{PartType, Piece}
use Rattle.comp_meaning.specs.ByLevels.{exported_parts}
use Rattle.read_follow.specs.{Following.AreTables, Functions.AreApart, Places.ArePathsApart, Places.ArePathsRead, Places.ArePlacesOf}
use Rattle.read_parts.specs.declared.following.Followed.{Followed}
use Rattle.read_parts.specs.Followed.{scopes_in, scopes_of}
use Rattle.read_parts.specs.Members.{member_meant, parts_weight, AreFormed, AreMembersPlaced, AreMembersStaged, AreNamesShown, ArePlacesInOrder, ArePlacesMet, AreNumberedTo, MembersStand}

-- The tables are well-formed, with forms as definitions have them, and each path is read. Names stand in their places and each is shown,
-- and each place with a path is met, in their order. The members stand in the tables for what the parts do, over no more types than the
-- parts' entries make. So each did behind each number of its entries. The types of the table are those that the parts declare, in their
-- order, each over the names of its scope.
pub record ArePartsFollowed (parts : List (Text × PartType)) (x : Followed) : Type 0 where
  pub tables : AreTables (length x.places) x.table x.functions
  pub functions_apart : AreApart x.functions
  pub paths_apart : ArePathsApart x.places
  pub paths_read : ArePathsRead x.places
  pub stand : MembersStand x.table x.functions x.places x.members.items
  pub count : length x.table ≤ parts_weight parts
  pub numbers : AreNumberedTo parts [] x.table x.functions x.places x.members.items
  pub placed : AreMembersPlaced x.table x.functions x.places x.members.items
  pub names : AreNamesShown x.table x.functions x.places x.members.items
  pub met : ArePlacesMet x.places x.members.items
  pub order : ArePlacesInOrder x.places x.members.items
  pub formed : AreFormed x.table
  pub staged : AreMembersStaged x.table x.functions x.places parts x.members.items
  pub shows : (place : ℕ → Place) → ArePlacesOf x.places place → scopes_in parts ≡ Some (map (member_meant x.table x.functions x.places place) x.members.items)

-- The parts are those that are exported at the top, and the members stand for what is followed of all.
pub record IsFollowed (pieces : List Piece) (x : Followed) : Type 0 where
  pub parts : List (Text × PartType)
  pub exported : exported_parts pieces ≡ Some parts
  pub followed : ArePartsFollowed parts x
  pub shows : (place : ℕ → Place) → ArePlacesOf x.places place → scopes_of pieces ≡ Some (map (member_meant x.table x.functions x.places place) x.members.items)
