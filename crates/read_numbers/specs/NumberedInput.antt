-- All parts of an input in numbers.
use Rattle.std.specs.{Prelude.◌≡◌, Prelude.List, Prelude.Some, List.AllZip}
use Rattle.wit_model.specs.Text.{Text, text_of}
use Rattle.comp_bytes.specs.Levels.{Piece}
use Rattle.plan_meaning.specs.{NumberedViews.Tables, NumberedViews.AreTables, NumberedWorlds.Shows}
use Rattle.read_parts.specs.declared.{following.Followed.Followed, members.FollowedPart.FollowedPart, members.Member.Member}
use Rattle.read_parts.specs.{Followed.PartScope, Followed.world, Followed.interface, Followed.scopes_of, Input.IsFollowed}
use Rattle.read_numbers.specs.NumberedParts.{numbered_scope, tables_in}
use Rattle.read_parts.specs.declared.members.FollowedPart.TheVariants as followed

abbrev pub tables_of : Followed → Tables
tables_of x = tables_in x.table x.functions x.places

-- the scope of the part shows what its numbers do, and a world has its path
abbrev pub PartShown : Tables → FollowedPart → PartScope → Type 0
PartShown t (followed.World path scope) (world text meant) = (text ≡ text_of path) × Shows t (numbered_scope t.paths scope) meant
PartShown t (followed.Interface scope) (interface meant) = Shows t (numbered_scope t.paths scope) meant
PartShown t _ _ = ⊥

abbrev pub MemberShown : Tables → Member → Text × PartScope → Type 0
MemberShown t m x = (x.0 ≡ m.label.now) × PartShown t m.part x.1

-- The tables are well-formed, and the parts of the input show what those that were followed do in numbers.
pub record IsInNumbers (pieces : List Piece) (x : Followed) : Type 0 where
  pub tables : AreTables (tables_of x)
  pub scopes : List (Text × PartScope)
  pub found : scopes_of pieces ≡ Some scopes
  pub shown : AllZip (MemberShown (tables_of x)) x.members.items scopes

-- What is followed of an input is so in numbers.
abbrev pub InputInNumbers : Type 0
InputInNumbers = (pieces : List Piece) (x : Followed) → IsFollowed pieces x → IsInNumbers pieces x
