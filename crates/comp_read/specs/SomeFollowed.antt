-- What was followed of an input, whichever.
use Rattle.std.specs.Prelude.{List}
use Rattle.comp_bytes.specs.Levels.{Piece}
use Rattle.read_parts.specs.declared.following.Followed.{Followed}
use Rattle.read_parts.specs.Input.{IsFollowed}

-- It was followed of some pieces.
pub record IsSomeFollowed (x : Followed) : Type 0 where
  pub pieces : List Piece
  pub followed : IsFollowed pieces x
