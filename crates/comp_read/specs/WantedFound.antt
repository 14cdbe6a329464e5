-- What sections mean, as what is looked for: a package, or one world (Component Model WIT.md, "Package Format").
use Rattle.std.specs.Prelude.{◌≡◌, ℕ, List, Option, None}
use Rattle.wit_model.specs.declared.model.Resolve.{Resolve}
use Rattle.comp_bytes.specs.{Levels.Piece, Reading.◌>>=◌}
use Rattle.comp_meaning.specs.ByLevels.{package_of_pieces, world_of_pieces}
use Rattle.comp_read.specs.declared.wanted.Wanted.{Wanted}
use Rattle.comp_read.specs.{Decoded.HoldsFound, DecodedWorlds.HoldsWorldFound, Order.FollowsLevels}
use Rattle.comp_read.specs.declared.wanted.Wanted.TheVariants as wanted

-- the `Resolve` holds what the sections mean, if there are any, in the package of this number
abbrev pub HoldsMeaning : Wanted → Option (List Piece) → Resolve → ℕ → Type 0
HoldsMeaning wanted.Package o r n = HoldsFound (o >>= package_of_pieces) r n
HoldsMeaning wanted.World o r n = HoldsWorldFound (o >>= world_of_pieces) r n

-- So it does, in the order in which they show it.
pub record HoldsWanted (w : Wanted) (o : Option (List Piece)) (r : Resolve) (n : ℕ) : Type 0 where
  pub holds : HoldsMeaning w o r n
  pub follows : FollowsLevels o r

-- they mean no such thing
abbrev pub MeansNone : Wanted → Option (List Piece) → Type 0
MeansNone wanted.Package o = (o >>= package_of_pieces) ≡ None
MeansNone wanted.World o = (o >>= world_of_pieces) ≡ None
