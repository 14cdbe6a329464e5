-- The names in packages once all is added.
use Rattle.std.specs.Prelude.{◌≡◌, ℕ, List}
use Rattle.wit_model.specs.declared.model.{Resolve.Resolve, World.World, WorldKey.WorldKey}
use Rattle.wit_model.specs.Valid.{key_eq, IsValid}
use Rattle.bind_add.specs.Growth.{IsAdded}
use Rattle.bind_add.specs.declared.added.Added.{Added}
use Rattle.bind_match.specs.declared.matches.Matches.{Matches}
use Rattle.bind_carry.specs.{AddedApart.AreMatchedByName, ListedNames.listed_names, ListedNames.merged_names, Union.IsUnionOf}

-- Own names stay, each package's followed by what is new in it, and new packages come behind, all in the other's order.
abbrev pub NamesAreMerged : Type 0
NamesAreMerged = (own other merged : Resolve) (world other_world : ℕ) (m : Matches) (w v : World) (added : Added) (keys : List WorldKey)
    → IsUnionOf own other world other_world m w v added keys →
    IsValid own → IsValid other → IsAdded key_eq world added own merged → AreMatchedByName own other m
    → listed_names merged ≡ merged_names (listed_names own) (listed_names other)
