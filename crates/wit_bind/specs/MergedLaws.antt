-- What is merged of two bindings, entry by entry, is their union.
use Rattle.std.specs.Prelude.{◌≡◌, ℕ, Bool, List, Some}
use Rattle.wit_model.specs.declared.model.{Resolve.Resolve, World.World, WorldKey.WorldKey}
use Rattle.wit_model.specs.{Lookup.world_at, Valid.HasDistinctKeys}
use Rattle.bind_carry.specs.{MatchedSame.AreMatchedAt, MatchedSame.NoneOfPath, MergedUnion.NoOwnInterfaceAtPath, MergedUnion.NoOwnWorldAtPath, Union.IsUnionOf, SecondPass.DoNotClash, Which.AreMatchedAll}
use Rattle.bind_add.specs.declared.added.Added.{Added}
use Rattle.bind_clash.specs.Faults.{IsMatched}
use Rattle.bind_match.specs.Matching.{is_root_world}
use Rattle.bind_match.specs.declared.matches.Matches.{Matches}
use Rattle.bind_meaning.specs.{Clash.CanUnite, Union.union}
use Rattle.bind_union.specs.{Carried.Renumbering, Merged.IsMerged}
use Rattle.wit_bind.specs.declared.bindgen.Bindgen.{Bindgen}
use Rattle.bind_keys.specs.Unions.{Gains}
use Rattle.wit_bind.specs.Bindings.{binding_of, IsBindgen}

-- The other's `Resolve` is merged into the own one, all but its root world; the bound world stays bound, and the encodings are gained. That no map has a key
-- twice is shown by reading the maps.
pub record IsUnited (own other new : Bindgen) : Type 0 where
  pub first : Renumbering
  pub second : Renumbering
  pub left_out : ℕ → Bool
  pub merged : IsMerged own.resolve other.resolve new.resolve own.world.0 other.world.0 first second left_out
  pub root : (n : ℕ) (w : World) → world_at other.resolve n ≡ Some w → left_out n ≡ is_root_world other.resolve w
  pub distinct : HasDistinctKeys new.resolve
  pub world : new.world ≡ own.world
  pub imports : Gains other.metadata.import_encodings own.metadata.import_encodings new.metadata.import_encodings
  pub exports : Gains other.metadata.export_encodings own.metadata.export_encodings new.metadata.export_encodings

-- ---- laws

-- Where nothing clashes that is valid, and stands for the union.
abbrev pub UnitedAreTheUnion : Type 0
UnitedAreTheUnion = (own other new : Bindgen) → IsBindgen own → IsBindgen other → CanUnite (binding_of own) (binding_of other) → IsUnited own other new →
    IsBindgen new × (binding_of new ≡ union (binding_of own) (binding_of other))

-- Where nothing clashes, each own interface that is found for another has its path and its sense, and no own one has the path of another for which none is
-- found.
abbrev pub MatchesHavePaths : Type 0
MatchesHavePaths = (own other : Bindgen) → IsBindgen own → IsBindgen other → CanUnite (binding_of own) (binding_of other) → (m : Matches)
    → IsMatched own.resolve other.resolve m → (world k : ℕ) (w v : World) (added : Added) (keys : List WorldKey)
    (u : IsUnionOf own.resolve other.resolve world k m w v added keys) →
    AreMatchedAll other.resolve m × AreMatchedAt own.resolve other.resolve m.interfaces.items u.carried.packages.items
    × NoneOfPath own.resolve other.resolve m.interfaces.items

-- What has to hold of entries and numbers for two bindings to unite: what has one key has one sense, no export has the key of another, and no path is of an
-- interface and of a world.
pub record AgreeByNumbers (own other : Resolve) (w v : World) : Type 0 where
  pub bound : DoNotClash own other w v
  pub no_world : NoOwnWorldAtPath own other
  pub no_interface : NoOwnInterfaceAtPath own other

-- It does where they unite.
abbrev pub UnitedAgreeByNumbers : Type 0
UnitedAgreeByNumbers = (own other : Bindgen) → IsBindgen own → IsBindgen other → CanUnite (binding_of own) (binding_of other) → (w v : World)
    → world_at own.resolve own.world.0 ≡ Some w → world_at other.resolve other.world.0 ≡ Some v →
    AgreeByNumbers own.resolve other.resolve w v
