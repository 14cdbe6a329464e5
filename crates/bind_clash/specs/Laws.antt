-- What clashes by numbers is what clashes in the bindings of the two worlds.
use Rattle.std.specs.Prelude.{◌≡◌, ◌↔◌, ◌⊎◌, ℕ, List, Option, Some, None, String}
use Rattle.std.specs.declared.alloc.Global.{Global}
use Rattle.wit_model.specs.declared.{error.ClashKind.ClashKind, error.Error.Error, model.Resolve.Resolve, model.World.World}
use Rattle.wit_model.specs.{Text.Text, Text.text_of, Lookup.world_at, Meaning.Entry, Meaning.InterfaceSense, Meaning.WorldSense, Valid.IsValid}
use Rattle.bind_meaning.specs.{Binding.Binding, ByNumbers.binding_at, Encodings.Encodings, Laws.CanTell}
use Rattle.bind_meaning.specs.Clash.{CanUnite, EncodingFault, ExportFault, ImportFault, InterfaceFault, IsClash, IsFirstOf, IsLeast, NoFault, WorldFault}
use Rattle.bind_match.specs.declared.matches.Matches.{Matches}
use Rattle.bind_clash.specs.Faults.{ExportStands, HasNoClash, ImportFaults, InterfaceFaultIn, IsClashAt, IsFirstFault, IsMatched, WorldFaultIn}
use Rattle.wit_model.specs.declared.error.ClashKind.TheVariants as kinds
use Rattle.wit_model.specs.declared.error.Error.TheVariants as errors

-- a world of each of two valid `Resolve`s, by number, and what of the second has a name or a path of the first
pub record AreWorlds (own other : Resolve) (m : Matches) (n k : ℕ) (w v : World) : Type 0 where
  pub own_valid : IsValid own
  pub other_valid : IsValid other
  pub matched : IsMatched own other m
  pub own_at : world_at own n ≡ Some w
  pub other_at : world_at other k ≡ Some v

-- the first entry whose key has the fault; or no text has it
abbrev pub IsFirstIn : {X : Type 0} → List (Text × X) → (Text → Type 0) → Option Text → Type 0
IsFirstIn es Fault None = NoFault Fault
IsFirstIn es Fault (Some t) = IsFirstOf es Fault t

-- The faults by numbers are those of the bindings, and the first entry with one is the first of the bound world.
pub record FaultsAre (own other : Resolve) (m : Matches) (n k : ℕ) (w v : World) (a b : Binding) : Type 0 where
  pub interfaces : (t : Text) → InterfaceFaultIn own other m t ↔ InterfaceFault a b t
  pub worlds : (t : Text) → WorldFaultIn own other m t ↔ WorldFault a b t
  pub imports : (o : Option Text) → IsFirstFault other v.imports.entries (ImportFaults own other m n k w) o → IsFirstIn b.bound.imports (ImportFault a b) o
  pub exports : (o : Option Text) → IsFirstFault other v.exports.entries (ExportStands m w.exports.entries) o → IsFirstIn b.bound.exports (ExportFault a b) o

-- ---- laws, whatever the encodings are: imported and exported, own ones and the other's

abbrev pub FaultsAreOfBindings : Type 0
FaultsAreOfBindings = (own other : Resolve) (m : Matches) (n k : ℕ) (w v : World) → AreWorlds own other m n k w v → (a b c d : Encodings) →
    FaultsAre own other m n k w v (binding_at own n a b) (binding_at other k c d)

-- What is named is the clash of the bindings.
abbrev pub ClashesAreOfBindings : Type 0
ClashesAreOfBindings = (own other : Resolve) (m : Matches) (n k : ℕ) (w v : World) → AreWorlds own other m n k w v → (a b c d : Encodings) →
    (e : Error) → IsClashAt own other m n k w v e →
    (e ≡ errors.Memory) ⊎ ((kind : ClashKind) × (key : String Global) × (e ≡ errors.Clash kind key)
    × IsClash (binding_at own n a b) (binding_at other k c d) kind (text_of key))

-- Where nothing clashes but encodings, the first of these is the clash.
abbrev pub EncodingsClashLast : Type 0
EncodingsClashLast = (own other : Resolve) (m : Matches) (n k : ℕ) (w v : World) → AreWorlds own other m n k w v → (a b c d : Encodings)
    → HasNoClash own other m n k w v → (t : Text) →
    IsLeast (EncodingFault a c) t ⊎ (NoFault (EncodingFault a c) × IsLeast (EncodingFault b d) t)
    → IsClash (binding_at own n a b) (binding_at other k c d) kinds.Encoding t

-- Where nothing clashes, and no key has two encodings, the bindings can be united, if it can be told of senses whether they are equal.
abbrev pub NoneIsOfBindings : Type 0
NoneIsOfBindings = CanTell InterfaceSense → CanTell WorldSense → CanTell (Entry InterfaceSense) →
    (own other : Resolve) (m : Matches) (n k : ℕ) (w v : World) → AreWorlds own other m n k w v → (a b c d : Encodings) → HasNoClash own other m n k w v →
    NoFault (EncodingFault a c) → NoFault (EncodingFault b d) → CanUnite (binding_at own n a b) (binding_at other k c d)
