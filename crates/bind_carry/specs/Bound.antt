-- What the own bound world gains, as it is added behind what is carried by path.
use Rattle.std.specs.Prelude.{◌≡◌, ◌<◌, ◌+◌, ℕ, Bool, List, length}
use Rattle.wit_model.specs.declared.model.{Resolve.Resolve, World.World}
use Rattle.bind_add.specs.declared.added.Added.{Added}
use Rattle.bind_copy.specs.Copies.{AreNewCopied}
use Rattle.bind_carry.specs.{BoundGains.bound_fates, BoundGains.gained_inline, BoundGains.AreInlineCopied, InRange.IsInRange, Numbers.numbers_of}
use Rattle.bind_carry.specs.{Fates.AreCopied, declared.fate.Fate.Fate, declared.plan.Carried.Carried}

-- The two worlds are there, and all interfaces and types of the other have numbers, and types their fates.
pub record IsBoundReady (own other : Resolve) (world other_world : ℕ) (c : Carried) (fates : List Fate) (types : List ℕ) : Type 0 where
  pub own_range : world < length own.worlds.items
  pub other_range : other_world < length other.worlds.items
  pub in_range : IsInRange other
  pub interface_count : length c.interfaces.items ≡ length other.interfaces.items
  pub fate_count : length fates ≡ length other.types.items
  pub type_count : length types ≡ length other.types.items

-- nothing is changed but the imports and the exports
pub record IsSameButItems (old new : Added) : Type 0 where
  pub packages : new.packages.items ≡ old.packages.items
  pub interfaces : new.interfaces.items ≡ old.interfaces.items
  pub worlds : new.worlds.items ≡ old.worlds.items
  pub type_defs : new.types.items ≡ old.types.items
  pub names : new.names.items ≡ old.names.items

-- the numbers of interfaces in what the bound world gains, where so many were added before
abbrev pub bound_interfaces : Resolve → ℕ → Carried → List Bool → List ℕ
bound_interfaces own before c copied = numbers_of (length own.interfaces.items + before) copied c.interfaces.items

-- The inline interfaces of what is gained are copied behind what was added before, and types with them; the items are those whose keys are new.
pub record IsBoundOver (own other : Resolve) (world other_world : ℕ) (w v : World) (c : Carried) (fates : List Fate) (first_types : List ℕ)
    (old new : Added) : Type 0 where
  pub copied : List Bool
  pub copied_are : copied ≡ gained_inline other c.interfaces.items w v
  pub interfaces : List ℕ
  pub interfaces_are : interfaces ≡ bound_interfaces own (length old.interfaces.items) c copied
  pub types : List ℕ
  pub packages : new.packages.items ≡ old.packages.items
  pub names : new.names.items ≡ old.names.items
  pub worlds : new.worlds.items ≡ old.worlds.items
  pub types_copied : AreCopied (length own.types.items) types other.types.items (bound_fates other world other_world w v copied interfaces fates first_types)
      old.types.items new.types.items
  pub inline_copied : AreInlineCopied types w.«package» copied other.interfaces.items old.interfaces.items new.interfaces.items
  pub imports : AreNewCopied interfaces types w.imports.entries v.imports.entries new.imports.entries
  pub exports : AreNewCopied interfaces types w.exports.entries v.exports.entries new.exports.entries
