-- The second pass, over what the own bound world gains, as the code leaves it in what is merged.
use Rattle.std.specs.Prelude.{◌≡◌, ◌≤◌, ◌<◌, ◌⊎◌, ◌==◌, ℕ, Bool, false, List, ◌++◌, length, map, Some}
use Rattle.std.specs.{List.AllZip, List.Contains, Option.option_map_or}
use Rattle.wit_model.specs.declared.model.{Interface.Interface, Package.Package, Resolve.Resolve, TypeDef.TypeDef, WorldItem.WorldItem, WorldKey.WorldKey}
use Rattle.wit_model.specs.declared.model.World.{World}
use Rattle.wit_model.specs.{Lookup.key_text, Lookup.package_at, Lookup.world_at, Meaning.entry_sense, Meant.entry_meaning, Valid.key_eq, Valid.IsValid}
use Rattle.bind_add.specs.Growth.{HasGainedItems, IsAdded}
use Rattle.bind_add.specs.declared.added.Added.{Added}
use Rattle.bind_copy.specs.Copies.{AreNewCopied}
use Rattle.bind_match.specs.Matching.{is_root_world, own_package_of}
use Rattle.bind_match.specs.declared.matches.Matches.{Matches}
use Rattle.bind_union.specs.{Carried.Renumbering, Joined.IsJoined, Merged.AreCopies, Merged.IsCopyUnder, Merged.IsMerged, Merged.PackageStands}
use Rattle.bind_carry.specs.{Bound.bound_interfaces, Packaged.grown_packages, Packaged.IsGained, Renumbered.first_of, Renumbered.second_of, Which.AreMatchedAll, BoundGains.bound_fates, BoundGains.gained_inline, BoundGains.AreInlineCopied, MatchedSame.AreMatchedAt, MatchedSame.NoneOfPath, Fates.AreCopied, First.first_fates, FirstPass.IsFirstPass, Union.IsUnionOf}
use Rattle.bind_carry.specs.declared.plan.Carried.{Carried}

-- The two worlds don't clash: imports of one key have one sense, and no key is exported by both.
pub record DoNotClash (own other : Resolve) (w v : World) : Type 0 where
  pub imports : (x e : WorldKey × WorldItem) → Contains w.imports.entries x → Contains v.imports.entries e → key_text own x.0 ≡ key_text other e.0
      → entry_sense (entry_meaning own x.1) ≡ entry_sense (entry_meaning other e.1)
  pub exports : (x e : WorldKey × WorldItem) → Contains w.exports.entries x → Contains v.exports.entries e → key_text own x.0 ≡ key_text other e.0 → ⊥

-- Behind what is carried by path stand the inline interfaces and the types of what the bound world gains, and it has gained the items whose keys it hadn't.
pub record IsSecondPass (own other merged : Resolve) (world other_world : ℕ) (w v : World) (m : Matches) (c : Carried) (first_numbers : List ℕ)
    (p : IsFirstPass own other merged m c first_numbers) (copied : List Bool) (interfaces types : List ℕ) : Type 0 where
  pub own_at : world_at own world ≡ Some w
  pub other_at : world_at other other_world ≡ Some v
  pub agree : DoNotClash own other w v
  pub copied_are : copied ≡ gained_inline other c.interfaces.items w v
  pub interfaces_are : interfaces ≡ bound_interfaces own (length p.new_interfaces) c copied
  pub all_types : List TypeDef
  pub types_copied : AreCopied (length own.types.items) types other.types.items
      (bound_fates other world other_world w v copied interfaces (first_fates own other m.interfaces.items c) first_numbers) p.new_types all_types
  pub types_here : merged.types.items ≡ own.types.items ++ all_types
  pub all_interfaces : List Interface
  pub inline_copied : AreInlineCopied types w.«package» copied other.interfaces.items p.new_interfaces all_interfaces
  pub interfaces_here : merged.interfaces.items ≡ own.interfaces.items ++ all_interfaces
  pub new_imports : List (WorldKey × WorldItem)
  pub imports : AreNewCopied interfaces types w.imports.entries v.imports.entries new_imports
  pub new_exports : List (WorldKey × WorldItem)
  pub exports : AreNewCopied interfaces types w.exports.entries v.exports.entries new_exports
  pub image : World
  pub at_image : world_at merged world ≡ Some image
  pub gained : HasGainedItems key_eq new_imports new_exports w image
  -- own packages gain the names of what is copied into them
  pub names : AllZip (IsGained c) (grown_packages c.new_packages.items c.packages.items other.packages.items) p.gains
  -- other worlds are as they were
  pub others : (n : ℕ) (u : World) → world_at own n ≡ Some u → (n == world) ≡ false → world_at merged n ≡ Some u

-- the new numbers of the second pass
abbrev pub second_pass_of : Resolve → Resolve → Matches → Carried → ℕ → ℕ → World → World → List Bool → List ℕ → List ℕ → List ℕ → Renumbering
second_pass_of own other m c world other_world w v copied interfaces first_numbers types =
    second_of other m.interfaces.items c world other_world w.imports.entries v.imports.entries copied interfaces
    (bound_fates other world other_world w v copied interfaces (first_fates own other m.interfaces.items c) first_numbers) types

-- It is carried, and copied, as the laws on unions ask for it: its copies stand behind own entries, and inline interfaces come with the bound world.
abbrev pub SecondIsCopied : Type 0
SecondIsCopied = (own other merged : Resolve) (world other_world : ℕ) (w v : World) (m : Matches) (c : Carried) (first_numbers : List ℕ)
    (p : IsFirstPass own other merged m c first_numbers) (copied : List Bool) (interfaces types : List ℕ) → IsValid own → IsValid other →
    IsSecondPass own other merged world other_world w v m c first_numbers p copied interfaces types →
    AreCopies own other merged (second_pass_of own other m c world other_world w v copied interfaces first_numbers types)

-- The bound world stands as it was, and behind what it had it has gained the items whose keys it hadn't; own ones stand for the others.
abbrev pub SecondIsJoined : Type 0
SecondIsJoined = (own other merged : Resolve) (world other_world : ℕ) (w v : World) (m : Matches) (c : Carried) (first_numbers : List ℕ)
    (p : IsFirstPass own other merged m c first_numbers) (copied : List Bool) (interfaces types : List ℕ) → IsValid own → IsValid other →
    (s : IsSecondPass own other merged world other_world w v m c first_numbers p copied interfaces types) →
    (j : IsJoined other merged (second_pass_of own other m c world other_world w v copied interfaces first_numbers types) other_world w.imports.entries
    w.exports.entries) × (j.image ≡ s.image)

-- What a union adds, once it is added, has both passes, where nothing clashes and what is matched has one name, or one path and one sense.
abbrev pub UnionsHaveTheSecond : Type 0
UnionsHaveTheSecond = (own other merged : Resolve) (world other_world : ℕ) (m : Matches) (w v : World) (added : Added) (keys : List WorldKey)
    (u : IsUnionOf own other world other_world m w v added keys) →
    IsAdded key_eq world added own merged → world_at own world ≡ Some w → world_at other other_world ≡ Some v → DoNotClash own other w v → AreMatchedAll other m
    → m.packages.items ≡ map (own_package_of own.packages.items) other.packages.items →
    AreMatchedAt own other m.interfaces.items u.carried.packages.items → NoneOfPath own other m.interfaces.items →
    (p : IsFirstPass own other merged m u.carried u.types)
    × IsSecondPass own other merged world other_world w v m u.carried u.types p u.second.copied u.second.interfaces u.second.types

-- Types, interfaces and worlds behind own ones are copies of one or the other.
pub record AreAllCopies (own merged : Resolve) (first second : Renumbering) : Type 0 where
  pub types : (n : ℕ) → length own.types.items ≤ n → n < length merged.types.items → IsCopyUnder first.types first.copies_type n
      ⊎ IsCopyUnder second.types second.copies_type n
  pub interfaces : (n : ℕ) → length own.interfaces.items ≤ n → n < length merged.interfaces.items → IsCopyUnder first.interfaces first.copies_interface n
      ⊎ IsCopyUnder second.interfaces second.copies_interface n
  pub worlds : (n : ℕ) → length own.worlds.items ≤ n → n < length merged.worlds.items → IsCopyUnder first.worlds first.carries_world n

-- Nothing else is added: each type, interface and world behind own ones is a copy.
abbrev pub NothingElseIsAdded : Type 0
NothingElseIsAdded = (own other merged : Resolve) (world other_world : ℕ) (w v : World) (m : Matches) (c : Carried) (first_numbers : List ℕ)
    (p : IsFirstPass own other merged m c first_numbers) (copied : List Bool) (interfaces types : List ℕ) → IsValid own → IsValid other →
    IsSecondPass own other merged world other_world w v m c first_numbers p copied interfaces types →
    AreAllCopies own merged (first_of m.interfaces.items c (first_fates own other m.interfaces.items c) first_numbers)
    (second_pass_of own other m c world other_world w v copied interfaces first_numbers types)

-- what is left out of the other: its world `root:root/root`
abbrev pub is_left_out : Resolve → ℕ → Bool
is_left_out other n = option_map_or (is_root_world other) (world_at other n) false

-- What is left to show of packages and of how long lists are.
pub record ArePackagesMerged (own other merged : Resolve) (first : Renumbering) (left_out : ℕ → Bool) : Type 0 where
  pub few_packages : length merged.packages.items ≤ 4294967295
  pub few_interfaces : length merged.interfaces.items ≤ 4294967295
  pub few_worlds : length merged.worlds.items ≤ 4294967295
  pub few_types : length merged.types.items ≤ 4294967295
  pub packages_stand : (n : ℕ) (p : Package) → package_at other n ≡ Some p → PackageStands own merged first left_out n p

-- Where packages and lengths are so, the whole is what the laws on unions ask for.
abbrev pub PassesAreMerged : Type 0
PassesAreMerged = (own other merged : Resolve) (world other_world : ℕ) (w v : World) (m : Matches) (c : Carried) (first_numbers : List ℕ)
    (p : IsFirstPass own other merged m c first_numbers) (copied : List Bool) (interfaces types : List ℕ) → IsValid own → IsValid other →
    IsSecondPass own other merged world other_world w v m c first_numbers p copied interfaces types →
    ArePackagesMerged own other merged (first_of m.interfaces.items c (first_fates own other m.interfaces.items c) first_numbers) (is_left_out other) →
    IsMerged own other merged world other_world (first_of m.interfaces.items c (first_fates own other m.interfaces.items c) first_numbers)
    (second_pass_of own other m c world other_world w v copied interfaces first_numbers types) (is_left_out other)
