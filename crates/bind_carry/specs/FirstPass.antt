-- The first pass, by path, as the code leaves it in what is merged, and what follows of what it carries.
use Rattle.std.specs.Prelude.{◌≡◌, ◌≤◌, ◌<◌, ℕ, true, List, [], ◌++◌, length, map, Some}
use Rattle.std.specs.List.{AllZip}
use Rattle.wit_model.specs.declared.model.{Interface.Interface, Package.Package, Resolve.Resolve, TypeDef.TypeDef, World.World, WorldKey.WorldKey}
use Rattle.wit_model.specs.{Lookup.world_at, Valid.key_eq, Valid.IsValid}
use Rattle.bind_add.specs.Growth.{HaveGained, IsAddable, IsAdded}
use Rattle.bind_add.specs.declared.added.{Added.Added, Names.Names}
use Rattle.bind_copy.specs.Copies.{number_under}
use Rattle.bind_match.specs.Matching.{own_package_of}
use Rattle.bind_match.specs.declared.matches.Matches.{Matches}
use Rattle.bind_union.specs.{Carried.IsCarried, Merged.AreCopies, Merged.IsWorldCopy}
use Rattle.bind_carry.specs.{Fates.AreCopied, First.first_fates, First.flag_under, Packaged.IsPackageCarried, Which.AreMatchedAll, Which.IsNumbered, MatchedSame.AreMatchedAt, MatchedSame.NoneOfPath, Renumbered.first_of, Whole.kept, Whole.IsInterfaceCarried, Whole.IsWorldCarried}
use Rattle.bind_carry.specs.Union.{IsUnionOf}
use Rattle.bind_carry.specs.declared.plan.Carried.{Carried}

-- What is matched has one name, or one path and one sense. Types and interfaces are copied behind own ones, under the numbers that the matches and what is
-- chosen
-- give; own packages gain names, and new packages and worlds stand behind own ones.
pub record IsFirstPass (own other merged : Resolve) (m : Matches) (c : Carried) (numbers : List ℕ) : Type 0 where
  pub numbered : IsNumbered own other m c
  pub all : AreMatchedAll other m
  pub by_name : m.packages.items ≡ map (own_package_of own.packages.items) other.packages.items
  pub same : AreMatchedAt own other m.interfaces.items c.packages.items
  pub none : NoneOfPath own other m.interfaces.items
  pub new_types : List TypeDef
  pub types : AreCopied (length own.types.items) numbers other.types.items (first_fates own other m.interfaces.items c) [] new_types
  pub more_types : List TypeDef
  pub types_here : merged.types.items ≡ own.types.items ++ (new_types ++ more_types)
  pub new_interfaces : List Interface
  pub interfaces : AllZip (IsInterfaceCarried c numbers) (kept c.copied_interfaces.items other.interfaces.items) new_interfaces
  pub more_interfaces : List Interface
  pub interfaces_here : merged.interfaces.items ≡ own.interfaces.items ++ (new_interfaces ++ more_interfaces)
  pub gains : List Names
  pub grown : List Package
  pub gained : HaveGained gains own.packages.items grown
  pub new_packages : List Package
  pub packages : AllZip (IsPackageCarried c) (kept c.new_packages.items other.packages.items) new_packages
  pub packages_here : merged.packages.items ≡ grown ++ new_packages
  -- own worlds, of which the bound one has grown
  pub own_worlds : List World
  pub own_count : length own_worlds ≡ length own.worlds.items
  pub new_worlds : List World
  pub worlds : AllZip (IsWorldCarried c numbers) (kept c.copied_worlds.items other.worlds.items) new_worlds
  pub worlds_here : merged.worlds.items ≡ own_worlds ++ new_worlds

-- It is carried as the laws on unions ask for it.
abbrev pub FirstIsCarried : Type 0
FirstIsCarried = (own other merged : Resolve) (m : Matches) (c : Carried) (numbers : List ℕ) → IsValid own → IsValid other
    → IsFirstPass own other merged m c numbers →
    IsCarried other merged (first_of m.interfaces.items c (first_fates own other m.interfaces.items c) numbers)

-- Its copies stand behind own entries, and inline interfaces come with the world that shows them.
abbrev pub FirstIsCopied : Type 0
FirstIsCopied = (own other merged : Resolve) (m : Matches) (c : Carried) (numbers : List ℕ) → IsValid own → IsValid other
    → IsFirstPass own other merged m c numbers →
    AreCopies own other merged (first_of m.interfaces.items c (first_fates own other m.interfaces.items c) numbers)

-- Each world whose flag is set is copied whole, behind own ones.
abbrev pub FirstWorldsAreCopied : Type 0
FirstWorldsAreCopied = (own other merged : Resolve) (m : Matches) (c : Carried) (numbers : List ℕ) → IsValid own → IsValid other
    → IsFirstPass own other merged m c numbers →
    (n : ℕ) → flag_under c.copied_worlds.items n ≡ true →
    IsWorldCopy other merged (first_of m.interfaces.items c (first_fates own other m.interfaces.items c) numbers) n
    × (length own.worlds.items ≤ number_under c.worlds.items n)

-- What a union adds, once it is added, has the first pass, where what is matched has one name, or one path and one sense.
abbrev pub UnionsHaveTheFirst : Type 0
UnionsHaveTheFirst = (own other merged : Resolve) (world other_world : ℕ) (m : Matches) (w v : World) (added : Added) (keys : List WorldKey)
    (u : IsUnionOf own other world other_world m w v added keys) →
    IsAdded key_eq world added own merged → world_at own world ≡ Some w → AreMatchedAll other m
    → m.packages.items ≡ map (own_package_of own.packages.items) other.packages.items →
    AreMatchedAt own other m.interfaces.items u.carried.packages.items → NoneOfPath own other m.interfaces.items
    → IsFirstPass own other merged m u.carried u.types

-- And it can be added: names are of own packages, and of none twice.
abbrev pub UnionsAreAddable : Type 0
UnionsAreAddable = (own other : Resolve) (world other_world : ℕ) (m : Matches) (w v : World) (added : Added) (keys : List WorldKey) → IsValid other
    → IsUnionOf own other world other_world m w v added keys →
    world < length own.worlds.items → m.packages.items ≡ map (own_package_of own.packages.items) other.packages.items → IsAddable own world added
