-- What is carried of packages: their names, and the names in them of what is copied.
use Rattle.std.specs.Prelude.{◌≡◌, ℕ, Bool, true, false, List, [], ◌∷◌, ◌++◌, String}
use Rattle.std.specs.{List.filter, List.AllZip, String.string_eq}
use Rattle.std.specs.declared.alloc.Global.{Global}
use Rattle.indexmap.specs.IndexMap.{IndexMap, IsUnique}
use Rattle.wit_model.specs.Text.{optional_text, text_of}
use Rattle.wit_model.specs.declared.model.{InterfaceId.InterfaceId, Package.Package, WorldId.WorldId}
use Rattle.bind_union.specs.Carried.{IsSameName}
use Rattle.bind_copy.specs.Copies.{number_under}
use Rattle.bind_add.specs.declared.added.Names.{Names}
use Rattle.bind_carry.specs.First.{flag_under}
use Rattle.bind_carry.specs.declared.plan.Carried.{Carried}

abbrev pub IsInterfaceName : List ℕ → String Global × InterfaceId → String Global × InterfaceId → Type 0
IsInterfaceName numbers old new = (text_of new.0 ≡ text_of old.0) × (new.1.0 ≡ number_under numbers old.1.0)

abbrev pub IsWorldName : List ℕ → String Global × WorldId → String Global × WorldId → Type 0
IsWorldName numbers old new = (text_of new.0 ≡ text_of old.0) × (new.1.0 ≡ number_under numbers old.1.0)

abbrev pub is_copied_interface : List Bool → String Global × InterfaceId → Bool
is_copied_interface flags e = flag_under flags e.1.0

abbrev pub is_copied_world : List Bool → String Global × WorldId → Bool
is_copied_world flags e = flag_under flags e.1.0

-- what a package gains, or a new one has: the names of what is copied, in their order
abbrev pub AreInterfaceNames : {S : Type 0} → Carried → IndexMap (String Global) InterfaceId S → IndexMap (String Global) InterfaceId S → Type 0
AreInterfaceNames c old new = IsUnique string_eq old → AllZip (IsInterfaceName c.interfaces.items)
    (filter (is_copied_interface c.copied_interfaces.items) old.entries) new.entries

abbrev pub AreWorldNames : {S : Type 0} → Carried → IndexMap (String Global) WorldId S → IndexMap (String Global) WorldId S → Type 0
AreWorldNames c old new = IsUnique string_eq old → AllZip (IsWorldName c.worlds.items) (filter (is_copied_world c.copied_worlds.items) old.entries) new.entries

-- a new package of the name of one
pub record IsPackageCarried (c : Carried) (old new : Package) : Type 0 where
  pub name : IsSameName old.name new.name
  pub docs : optional_text new.docs.contents ≡ optional_text old.docs.contents
  pub interfaces : AreInterfaceNames c old.interfaces new.interfaces
  pub worlds : AreWorldNames c old.worlds new.worlds

-- the packages that aren't new, each with its own number
abbrev pub grown_packages : List Bool → List ℕ → List Package → List (ℕ × Package)
grown_packages [] ns ps = []
grown_packages (b ∷ bs) [] ps = []
grown_packages (b ∷ bs) (n ∷ ns) [] = []
grown_packages (true ∷ bs) (n ∷ ns) (p ∷ ps) = grown_packages bs ns ps
grown_packages (false ∷ bs) (n ∷ ns) (p ∷ ps) = (n, p) ∷ grown_packages bs ns ps

-- what the package of a number gains
pub record IsGained (c : Carried) (old : ℕ × Package) (gained : Names) : Type 0 where
  pub number : gained.«package».0 ≡ old.0
  pub interfaces : AreInterfaceNames c old.1.interfaces gained.interfaces
  pub worlds : AreWorldNames c old.1.worlds gained.worlds

-- What there is are the gains of those so far, as far as some that are left.
abbrev pub GainedSoFar : Carried → List Package → List Bool → List ℕ → List Package → List Names → Type 0
GainedSoFar c packages left_flags left_numbers left done = (later : List Names) → AllZip (IsGained c) (grown_packages left_flags left_numbers left) later
    → AllZip (IsGained c) (grown_packages c.new_packages.items c.packages.items packages) (done ++ later)
