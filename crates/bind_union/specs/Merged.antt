-- What it is for one `Resolve` to be another one merged into an own one, entry by entry.
-- What is carried is copied behind the own entries, in the other's order; what the other's bound world shows is copied once more, behind that.
use Rattle.std.specs.Prelude.{◌≡◌, ◌<◌, ◌≤◌, ◌⊎◌, ℕ, Bool, true, false, ◌==◌, List, [], ◌∷◌, ◌++◌, map, length, Some, None, option_map, filter_map}
use Rattle.std.specs.List.{Contains, list_any}
use Rattle.wit_model.specs.declared.model.{Resolve.Resolve, Package.Package, Interface.Interface, World.World}
use Rattle.wit_model.specs.{Text.Text, Text.text_of, Text.text_eq, Uses.has, Uses.item_interface, Uses.items_of}
use Rattle.wit_model.specs.{Lookup.package_at, Lookup.interface_at, Lookup.world_at, Rules.package_number, Rules.same_package_name}
use Rattle.bind_union.specs.{Carried.Renumbering, Carried.IsCarried, Carried.IsSameName, Carried.stability_view, Joined.IsJoined}

-- the second list begins with the first
abbrev pub BeginsWith : {X : Type 0} → List X → List X → Type 0
BeginsWith {X} xs ys = (more : List X) × (ys ≡ xs ++ more)

-- ---- packages

abbrev pub interface_names : Package → List (Text × ℕ)
interface_names p = map (λ e. (text_of e.0, e.1.0)) p.interfaces.entries

abbrev pub world_names : Package → List (Text × ℕ)
world_names p = map (λ e. (text_of e.0, e.1.0)) p.worlds.entries

abbrev pub is_name : Text → List (Text × ℕ) → Bool
is_name name own = list_any (λ (e : Text × ℕ). text_eq name e.0) own

-- The names one after the other: one that was there stands for each that was there, some are left out, and copies are added.
pub data JoinedNames (number : ℕ → ℕ) (copies left_out : ℕ → Bool) (own : List (Text × ℕ)) : List (Text × ℕ) → List (Text × ℕ) → Type 0 where
  none : JoinedNames number copies left_out own [] []
  met : (name : Text) (old : ℕ) (olds news : List (Text × ℕ)) → Contains own (name, number old) → JoinedNames number copies left_out own olds news
      → JoinedNames number copies left_out own ((name, old) ∷ olds) news
  left : (name : Text) (old : ℕ) (olds news : List (Text × ℕ)) → left_out old ≡ true → JoinedNames number copies left_out own olds news
      → JoinedNames number copies left_out own ((name, old) ∷ olds) news
  added : (name : Text) (old : ℕ) (olds news : List (Text × ℕ)) → copies old ≡ true → left_out old ≡ false → is_name name own ≡ false
      → JoinedNames number copies left_out own olds news → JoinedNames number copies left_out own ((name, old) ∷ olds) ((name, number old) ∷ news)

-- A package of the other stands in a package behind the names that were there.
pub record IsJoinedPackage (merged : Resolve) (f : Renumbering) (left_out : ℕ → Bool) (n : ℕ) (old : Package)
    (own_interfaces own_worlds : List (Text × ℕ)) : Type 0 where
  pub image : Package
  pub at_image : package_at merged (f.packages n) ≡ Some image
  pub new_interfaces : List (Text × ℕ)
  pub interfaces : interface_names image ≡ own_interfaces ++ new_interfaces
  pub joined_interfaces : JoinedNames f.interfaces f.copies_interface (λ m. false) own_interfaces (interface_names old) new_interfaces
  pub new_worlds : List (Text × ℕ)
  pub worlds : world_names image ≡ own_worlds ++ new_worlds
  pub joined_worlds : JoinedNames f.worlds f.carries_world left_out own_worlds (world_names old) new_worlds

-- where a package of the other stands
pub data PackageStands (own merged : Resolve) (f : Renumbering) (left_out : ℕ → Bool) (n : ℕ) (old : Package) : Type 0 where
  -- in an own one of its name: what is an interface in one is no world in the other
  grown : (p : Package) → package_at own (f.packages n) ≡ Some p → IsJoinedPackage merged f left_out n old (interface_names p) (world_names p)
      → ((name : Text) → is_name name (interface_names old) ≡ true → is_name name (world_names p) ≡ false)
      → ((name : Text) (w : ℕ) → Contains (world_names old) (name, w) → left_out w ≡ false → is_name name (interface_names p) ≡ false)
      → PackageStands own merged f left_out n old
  -- in a new one, where no own one has its name
  brought : length own.packages.items ≤ f.packages n → IsJoinedPackage merged f left_out n old [] []
      → ((k : ℕ) (p : Package) → package_at own k ≡ Some p → same_package_name p.name old.name ≡ false)
      → PackageStands own merged f left_out n old

-- an own package to which nothing comes
pub record IsKeptPackage (own merged : Resolve) (n : ℕ) : Type 0 where
  pub old : Package
  pub found : package_at own n ≡ Some old
  pub image : Package
  pub at_image : package_at merged n ≡ Some image
  pub interfaces : interface_names image ≡ interface_names old
  pub worlds : world_names image ≡ world_names old

-- a package in which one of the other stands
pub record IsPackageOf (other : Resolve) (f : Renumbering) (n : ℕ) : Type 0 where
  pub number : ℕ
  pub old : Package
  pub found : package_at other number ≡ Some old
  pub here : f.packages number ≡ n

-- ---- worlds

-- A world is copied whole.
pub record IsWorldCopy (r s : Resolve) (f : Renumbering) (n : ℕ) : Type 0 where
  pub joined : IsJoined r s f n [] []
  pub name : text_of joined.image.name ≡ text_of joined.old.name
  pub stability : stability_view joined.image.stability ≡ stability_view joined.old.stability
  pub in_package : package_number joined.image.«package» ≡ option_map f.packages (package_number joined.old.«package»)

-- ---- the whole

-- the number is a copy's
abbrev pub IsCopyUnder : (ℕ → ℕ) → (ℕ → Bool) → ℕ → Type 0
IsCopyUnder f copies n = (m : ℕ) × (copies m ≡ true) × (f m ≡ n)

-- the copies of one renumbering
pub record AreCopies (own other merged : Resolve) (f : Renumbering) : Type 0 where
  pub carried : IsCarried other merged f
  pub new_types : (m : ℕ) → f.copies_type m ≡ true → length own.types.items ≤ f.types m
  pub new_interfaces : (m : ℕ) → f.copies_interface m ≡ true → length own.interfaces.items ≤ f.interfaces m
  -- an inline interface stands for no other
  pub inline_copied : (m : ℕ) (i : Interface) → f.carries_interface m ≡ true → interface_at other m ≡ Some i → i.name ≡ None → f.copies_interface m ≡ true
  -- and is copied with the world that shows it
  pub inline_shown : (m : ℕ) (i : Interface) (n : ℕ) (w : World) → f.copies_interface m ≡ true → interface_at other m ≡ Some i → i.name ≡ None
      → world_at other n ≡ Some w → has (filter_map item_interface (items_of w)) m ≡ true → f.carries_world n ≡ true

pub record IsMerged (own other merged : Resolve) (bound other_bound : ℕ) (first second : Renumbering) (left_out : ℕ → Bool) : Type 0 where
  -- no list is too long
  pub few_packages : length merged.packages.items ≤ 4294967295
  pub few_interfaces : length merged.interfaces.items ≤ 4294967295
  pub few_worlds : length merged.worlds.items ≤ 4294967295
  pub few_types : length merged.types.items ≤ 4294967295
  -- own numbers stay
  pub types : BeginsWith own.types.items merged.types.items
  pub interfaces : BeginsWith own.interfaces.items merged.interfaces.items
  pub packages : (n : ℕ) (p : Package) → package_at own n ≡ Some p → (q : Package) × (package_at merged n ≡ Some q) × IsSameName p.name q.name
  pub worlds : (n : ℕ) (w : World) → world_at own n ≡ Some w → (n == bound) ≡ false → world_at merged n ≡ Some w
  -- copies
  pub first_copies : AreCopies own other merged first
  pub second_copies : AreCopies own other merged second
  pub second_behind : (m k : ℕ) → first.copies_interface m ≡ true → second.copies_interface k ≡ true → first.interfaces m < second.interfaces k
  pub second_inline : (m : ℕ) (i : Interface) → second.copies_interface m ≡ true → interface_at other m ≡ Some i → i.name ≡ None
  -- an inline interface has its world's package
  pub first_packages : (m : ℕ) (c : first.carries_interface m ≡ true)
      → package_number (first_copies.carried.interfaces m c).image.«package» ≡ option_map first.packages
      (package_number (first_copies.carried.interfaces m c).old.«package»)
  -- worlds
  pub first_worlds : (m : ℕ) → first.carries_world m ≡ true → IsWorldCopy other merged first m
  pub new_worlds : (m : ℕ) → first.carries_world m ≡ true → length own.worlds.items ≤ first.worlds m
  pub second_worlds : (m : ℕ) → second.carries_world m ≡ true → m ≡ other_bound
  pub own_bound : World
  pub bound_at : world_at own bound ≡ Some own_bound
  pub joined : IsJoined other merged second other_bound own_bound.imports.entries own_bound.exports.entries
  pub bound_there : second.worlds other_bound ≡ bound
  pub bound_name : joined.image.name ≡ own_bound.name
  pub bound_stability : joined.image.stability ≡ own_bound.stability
  pub bound_package : joined.image.«package» ≡ own_bound.«package»
  pub second_package : (m : ℕ) (c : second.carries_interface m ≡ true) → second.copies_interface m ≡ true
      → package_number (second_copies.carried.interfaces m c).image.«package» ≡ package_number own_bound.«package»
  pub not_left_out : (m : ℕ) → first.carries_world m ≡ true → left_out m ≡ false
  -- nothing else
  pub type_from : (n : ℕ) → length own.types.items ≤ n → n < length merged.types.items → IsCopyUnder first.types first.copies_type n
      ⊎ IsCopyUnder second.types second.copies_type n
  pub interface_from : (n : ℕ) → length own.interfaces.items ≤ n → n < length merged.interfaces.items → IsCopyUnder first.interfaces first.copies_interface n
      ⊎ IsCopyUnder second.interfaces second.copies_interface n
  pub world_from : (n : ℕ) → length own.worlds.items ≤ n → n < length merged.worlds.items → IsCopyUnder first.worlds first.carries_world n
  pub package_from : (n : ℕ) → n < length merged.packages.items → IsKeptPackage own merged n ⊎ IsPackageOf other first n
  pub packages_stand : (n : ℕ) (p : Package) → package_at other n ≡ Some p → PackageStands own merged first left_out n p
