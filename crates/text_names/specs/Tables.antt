-- What is known of texts: their packages, interfaces and worlds by number, and tables of their names.
use Rattle.std.specs.Prelude.{◌≡◌, ◌≤◌, ◌^◌, length, ℕ, Bool, true, false, not, ◌&&◌, nat_eq}
use Rattle.std.specs.Prelude.{List, [], ◌∷◌, ◌++◌, map, filter, Option, Some, None, slice_get, if◌then◌else◌}
use Rattle.std.specs.List.{AllZip, flat_map}
use Rattle.std.specs.Map.{lookup}
use Rattle.std.specs.Option.{option_map}
use Rattle.std.specs.Borrow.{Bor}
use Rattle.wit_model.specs.Text.{Text, text_eq}
use Rattle.print_grammar.specs.Tree.{PackageHead}
use Rattle.text_plain.specs.declared.files.{ItemTree.ItemTree as CodeItem, PackageTree.PackageTree as CodePackage}
use Rattle.text_plain.specs.declared.files.ItemTree.TheVariants as kinds
use Rattle.text_trees.specs.Seen.{cut}
use Rattle.text_plain.specs.FilesSeen.{item_of}
use Rattle.text_trees.specs.TreesSeen.{head_of}
use Rattle.text_names.specs.declared.source.Source.{Source}
use Rattle.text_names.specs.declared.sources.{InterfaceSource.InterfaceSource, Named.Named, WorldSource.WorldSource}
use Rattle.text_names.specs.declared.sources.{PackageSource.PackageSource, PackageTexts.PackageTexts, Sources.Sources}
use Rattle.text_names.specs.declared.sources.Named.TheVariants as named
use Rattle.text_names.specs.declared.error.Fault.{Fault}
use Rattle.text_names.specs.Contents.{Item, AreFirsts, AreNamedApart, IsFaultOf, is_interface, item_in, items_in, text_at}

-- what names a package, by its key
abbrev pub head_of_key : PackageTexts → PackageHead
head_of_key key = record { docs = []; namespace = key.namespace.now; name = key.name.now; version = option_map (λ v. v.now) key.version }

-- what names a package
abbrev pub head_there : List Source → PackageSource → PackageHead
head_there texts it = head_of (text_at texts it.text) it.head

-- what names the packages, by number
abbrev pub heads_of : Sources → List PackageHead
heads_of s = map (head_there s.texts.now) s.packages.items

-- an interface's package, by number, and its name
abbrev pub interface_key : List Source → InterfaceSource → ℕ × Text
interface_key texts it = (it.«package», cut (text_at texts it.text) it.name)

-- a world's package, by number, and its name
abbrev pub world_key : List Source → WorldSource → ℕ × Text
world_key texts it = (it.«package», cut (text_at texts it.text) it.name)

-- ---- tables

abbrev pub Entries : Type 0
Entries = List ((ℕ × Bor (List ℕ)) × Named)

-- whether a key is this package and name
abbrev pub same_key : ℕ × Text → ℕ × Bor (List ℕ) → Bool
same_key key own = nat_eq key.0 own.0 && text_eq key.1 own.1.now

-- what has this package and name
abbrev pub entry_of : Entries → ℕ × Text → Option Named
entry_of entries key = lookup (same_key key) entries

-- the number of what is found, if it is an interface
abbrev pub interface_in : Option Named → Option ℕ
interface_in None = None
interface_in (Some it) = number it
  where
    number : Named → Option ℕ
    number (named.Interface n) = Some n
    number (named.World n) = None

-- Exactly what is listed is found under its key, by number.
pub record Finds (entries : Entries) (numbered : ℕ → Named) (keys : List (ℕ × Text)) : Type 0 where
  pub found : (key : ℕ × Text) (n : ℕ) → entry_of entries key ≡ Some (numbered n) → slice_get keys n ≡ Some key
  pub has : (n : ℕ) (key : ℕ × Text) → slice_get keys n ≡ Some key → entry_of entries key ≡ Some (numbered n)

-- The tables are those of the packages, interfaces and worlds.
pub record IsIndex (s : Sources) : Type 0 where
  pub numbers : map head_of_key s.numbers.keys ≡ heads_of s
  pub few : length s.numbers.keys ≤ 2 ^ 32
  pub apart : (m n : ℕ) (head : PackageHead) → slice_get (heads_of s) m ≡ Some head → slice_get (heads_of s) n ≡ Some head → m ≡ n
  pub interfaces : Finds s.names.entries named.Interface (map (interface_key s.texts.now) s.interfaces.items)
  pub worlds : Finds s.names.entries named.World (map (world_key s.texts.now) s.worlds.items)

-- ---- what is declared

-- The package of this number has this name.
abbrev pub IsNumberOf : Sources → PackageHead → ℕ → Type 0
IsNumberOf s head n = slice_get (heads_of s) n ≡ Some head

-- This is the interface.
pub record IsInterface (s : Sources) (item : Item) (it : InterfaceSource) : Type 0 where
  pub text : it.text ≡ item.text
  pub home : IsNumberOf s item.home it.«package»
  pub at : it.name ≡ item.at
  pub tree : item_of (text_at s.texts.now it.text) (kinds.InterfaceItem it.docs it.gates it.name it.members.now) ≡ item.tree

-- This is the world.
pub record IsWorld (s : Sources) (item : Item) (it : WorldSource) : Type 0 where
  pub text : it.text ≡ item.text
  pub home : IsNumberOf s item.home it.«package»
  pub at : it.name ≡ item.at
  pub tree : item_of (text_at s.texts.now it.text) (kinds.WorldItem it.docs it.gates it.name it.members.now) ≡ item.tree

-- Packages stand once, in the order in which they come first; interfaces and worlds in theirs; and no name stands twice in a package.
pub record Declares (s : Sources) (heads : List PackageHead) (items : List Item) (begun : List PackageHead) : Type 0 where
  pub packages : AreFirsts heads (heads_of s)
  pub mains : AllZip (IsNumberOf s) begun s.mains.items
  pub interfaces : AllZip (IsInterface s) (filter is_interface items) s.interfaces.items
  pub worlds : AllZip (IsWorld s) (filter (λ item. not (is_interface item)) items) s.worlds.items
  pub apart : AreNamedApart items

-- These are added to what is declared.
pub record Adds (old new : Sources) (heads : List PackageHead) (items : List Item) (mains : List PackageHead) : Type 0 where
  pub index : IsIndex new
  pub texts : new.texts.now ≡ old.texts.now
  pub grows : (n : ℕ) (head : PackageHead) → IsNumberOf old head n → IsNumberOf new head n
  pub declares : (hs : List PackageHead) (is : List Item) (ms : List PackageHead) → Declares old hs is ms
      → Declares new (hs ++ heads) (is ++ items) (ms ++ mains)

-- These can't be added to what is declared.
abbrev pub Fails : Sources → List Item → Fault → Type 0
Fails old items fault = (hs : List PackageHead) (is : List Item) (ms : List PackageHead) → Declares old hs is ms → IsFaultOf (is ++ items) fault

-- The name is put into the table, or it stands there.
pub record Puts (old : Entries) (key : ℕ × Text) (it : Named) (new : Entries) : Type 0 where
  pub fresh : entry_of old key ≡ None
  pub finds : (q : ℕ × Text) → entry_of new q ≡ (if nat_eq q.0 key.0 && text_eq q.1 key.1 then Some it else entry_of old q)

abbrev pub PutsOrStands : Entries → ℕ × Text → Named → Entries → Bool → Type 0
PutsOrStands old key it new true = Puts old key it new
PutsOrStands old key it new false = (other : Named) × (entry_of old key ≡ Some other)

-- a package has this number from now on
pub record Numbers (old new : Sources) (head : PackageHead) (n : ℕ) : Type 0 where
  pub adds : Adds old new (head ∷ []) [] []
  pub number : IsNumberOf new head n

-- Items of the package of this number are added to what is declared.
pub record AddsItems (old new : Sources) (number text : ℕ) (items : List CodeItem) : Type 0 where
  pub index : IsIndex new
  pub texts : new.texts.now ≡ old.texts.now
  pub adds : (home : PackageHead) → IsNumberOf old home number → Adds old new [] (map (item_in text (text_at old.texts.now text) home) items) []

-- Items of the package of this number can't be added to what is declared.
abbrev pub FailsItems : Sources → ℕ → ℕ → List CodeItem → Fault → Type 0
FailsItems old number text items fault =
    (home : PackageHead) → IsNumberOf old home number → Fails old (map (item_in text (text_at old.texts.now text) home) items) fault

-- Packages of the text of this number, and their items, are added to what is declared.
abbrev pub AddsPackages : Sources → Sources → ℕ → List CodePackage → Type 0
AddsPackages old new text trees =
    Adds old new (map (λ it. head_of (text_at old.texts.now text) it.head) trees) (flat_map (items_in text (text_at old.texts.now text)) trees) []

-- Packages of the text of this number can't be added to what is declared.
abbrev pub FailsPackages : Sources → ℕ → List CodePackage → Fault → Type 0
FailsPackages old text trees fault = Fails old (flat_map (items_in text (text_at old.texts.now text)) trees) fault
