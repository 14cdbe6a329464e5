-- A world while it is made: what it states by path, and which interfaces stand among its imports, or among its exports, so far.
use Rattle.std.specs.Prelude.{◌≡◌, ◌∷◌, ◌<◌, ◌++◌, Bool, true, false, ℕ, nat_eq, List, [], length, map, Option, Some, is_some, slice_get, Contains, String}
use Rattle.std.specs.{Borrow.Bor, List.filter_map}
use Rattle.std.specs.declared.{alloc.Global.Global, hash.BuildHasherDefault.BuildHasherDefault, hash.FoldHasher.FoldHasher}
use Rattle.indexmap.specs.IndexMap.{IndexMap, get}
use Rattle.wit_model.specs.Text.{text_of}
use Rattle.wit_model.specs.declared.model.{TypeDef.TypeDef, WorldItem.WorldItem}
use Rattle.wit_model.specs.declared.model.WorldKey.TheVariants as key
use Rattle.print_grammar.specs.Tree.{ExternTree, ExternTree.Path, PathTree, Prefix, WorldMember}
use Rattle.text_names.specs.declared.sources.Sources.{Sources}
use Rattle.text_names.specs.{Contents.text_at, Tables.IsIndex}
use Rattle.text_trees.specs.declared.tree.Prefix.{Prefix as CodePrefix}
use Rattle.text_trees.specs.TreesSeen.{prefix_of, world_member_of}
use Rattle.text_types.specs.declared.members.Interfaces.{Interfaces}
use Rattle.text_types.specs.{Begins.Begins, Targets.MeansInterface}
use Rattle.text_shown.specs.ShowsWorlds.{export_of, import_of, IsOneOf, StandsIn, Stated}
use Rattle.wit_text.specs.Items.{path_key, IsStated, WorldEntry}
use Rattle.wit_text.specs.{MadeWorlds.StatedIn, Puts.number_at, Puts.IsFrontedBy}
use Rattle.wit_text.specs.declared.given.Given.{Given}

-- ---- what a world states by path

-- what stands in front of each interface that is stated by path
abbrev pub Fronts : Type 0
Fronts = IndexMap ℕ (Bor CodePrefix) (BuildHasherDefault FoldHasher)

-- one that is stated, with this in front of it
abbrev pub one_stated : Prefix → ExternTree → List Stated
one_stated prefix extern = record { prefix = prefix; extern = extern } ∷ []

-- An interface with this in front of it is stated by path.
pub record IsStatedPath (s : Sources) (home : ℕ) (text : List ℕ) (all : List Stated) (n : ℕ) (front : Bor CodePrefix) : Type 0 where
  pub path : PathTree
  pub means : MeansInterface s home path n
  pub among : Contains all (record { prefix = prefix_of text front.now; extern = Path path })

-- The path is that of an interface with this in front of it.
pub record HasFront (s : Sources) (home : ℕ) (text : List ℕ) (fronts : Fronts) (prefix : Prefix) (path : PathTree) : Type 0 where
  pub n : ℕ
  pub front : Bor CodePrefix
  pub means : MeansInterface s home path n
  pub has : get nat_eq fronts n ≡ Some front
  pub same : prefix_of text front.now ≡ prefix

-- These are the interfaces that are stated by path.
pub record AreFronts (s : Sources) (home : ℕ) (text : List ℕ) (all : List Stated) (fronts : Fronts) : Type 0 where
  pub sound : (n : ℕ) (front : Bor CodePrefix) → get nat_eq fronts n ≡ Some front → IsStatedPath s home text all n front
  pub complete : (prefix : Prefix) (path : PathTree) → Contains all (record { prefix = prefix; extern = Path path }) → HasFront s home text fronts prefix path

-- What is stated comes to the interfaces that are stated by path.
pub record AddsFronts (s : Sources) (home : ℕ) (text : List ℕ) (old new : Fronts) (added : List Stated) : Type 0 where
  pub on : (seen : List Stated) → AreFronts s home text seen old → AreFronts s home text (seen ++ added) new

-- ---- a world that is made

-- the texts, the package, the text and the members of a world
abbrev pub sources_in : Given → Sources
sources_in given = given.around.now.sources.now

abbrev pub home_in : Given → ℕ
home_in given = given.world.now.«package»

abbrev pub text_of_world : Given → List ℕ
text_of_world given = given.text.text.now

abbrev pub members_in : Given → List WorldMember
members_in given = map (world_member_of (text_of_world given)) given.world.now.members.now.items

-- imports, or exports: what stands in front of those that are stated by path, whether they alone stand there by path, and all that is stated there
pub record Side : Type 0 where
  pub fronts : Fronts
  pub alone : Bool
  pub all : List Stated

abbrev pub imports_in : Given → Side
imports_in given = record { fronts = given.paths.now.imports; alone = false; all = filter_map import_of (members_in given) }

abbrev pub exports_in : Given → Side
exports_in given = record { fronts = given.paths.now.exports; alone = true; all = filter_map export_of (members_in given) }

-- Each interface of the texts has a number among those that are made, and no two have the same.
pub record AreNumbered (s : Sources) (numbers : List (Option ℕ)) : Type 0 where
  pub made : (n : ℕ) → n < length s.interfaces.items → slice_get numbers n ≡ Some (Some (number_at numbers n))
  pub apart : (m n : ℕ) → m < length s.interfaces.items → n < length s.interfaces.items → number_at numbers m ≡ number_at numbers n → m ≡ n

-- The world stands in the text of its number.
pub record IsInText (given : Given) : Type 0 where
  pub index : IsIndex (sources_in given)
  pub number : given.text.number ≡ given.world.now.text
  pub text : text_at (sources_in given).texts.now given.world.now.text ≡ text_of_world given

-- All that is given of a world is so, with the interfaces that are made.
pub record IsGiven (given : Given) (interfaces : Interfaces) : Type 0 where
  pub here : IsInText given
  pub imports : AreFronts (sources_in given) (home_in given) (text_of_world given) (imports_in given).all (imports_in given).fronts
  pub exports : AreFronts (sources_in given) (home_in given) (text_of_world given) (exports_in given).all (exports_in given).fronts
  pub numbered : AreNumbered (sources_in given) interfaces.numbers.items

-- ---- what stands there so far

-- An entry is an interface of the texts under its path: with what the world states in front of it, or with nothing.
pub record IsPut (given : Given) (interfaces : Interfaces) (side : Side) (entry : WorldEntry) : Type 0 where
  pub n : ℕ
  pub item : WorldItem
  pub is : entry ≡ (path_key (number_at interfaces.numbers.items n), item)
  pub declared : n < length (sources_in given).interfaces.items
  pub fronted : IsFrontedBy (text_of_world given) (get nat_eq side.fronts n) (number_at interfaces.numbers.items n) item
  pub alone : side.alone ≡ true → is_some (get nat_eq side.fronts n) ≡ true

-- Entries are put behind the others, all of them interfaces under their paths.
pub record AddsPaths (given : Given) (interfaces : Interfaces) (side : Side) (old new : List WorldEntry) : Type 0 where
  pub more : List WorldEntry
  pub is : new ≡ old ++ more
  pub put : (entry : WorldEntry) → Contains more entry → IsPut given interfaces side entry

-- The entry stands under a label.
pub record HasLabel (entry : WorldEntry) : Type 0 where
  pub label : String Global
  pub is : entry.0 ≡ key.Name label

-- An entry is an interface under its path, or it is stated under a label.
pub data IsKnown (given : Given) (interfaces : Interfaces) (defs : List TypeDef) (side : Side) (entry : WorldEntry) : Type 0 where
  a_path : IsPut given interfaces side entry → IsKnown given interfaces defs side entry
  a_label : HasLabel entry → IsOneOf (StatedIn (sources_in given) interfaces defs (home_in given)) side.all entry → IsKnown given interfaces defs side entry

-- What was seen stands among the entries, and each of them is known.
pub record Holds (given : Given) (interfaces : Interfaces) (defs : List TypeDef) (side : Side) (seen : List Stated) (entries : List WorldEntry) : Type 0 where
  pub stated : (one : Stated) → Contains seen one → StandsIn (StatedIn (sources_in given) interfaces defs (home_in given)) entries one
  pub only : (entry : WorldEntry) → Contains entries entry → IsKnown given interfaces defs side entry

-- ---- how it grows

-- Interfaces come behind the others; those of the texts keep their numbers.
pub record GrowsInline (old new : Interfaces) : Type 0 where
  pub list : Begins old.list.items new.list.items
  pub numbers : new.numbers ≡ old.numbers

-- What is stated comes to the entries, as interfaces and definitions grow.
pub record Continues (given : Given) (side : Side) (old new : Interfaces) (defs after : List TypeDef) (entries more : List WorldEntry) (added : List Stated)
    : Type 0 where
  pub on : (seen : List Stated) → Holds given old defs side seen entries → Holds given new after side (seen ++ added) more

-- The same where interfaces stay, by any definitions.
pub record Extends (given : Given) (side : Side) (interfaces : Interfaces) (entries more : List WorldEntry) (added : List Stated) : Type 0 where
  pub on : (defs : List TypeDef) (seen : List Stated) → Holds given interfaces defs side seen entries
      → Holds given interfaces defs side (seen ++ added) more

-- All of it is stated there.
abbrev pub AreAmong : List Stated → List Stated → Type 0
AreAmong added all = (one : Stated) → Contains added one → Contains all one

-- ---- entries under labels

-- An item is put behind the others, under this name.
pub record AddsNamed (name : List ℕ) (item : WorldItem) (old new : List WorldEntry) : Type 0 where
  pub label : String Global
  pub named : text_of label ≡ name
  pub is : new ≡ old ++ (key.Name label, item) ∷ []

-- An interface is put behind the others, under this name, and with this in front of it.
pub record AddsLabel (text : List ℕ) (prefix : CodePrefix) (name : List ℕ) (number : ℕ) (old new : List WorldEntry) : Type 0 where
  pub item : WorldItem
  pub fronted : IsStated text prefix number item
  pub adds : AddsNamed name item old new
