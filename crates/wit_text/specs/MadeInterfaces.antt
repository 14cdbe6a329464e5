-- Interfaces as they are made, before the packages list them.
use Rattle.std.specs.Prelude.{◌≡◌, ◌<◌, ◌∷◌, ◌++◌, ℕ, List, [], length, map, Some, None, slice_get, option_map}
use Rattle.wit_model.specs.Text.{Text, text_of}
use Rattle.wit_model.specs.declared.model.{Interface.Interface, InterfaceId.InterfaceId, TypeDef.TypeDef, TypeId.TypeId}
use Rattle.wit_model.specs.declared.model.TypeOwner.TheVariants as owner
use Rattle.wit_model.specs.declared.model.Stability.TheVariants as stability
use Rattle.print_grammar.specs.Tree.{MemberTree, PathTree}
use Rattle.print_items.specs.Shown.{shown_docs, shown_gates}
use Rattle.text_names.specs.declared.sources.{InterfaceSource.InterfaceSource, Sources.Sources}
use Rattle.text_names.specs.Contents.{text_at}
use Rattle.text_trees.specs.{Seen.cut, TreesSeen.docs_of, TreesSeen.gates_of, TreesSeen.member_of}
use Rattle.text_types.specs.declared.members.Interfaces.{Interfaces}
use Rattle.text_types.specs.{Begins.Begins, Made.MembersAre, Targets.IsMade, Targets.TargetIn}

-- ---- interfaces of the texts

-- For the interface that gets this number, a path and a name mean this type: that of an interface that was made before.
pub record UsedIn (s : Sources) (interfaces : Interfaces) (home number : ℕ) (path : PathTree) (name : Text) (id : TypeId) : Type 0 where
  pub is : TargetIn s interfaces home path name id
  pub before : is.has.made < number

-- The interface that gets this number is that of the texts.
pub record IsInterfaceMade (s : Sources) (interfaces : Interfaces) (defs : List TypeDef) (source : InterfaceSource) (number : ℕ)
    (made : Interface) : Type 0 where
  pub named : option_map text_of made.name ≡ Some (cut (text_at s.texts.now source.text) source.name)
  pub home : made.«package» ≡ Some (record { 0 = source.«package» })
  pub gates : shown_gates made.stability ≡ gates_of (text_at s.texts.now source.text) source.gates
  pub docs : shown_docs made.docs ≡ docs_of (text_at s.texts.now source.text) source.docs
  pub members : MembersAre defs (UsedIn s interfaces source.«package» number) (owner.Interface (record { 0 = number }))
      (map (member_of (text_at s.texts.now source.text)) source.members.now.items) made.types made.functions

-- The interface comes behind the others, and is that of the texts.
pub record AddsInterface (s : Sources) (old new : Interfaces) (defs : List TypeDef) (source : InterfaceSource) (number : ℕ) : Type 0 where
  pub made : Interface
  pub last : number ≡ length old.list.items
  pub list : new.list.items ≡ old.list.items ++ made ∷ []
  pub numbers : new.numbers ≡ old.numbers
  pub is : IsInterfaceMade s old defs source number made

-- Interfaces stay, and their numbers, and others come behind them.
pub record GrowsInterfaces (old new : Interfaces) : Type 0 where
  pub list : Begins old.list.items new.list.items
  pub numbers : (n made : ℕ) → slice_get old.numbers.items n ≡ Some (Some made) → slice_get new.numbers.items n ≡ Some (Some made)

-- Each interface of the texts is made.
pub record IsEachMade (s : Sources) (interfaces : Interfaces) (defs : List TypeDef) (n : ℕ) (source : InterfaceSource) : Type 0 where
  pub number : ℕ
  pub made : Interface
  pub is : IsMade interfaces n number made
  pub stands : IsInterfaceMade s interfaces defs source number made

abbrev pub AreAllMade : Sources → Interfaces → List TypeDef → Type 0
AreAllMade s interfaces defs = (n : ℕ) (source : InterfaceSource) → slice_get s.interfaces.items n ≡ Some source → IsEachMade s interfaces defs n source

-- ---- interfaces in worlds

-- The interface of this number stands in a world of the package of this number: it has no name and no documentation of its own, and what the members say.
pub record IsInlineMade (s : Sources) (interfaces : Interfaces) (defs : List TypeDef) (home : ℕ) (members : List MemberTree) (number : ℕ)
    (made : Interface) : Type 0 where
  pub unnamed : made.name ≡ None
  pub home_is : made.«package» ≡ Some (record { 0 = home })
  pub gates : made.stability ≡ stability.Unknown
  pub docs : made.docs.contents ≡ None
  pub has : MembersAre defs (TargetIn s interfaces home) (owner.Interface (record { 0 = number })) members made.types made.functions

-- It comes behind the others.
pub record AddsInline (s : Sources) (old new : Interfaces) (defs : List TypeDef) (home : ℕ) (members : List MemberTree) (number : ℕ) : Type 0 where
  pub made : Interface
  pub last : number ≡ length old.list.items
  pub list : new.list.items ≡ old.list.items ++ made ∷ []
  pub numbers : new.numbers ≡ old.numbers
  pub is : IsInlineMade s old defs home members number made

-- Such an interface stands among those that are made.
pub record InlineIn (s : Sources) (interfaces : Interfaces) (defs : List TypeDef) (home : ℕ) (members : List MemberTree) (id : InterfaceId) : Type 0 where
  pub made : Interface
  pub there : slice_get interfaces.list.items id.0 ≡ Some made
  pub is : IsInlineMade s interfaces defs home members id.0 made
