-- Worlds as they are made, before the packages list them.
use Rattle.std.specs.Prelude.{◌≡◌, ℕ, List, length, map, Some, slice_get}
use Rattle.std.specs.{List.filter_map}
use Rattle.wit_model.specs.Text.{text_of}
use Rattle.wit_model.specs.declared.model.{InterfaceId.InterfaceId, TypeDef.TypeDef, World.World}
use Rattle.wit_model.specs.declared.model.TypeOwner.TheVariants as owner
use Rattle.print_grammar.specs.Tree.{PathTree}
use Rattle.print_items.specs.Shown.{shown_docs, shown_gates}
use Rattle.text_names.specs.declared.sources.{Sources.Sources, WorldSource.WorldSource}
use Rattle.text_names.specs.Contents.{text_at}
use Rattle.text_trees.specs.{Seen.cut, TreesSeen.docs_of, TreesSeen.gates_of, TreesSeen.world_member_of}
use Rattle.text_types.specs.declared.members.Interfaces.{Interfaces}
use Rattle.text_types.specs.{Targets.MeansInterface, Targets.TargetIn}
use Rattle.text_shown.specs.ShowsWorlds.{export_of, ExportsAre, ExternIs, ImportsAre, Stated}
use Rattle.wit_text.specs.{Items.WorldEntry, MadeInterfaces.InlineIn}

-- From the package of this number, a path means the interface of the other number of those that are made.
pub record PathIn (s : Sources) (interfaces : Interfaces) (home : ℕ) (path : PathTree) (id : InterfaceId) : Type 0 where
  pub number : ℕ
  pub means : MeansInterface s home path number
  pub made : slice_get interfaces.numbers.items number ≡ Some (Some id.0)

-- An entry of a world of the package of this number is what is stated.
abbrev pub StatedIn : Sources → Interfaces → List TypeDef → ℕ → Stated → WorldEntry → Type 0
StatedIn s interfaces defs home stated entry =
    ExternIs defs (PathIn s interfaces home) (InlineIn s interfaces defs home) stated.prefix stated.extern entry

-- The world that gets this number is that of the texts.
pub record IsWorldMade (s : Sources) (interfaces : Interfaces) (defs : List TypeDef) (source : WorldSource) (number : ℕ) (made : World) : Type 0 where
  pub named : text_of made.name ≡ cut (text_at s.texts.now source.text) source.name
  pub home : made.«package» ≡ Some (record { 0 = source.«package» })
  pub gates : shown_gates made.stability ≡ gates_of (text_at s.texts.now source.text) source.gates
  pub docs : shown_docs made.docs ≡ docs_of (text_at s.texts.now source.text) source.docs
  pub imports : ImportsAre defs (TargetIn s interfaces source.«package») (StatedIn s interfaces defs source.«package») (owner.World (record { 0 = number }))
      (map (world_member_of (text_at s.texts.now source.text)) source.members.now.items) made.imports.entries
  pub exports : ExportsAre (StatedIn s interfaces defs source.«package»)
      (filter_map export_of (map (world_member_of (text_at s.texts.now source.text)) source.members.now.items)) made.exports.entries

-- The world of this number is made.
pub record IsEachWorldMade (s : Sources) (interfaces : Interfaces) (defs : List TypeDef) (worlds : List World) (n : ℕ) (source : WorldSource) : Type 0 where
  pub made : World
  pub there : slice_get worlds n ≡ Some made
  pub is : IsWorldMade s interfaces defs source n made

-- All worlds of the texts are made, and no others.
pub record AreWorldsMade (s : Sources) (interfaces : Interfaces) (defs : List TypeDef) (worlds : List World) : Type 0 where
  pub many : length worlds ≡ length s.worlds.items
  pub each : (n : ℕ) (source : WorldSource) → slice_get s.worlds.items n ≡ Some source → IsEachWorldMade s interfaces defs worlds n source
