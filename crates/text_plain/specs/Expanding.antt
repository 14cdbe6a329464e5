-- Inclusions of worlds, written out.
use Rattle.std.specs.Prelude.{◌≡◌, ℕ, List, ◌++◌, map, Option, Some, Vec, length, slice_get, unwrap_or}
use Rattle.std.specs.{Borrow.Bor, Global.Global, List.filter_map}
use Rattle.wit_model.specs.Text.{Text}
use Rattle.print_grammar.specs.Tree.{UsedName, WorldMember}
use Rattle.text_trees.specs.{Seen.cut, TextTreesSeen.part_of, TreesSeen.head_of, TreesSeen.path_of, TreesSeen.used_name_of, TreesSeen.world_member_of}
use Rattle.text_trees.specs.declared.tree.{PackageHead.PackageHead as CodeHead, PathTree.PathTree as CodePath, Span.Span, UsedName.UsedName as CodeUsed, WorldMember.WorldMember as CodeMember, WorldPart.WorldPart as CodePart}
use Rattle.text_plain.specs.declared.{merging.Merged.Merged, moving.Moving.Moving, scopes.Scope.Scope, worlds.Worlds.Worlds}
use Rattle.text_plain.specs.Merging.{Becomes, IsMerged, members_seen}
use Rattle.text_plain.specs.Moved.{moved_world_member, renamed, routed, seen_from}
use Rattle.text_plain.specs.Moves.{Fits, on_name, on_path, text_from, text_to}
use Rattle.text_plain.specs.Places.{IsPlaced}
use Rattle.text_plain.specs.Scopes.{aliases_in, heading_of, home_of_scope}
use Rattle.text_plain.specs.Plain.{Expands, Included, Inclusion, inclusion_of, merged, own_member, routed_inclusion}
use Rattle.text_plain.specs.Worlds.{IsWorlds, world_seen}

-- a name and the one that stands in its place: itself, if there is no other
abbrev pub own_said : UsedName → UsedName
own_said used = record { other = used.other; own = Some (unwrap_or used.own used.other) }

-- the names of a table, each with the one in whose place it stands
abbrev pub all_said : Text → List (Bor (List ℕ) × Span) → List UsedName
all_said whole entries = map (λ entry. record { other = entry.0.now; own = Some (cut whole entry.1) }) entries

-- Trees of the whole text come so from one package to another, with the names of a table.
pub record ComesFrom (whole : Text) (entries : List (Bor (List ℕ) × Span)) (home here : CodeHead) (moving : Moving) : Type 0 where
  pub fits : Fits moving
  pub from_is : text_from moving ≡ whole
  pub to_is : text_to moving ≡ whole
  pub names_are : on_name moving ≡ renamed (all_said whole entries)
  pub paths_are : on_path moving ≡ seen_from (head_of whole home) (head_of whole here)

-- What a world of another package has comes to a world, with other names.
abbrev pub AddsRenamed : List UsedName → CodeHead → List WorldMember → Merged → Merged → Type 0
AddsRenamed names home its old new =
    Becomes old.whole.now old.heading
    (merged (heading_of old.whole.now old.heading) (members_seen old)
    (map (moved_world_member (renamed names) (seen_from (head_of old.whole.now home) (head_of old.whole.now old.heading.head))) its)) new

-- what a world has of its own, with paths in the place of names at the top
abbrev pub members_at : Scope → List CodePart → List WorldMember
members_at s parts = map (moved_world_member (λ n. n) (routed (aliases_in s))) (filter_map own_member (map (part_of s.place.from.now) parts))

-- an inclusion, so
abbrev pub inclusion_at : Scope → CodePath → List CodeUsed → Inclusion
inclusion_at s path names = record { path = routed (aliases_in s) (path_of s.place.from.now path); names = map (used_name_of s.place.from.now) names }

-- what a world includes, so
abbrev pub inclusions_at : Scope → List CodePart → List Inclusion
inclusions_at s parts = map (routed_inclusion (aliases_in s)) (filter_map inclusion_of (map (part_of s.place.from.now) parts))

-- Nothing is done.
abbrev pub AreNone : List (Option (Vec CodeMember Global)) → Type 0
AreNone done = (n : ℕ) (its : Vec CodeMember Global) → slice_get done n ≡ Some (Some its) → ⊥

-- What is done of the worlds is what they have when their inclusions are written out.
pub record AreExpanded (w : Worlds) (done : List (Option (Vec CodeMember Global))) : Type 0 where
  pub many : length done ≡ length w.worlds.items
  pub expands : (n : ℕ) (its : Vec CodeMember Global) (it : _) → slice_get done n ≡ Some (Some its) → slice_get w.worlds.items n ≡ Some it
      → Expands (map world_seen w.worlds.items) (world_seen it) (map (world_member_of w.whole.now) its.items)

-- A world of this scope has something so far, and other worlds are written out as far as that is done.
pub record IsIncluding (w : Worlds) (done : List (Option (Vec CodeMember Global))) (s : Scope) (m : Merged) : Type 0 where
  pub index : IsWorlds w
  pub placed : IsPlaced w.whole.now s.place
  pub expanded : AreExpanded w done
  pub merged : IsMerged m
  pub whole_is : m.whole.now ≡ w.whole.now
  pub home_is : heading_of m.whole.now m.heading ≡ home_of_scope s

-- What is included comes to what a world has.
pub record Takes (w : Worlds) (inclusions : List Inclusion) (old new : Merged) : Type 0 where
  pub index : IsMerged new
  pub whole_is : new.whole.now ≡ old.whole.now
  pub heading_is : new.heading ≡ old.heading
  pub includes : (rest : List Inclusion) (all : List WorldMember)
      → Included (map world_seen w.worlds.items) (heading_of old.whole.now old.heading) rest (members_seen new) all
      → Included (map world_seen w.worlds.items) (heading_of old.whole.now old.heading) (inclusions ++ rest) (members_seen old) all
