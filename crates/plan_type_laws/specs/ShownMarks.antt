-- Which names are resources: each is one wherever it is shown or met, or nowhere (Explainer.md, "Type Definitions"; WIT.md, "Interfaces: use").
use Rattle.std.specs.Prelude.{◌≡◌, ◌<◌, ◌+◌, ℕ, Bool, true, false, List, [], ◌∷◌, ◌++◌, filter, is_none, Option, Some, None, slice_get}
use Rattle.std.specs.List.{AllByRecursion, AllZip, flat_map}
use Rattle.wit_model.specs.{Text.Text, Tree.Form}
use Rattle.read_shown.specs.Kinds.{NamesHaveKinds}
use Rattle.plan_meaning.specs.{FollowedNumbers.AreMembersIn, KeptResources.FormIsMarked, NumberedRules.name_at, Shapes.named_shape, Shapes.node_shape}
use Rattle.plan_meaning.specs.NumberedMembers.{Homes, HomesStand, IsMember, NumberedMember, NumberedPart, interface, world}
use Rattle.plan_meaning.specs.NumberedViews.{AreTables, PartsOf, Tables, function_at, path_at}
use Rattle.plan_meaning.specs.NumberedWorlds.{NumberedSeen, NumberedShown, are_once, declares, function, instance, place_of_key}
use Rattle.read_rules.specs.declared.scopes.{Seen.Seen, Shown.Shown}
use Rattle.read_exports.specs.declared.members.{Member.Member, Part.Part}
use Rattle.read_exports.specs.Members.{numbered_members}
use Rattle.plan_types.specs.Showings.{NumberedShowing, showings_of_members, signatures_of_members}
use Rattle.plan_type_laws.specs.{ShownForms.FormsHold, MembersStand.MembersStand}
use Rattle.comp_meaning.specs.Reads as reads
use Rattle.read_rules.specs.declared.scopes.Shown.TheVariants as shown
use Rattle.read_exports.specs.declared.members.Part.TheVariants as parts

-- ---- places

-- the places of what a world shows
abbrev pub places_of_shown : NumberedShown → List ℕ
places_of_shown (instance key v) = place_of_key key ∷ []
places_of_shown (function n) = []
places_of_shown (declares d) = []

abbrev pub places_of_seen : List NumberedSeen → List ℕ
places_of_seen ss = flat_map (λ (s : NumberedSeen). places_of_shown s.shown) ss

-- a world's own place, and those of its instances
abbrev pub places_of_part : NumberedPart → List ℕ
places_of_part (world w) = w.home ∷ (places_of_seen w.imports ++ places_of_seen w.exports)
places_of_part (interface p v imports) = []

abbrev pub has_no_path : Tables → ℕ → Bool
has_no_path t p = is_none (path_at t p)

-- the places of the worlds and of the inline interfaces
abbrev pub own_places : Tables → List NumberedMember → List ℕ
own_places t ms = filter (has_no_path t) (flat_map (λ (m : NumberedMember). places_of_part m.part) ms)

-- a type that a world imports stands for its name in the world's own place
abbrev pub NamesShown : Tables → ℕ → Text → Shown → Type 0
NamesShown t home key (shown.Instance k v) = Unit {0}
NamesShown t home key (shown.Function n) = Unit {0}
NamesShown t home key (shown.Declares part d) = (n : ℕ) × (part ≡ 14 + n) × (slice_get t.shapes n ≡ Some (named_shape home key))

abbrev pub NamesSeen : Tables → ℕ → Seen → Type 0
NamesSeen t home s = NamesShown t home s.key.now s.shown

abbrev pub PartNames : Tables → Part → Type 0
PartNames t (parts.World w) = AllByRecursion (NamesSeen t w.home) w.imports.now
PartNames t (parts.Interface p v imports) = Unit {0}

-- So do all types that worlds import, and each world and each inline interface has a place of its own.
pub record ArePlaced (t : Tables) (ms : List Member) : Type 0 where
  pub names : AllByRecursion (λ (m : Member). PartNames t m.part) ms
  pub apart : are_once (own_places t (numbered_members ms)) ≡ true

-- ---- marks

-- the mark of a name is that of the part that it is another name for; a resource has one
abbrev pub IsMarkedAs : (ℕ → Bool) → ℕ → Option ℕ → Type 0
IsMarkedAs marks k None = marks k ≡ true
IsMarkedAs marks k (Some old) = marks k ≡ marks old

pub record ShowingIsMarked (t : Tables) (marks : ℕ → Bool) (s : NumberedShowing) : Type 0 where
  pub name : ℕ × Text
  pub is : name_at t s.part ≡ Some name
  pub marked : IsMarkedAs marks s.part s.declared

-- The marks tell which parts are resources: no primitive and no form is, and a name is as it is shown, wherever that is. A handle is of a
-- resource, and nothing else has one as a part, nor does a function take or give one.
pub record MarksStand (t : Tables) (showings : List NumberedShowing) (signatures : List ℕ) : Type 0 where
  pub marks : ℕ → Bool
  pub primitives : (k : ℕ) → k < 14 → marks k ≡ false
  pub forms : (n : ℕ) (form : Form) (parts : List ℕ) → slice_get t.shapes n ≡ Some (node_shape form parts) → marks (14 + n) ≡ false
  pub names : AllByRecursion (ShowingIsMarked t marks) showings
  pub inner : FormsHold t (FormIsMarked marks) showings signatures
  pub values : AllByRecursion (λ n. PartsOf (λ k. marks k ≡ false) (function_at t n)) signatures

-- Where the parts at the top are well-formed, and each name is a resource wherever it is met, or nowhere, there are such marks.
abbrev pub NamesAreMarked : Type 0
NamesAreMarked = (t : Tables) → AreTables t → (h : Homes) → HomesStand t h → (ms : List Member) (members : List reads.Member)
    → AllZip (IsMember t h) (numbered_members ms) members → MembersStand members
    → NamesHaveKinds members → AreMembersIn t (numbered_members ms) → ArePlaced t ms → MarksStand t (showings_of_members ms) (signatures_of_members ms)
