-- What was merged means what its parts meant.
use Rattle.std.specs.Prelude.{◌≡◌, ◌⊎◌, ℕ, Bool, true, false, List, map, Some}
use Rattle.std.specs.List.{IsDistinct}
use Rattle.wit_model.specs.{Text.Text, Text.text_eq, Lookup.interface_at, Lookup.world_at, Lookup.interface_path, Lookup.path_of_world, Lookup.key_text}
use Rattle.wit_model.specs.{Meant.interface_meaning_at, Meant.world_meaning, Meant.world_meaning_at, Meaning.InterfaceMeaning, Meaning.WorldMeaning}
use Rattle.wit_model.specs.Valid.{IsValid, HasDistinctKeys}
use Rattle.wit_model.specs.declared.model.{Resolve.Resolve, Interface.Interface, World.World, WorldKey.WorldKey, WorldItem.WorldItem}
use Rattle.bind_meaning.specs.Union.{followed_by}
use Rattle.bind_union.specs.{Carried.Renumbering, Merged.IsMerged}

-- Every own interface, and every own world but the bound one, means what it meant, under its own path.
pub record OwnMeansTheSame (own merged : Resolve) (bound : ℕ) : Type 0 where
  pub interfaces : (n : ℕ) (i : Interface) → interface_at own n ≡ Some i → (interface_meaning_at merged n ≡ interface_meaning_at own n)
      × (interface_path merged n ≡ interface_path own n)
  pub worlds : (n : ℕ) (w : World) → world_at own n ≡ Some w → (n ≡ bound → ⊥) → world_meaning_at merged n ≡ world_meaning_at own n

-- Every interface and every world that is copied means what the other's did, and an interface stands under its path.
pub record CopiesMeanTheSame (other merged : Resolve) (f : Renumbering) : Type 0 where
  pub interfaces : (n : ℕ) → f.copies_interface n ≡ true → (interface_meaning_at merged (f.interfaces n) ≡ interface_meaning_at other n)
      × (interface_path merged (f.interfaces n) ≡ interface_path other n)

abbrev pub MergedMeans : Type 0
MergedMeans = (own other merged : Resolve) (bound other_bound : ℕ) (first second : Renumbering) (left_out : ℕ → Bool) → IsValid own → IsValid other →
    (is : IsMerged own other merged bound other_bound first second left_out) →
    OwnMeansTheSame own merged bound × CopiesMeanTheSame other merged first
    × ((n : ℕ) → first.carries_world n ≡ true → world_meaning_at merged (first.worlds n) ≡ world_meaning_at other n)

-- no two of these entries have keys of one text
abbrev pub HaveDistinctTexts : Resolve → List (WorldKey × WorldItem) → Type 0
HaveDistinctTexts r es = IsDistinct text_eq (map (λ (e : WorldKey × WorldItem). key_text r e.0) es)

-- The bound world has what it had, followed by what is new in the other's bound world.
-- That keys of a valid one have distinct texts is known.
abbrev pub BoundMeans : Type 0
BoundMeans = (own other merged : Resolve) (bound other_bound : ℕ) (first second : Renumbering) (left_out : ℕ → Bool) → IsValid own → IsValid other →
    (is : IsMerged own other merged bound other_bound first second left_out) →
    HaveDistinctTexts merged is.joined.image.imports.entries → HaveDistinctTexts merged is.joined.image.exports.entries →
    ((world_meaning merged is.joined.image).imports ≡ followed_by (world_meaning own is.own_bound).imports (world_meaning other is.joined.old).imports)
    × ((world_meaning merged is.joined.image).exports ≡ followed_by (world_meaning own is.own_bound).exports (world_meaning other is.joined.old).exports)

-- ---- by path

-- an interface stands under this path, and means this
abbrev pub Shows : Resolve → Text → InterfaceMeaning → Type 0
Shows r path meaning = (n : ℕ) × (interface_path r n ≡ Some path) × (interface_meaning_at r n ≡ meaning)

abbrev pub ShowsNone : Resolve → Text → Type 0
ShowsNone r path = (n : ℕ) → interface_path r n ≡ Some path → ⊥

-- What was merged has the own interfaces by path, and those of the other whose paths are new.
abbrev pub InterfacesAreUnited : Type 0
InterfacesAreUnited = (own other merged : Resolve) (bound other_bound : ℕ) (first second : Renumbering) (left_out : ℕ → Bool) → IsValid own → IsValid other
    → HasDistinctKeys merged →
    (is : IsMerged own other merged bound other_bound first second left_out) → (path : Text) (meaning : InterfaceMeaning) →
    (Shows merged path meaning → Shows own path meaning ⊎ (Shows other path meaning × ShowsNone own path))
    × (Shows own path meaning → Shows merged path meaning)
    × (Shows other path meaning → ShowsNone own path → Shows merged path meaning)

-- a world stands under this path, and means this
pub record ShowsWorld (r : Resolve) (path : Text) (meaning : WorldMeaning) : Type 0 where
  pub number : ℕ
  pub world : World
  pub found : world_at r number ≡ Some world
  pub path_is : path_of_world r world ≡ Some path
  pub means : world_meaning r world ≡ meaning

abbrev pub ShowsNoWorld : Resolve → Text → Type 0
ShowsNoWorld r path = (n : ℕ) (w : World) → world_at r n ≡ Some w → path_of_world r w ≡ Some path → ⊥

-- The same of worlds, but for the path of the bound one, and without what is left out of the other. The bound world's path stays.
abbrev pub WorldsAreUnited : Type 0
WorldsAreUnited = (own other merged : Resolve) (bound other_bound : ℕ) (first second : Renumbering) (left_out : ℕ → Bool) → IsValid own → IsValid other
    → HasDistinctKeys merged →
    (is : IsMerged own other merged bound other_bound first second left_out) →
    (path_of_world merged is.joined.image ≡ path_of_world own is.own_bound)
    × ((path : Text) (meaning : WorldMeaning) → (path_of_world own is.own_bound ≡ Some path → ⊥) →
    (ShowsWorld merged path meaning → ShowsWorld own path meaning
    ⊎ (((x : ShowsWorld other path meaning) × (left_out x.number ≡ false)) × ShowsNoWorld own path))
    × (ShowsWorld own path meaning → ShowsWorld merged path meaning)
    × ((x : ShowsWorld other path meaning) → left_out x.number ≡ false → ShowsNoWorld own path → ShowsWorld merged path meaning))
