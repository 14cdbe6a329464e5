-- The keys of what is exported, in what was merged.
use Rattle.std.specs.Prelude.{◌≡◌, ℕ, List, ◌++◌, map, Some}
use Rattle.std.specs.{List.Contains, Map.keys_of}
use Rattle.wit_model.specs.declared.model.{Resolve.Resolve, World.World, WorldItem.WorldItem, WorldKey.WorldKey}
use Rattle.wit_model.specs.{Lookup.key_text, Lookup.world_at, Text.Text, Text.text_of, Valid.key_eq, Valid.IsValid}
use Rattle.bind_add.specs.Growth.{IsAdded}
use Rattle.bind_add.specs.declared.added.Added.{Added}
use Rattle.bind_match.specs.Matching.{own_package_of}
use Rattle.bind_match.specs.declared.matches.Matches.{Matches}
use Rattle.bind_carry.specs.{MatchedSame.AreMatchedAt, MatchedSame.NoneOfPath, Union.IsUnionOf, Which.AreMatchedAll}
use Rattle.wit_model.specs.declared.model.WorldKey.TheVariants as key

-- What a key says: a label by its text, or the number of an interface. Where a label's string lies, and how much room it has, is no part of it.
pub data KeyView : Type 0 where
  labelled : Text → KeyView
  numbered : ℕ → KeyView

-- what a key of the code says
abbrev pub key_view : WorldKey → KeyView
key_view (key.Name name) = labelled (text_of name)
key_view (key.Interface id) = numbered id.0

-- Where no export has the key of another, all exports of the other's bound world are added, under the keys that are answered, in their order.
abbrev pub ExportsAreAdded : Type 0
ExportsAreAdded = (own other : Resolve) (world other_world : ℕ) (m : Matches) (w v : World) (added : Added) (keys : List WorldKey)
    (u : IsUnionOf own other world other_world m w v added keys) →
    IsValid own → IsValid other → world_at own world ≡ Some w → world_at other other_world ≡ Some v → AreMatchedAll other m
    → AreMatchedAt own other m.interfaces.items u.carried.packages.items → NoneOfPath own other m.interfaces.items →
    ((x e : WorldKey × WorldItem) → Contains w.exports.entries x → Contains v.exports.entries e → key_text own x.0 ≡ key_text other e.0 → ⊥) →
    map key_view (keys_of added.exports.entries) ≡ map key_view keys

-- Once all is added, they stand behind what the own bound world exported.
abbrev pub ExportsComeBehind : Type 0
ExportsComeBehind = (own other merged : Resolve) (world other_world : ℕ) (m : Matches) (w v : World) (added : Added) (keys : List WorldKey)
    (u : IsUnionOf own other world other_world m w v added keys) →
    IsValid own → IsValid other → IsAdded key_eq world added own merged → world_at own world ≡ Some w → world_at other other_world ≡ Some v
    → AreMatchedAll other m → AreMatchedAt own other m.interfaces.items u.carried.packages.items → NoneOfPath own other m.interfaces.items →
    ((x e : WorldKey × WorldItem) → Contains w.exports.entries x → Contains v.exports.entries e → key_text own x.0 ≡ key_text other e.0 → ⊥) →
    (x : World) → world_at merged world ≡ Some x → map key_view (keys_of x.exports.entries) ≡ map key_view (keys_of w.exports.entries ++ keys)

-- The keys that are answered have the labels and the paths there that those of the other's exports have in the other.
abbrev pub KeysKeepTexts : Type 0
KeysKeepTexts = (own other merged : Resolve) (world other_world : ℕ) (m : Matches) (w v : World) (added : Added) (keys : List WorldKey)
    (u : IsUnionOf own other world other_world m w v added keys) →
    IsValid own → IsValid other → IsAdded key_eq world added own merged → world_at own world ≡ Some w → world_at other other_world ≡ Some v
    → AreMatchedAll other m →
    m.packages.items ≡ map (own_package_of own.packages.items) other.packages.items → AreMatchedAt own other m.interfaces.items u.carried.packages.items
    → NoneOfPath own other m.interfaces.items →
    map (key_text merged) keys ≡ map (key_text other) (keys_of v.exports.entries)
