-- The keys of the maps of a `Resolve`, which a listing leaves out, and how they are told from what it says: an entry's key is the name of what it leads to.
use Rattle.std.specs.Prelude.{◌≡◌, ℕ, Bool, ◌==◌, List, [], map, if◌then◌else◌, option_and_then, unwrap_or, slice_get}
use Rattle.std.specs.{List.list_any, Option.option_map_or}
use Rattle.indexmap.specs.IndexMap.{keys}
use Rattle.wit_model.specs.declared.model.{Resolve.Resolve, WorldKey.WorldKey}
use Rattle.wit_model.specs.{Text.Text, Text.text_of, Valid.IsValid}
use Rattle.wit_json.specs.{Listed.member, Listed.number_token, Listed.whole_listing, Spelled.Spells, Bare.BareResolve, Bare.BareItem, Bare.interface, Bare.bare}
use Rattle.wit_json.specs.Small.{IsSmall}
use Rattle.wit_model.specs.declared.model.WorldKey.TheVariants as key

-- The key of an import or an export: a name, or the number of an interface.
pub data BareKey : Type 0 where
  name_key : Text → BareKey
  interface_key : ℕ → BareKey

-- what a key of a world says
abbrev pub bare_key : WorldKey → BareKey
bare_key (key.Name name) = name_key (text_of name)
bare_key (key.Interface id) = interface_key id.0

-- The keys of all maps, each in its order: of the interfaces and the worlds of each package, of the imports and the exports of each world, and of the types and
-- the functions of each interface.
pub record MapKeys : Type 0 where
  pub packages : List (List Text × List Text)
  pub worlds : List (List BareKey × List BareKey)
  pub interfaces : List (List Text × List Text)

-- the keys of all maps of a `Resolve`
abbrev pub keys_in : Resolve → MapKeys
keys_in r = record {
  packages = map (λ p. (map text_of (keys p.interfaces), map text_of (keys p.worlds))) r.packages.items;
  worlds = map (λ w. (map bare_key (keys w.imports), map bare_key (keys w.exports))) r.worlds.items;
  interfaces = map (λ i. (map text_of (keys i.types), map text_of (keys i.functions))) r.interfaces.items;
}

-- ---- how they are told

-- the name of the interface of this number
abbrev pub interface_name : BareResolve → ℕ → Text
interface_name b n = unwrap_or (option_and_then (λ i. i.name) (slice_get b.interfaces n)) []

-- the name of the world of this number
abbrev pub world_name : BareResolve → ℕ → Text
world_name b n = option_map_or (λ w. w.name) (slice_get b.worlds n) []

-- the name of the type of this number
abbrev pub type_name : BareResolve → ℕ → Text
type_name b n = unwrap_or (option_and_then (λ def. def.name) (slice_get b.types n)) []

-- whether a text is a path, which has a colon, and no name
abbrev pub is_path : Text → Bool
is_path text = list_any (λ c. c == 58) text

-- an interface under its path has its number as its key
abbrev pub told_key : Text × BareItem → BareKey
told_key (text, interface n external_id) = if is_path text then interface_key n else name_key text
told_key (text, item) = name_key text

-- the keys of all maps, as what a `Resolve` says tells them
abbrev pub told_keys : BareResolve → MapKeys
told_keys b = record {
  packages = map (λ p. (map (interface_name b) p.interfaces, map (world_name b) p.worlds)) b.packages;
  worlds = map (λ w. (map told_key w.imports, map told_key w.exports)) b.worlds;
  interfaces = map (λ i. (map (type_name b) i.types, map (λ f. f.name) i.functions)) b.interfaces;
}

-- ---- what is kept of a valid `Resolve`

-- What a valid `Resolve` says tells its keys.
abbrev pub KeysAreTold : Type 0
KeysAreTold = (r : Resolve) → IsValid r → keys_in r ≡ told_keys (bare r)

-- A text is the listing of what one valid `Resolve` says, with the keys of its maps, and of one entry of it. So only documentation and stability are lost.
abbrev pub ValidTextsTell : Type 0
ValidTextsTell = (text subject : Text) (r s : Resolve) (n m : ℕ) → IsValid r → IsValid s → IsSmall n → IsSmall m
    → Spells text (whole_listing r (member subject (number_token n))) → Spells text (whole_listing s (member subject (number_token m)))
    → (bare r ≡ bare s) × (keys_in r ≡ keys_in s) × (n ≡ m)
