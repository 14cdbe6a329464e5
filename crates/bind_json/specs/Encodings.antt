-- What a module binds, as tokens of JSON: the listing of its `Resolve`, the number of its world, and the string encoding of each function (Component Model
-- CanonicalABI.md, "Canonical ABI Options", for the words of encodings).
use Rattle.std.specs.Prelude.{List, [], ◌∷◌, ◌++◌, flat_map, codes, Option, Some, None, String}
use Rattle.std.specs.declared.alloc.Global.{Global}
use Rattle.json.specs.Token.{Token, begin_object, end_object, key as key_token, string, null}
use Rattle.wit_model.specs.declared.model.{Function.Function, Interface.Interface, StringEncoding.StringEncoding, WorldItem.WorldItem, WorldKey.WorldKey}
use Rattle.wit_model.specs.declared.model.Resolve.{Resolve}
use Rattle.wit_model.specs.{Text.Text, Text.text_of, Lookup.interface_at, Lookup.key_text}
use Rattle.wit_bind.specs.declared.bindgen.Bindgen.{Bindgen}
use Rattle.bind_keys.specs.{Encodings.Encodings, Encodings.encoding_under, Functions.Items, Functions.exports_of, Functions.imports_of, Keys.function_key}
use Rattle.wit_json.specs.Listed.{listed, member, number_token, whole_listing}
use Rattle.wit_model.specs.declared.model.StringEncoding.TheVariants as encodings
use Rattle.wit_model.specs.declared.model.WorldItem.TheVariants as item

-- the word of an encoding
abbrev pub encoding_word : StringEncoding → Text
encoding_word encodings.UTF8 = codes "utf8"
encoding_word encodings.UTF16 = codes "utf16"
encoding_word encodings.CompactUTF16 = codes "latin1+utf16"

-- the word of an encoding, or null
abbrev pub encoding_token : Option StringEncoding → Token
encoding_token None = null
encoding_token (Some encoding) = string (encoding_word encoding)

-- how an entry ends: a function and its encoding
abbrev pub entry_end : Text → Option StringEncoding → List Token
entry_end function encoding = member (codes "function") (string function) ++ (member (codes "encoding") (encoding_token encoding) ++ end_object ∷ [])

-- the entry of a function of an interface, which stands under a label or a path
abbrev pub member_encoding : Text → Text → Option StringEncoding → List Token
member_encoding scope function encoding = begin_object ∷ (member (codes "interface") (string scope) ++ entry_end function encoding)

-- the entry of a function that is imported or exported itself
abbrev pub item_encoding : Text → Option StringEncoding → List Token
item_encoding function encoding = begin_object ∷ (member (codes "interface") null ++ entry_end function encoding)

-- a function of an interface under this key, with the encoding that the map has for it
abbrev pub member_entry : Resolve → Encodings → WorldKey → Text → String Global × Function → List Token
member_entry r m k scope f = member_encoding scope (text_of f.0) (encoding_under m (function_key r k (text_of f.0)))

-- all functions of an interface in order, if there is one
abbrev pub interface_encodings : Resolve → Encodings → WorldKey → Text → Option Interface → List Token
interface_encodings r m k scope None = []
interface_encodings r m k scope (Some interface) = flat_map (member_entry r m k scope) interface.functions.entries

-- the functions of what stands under a key, whose text this is: those of an interface, or the one function, or of a type none
unfoldable pub item_under : Resolve → Encodings → WorldKey → Text → WorldItem → List Token
item_under r m k text (item.Interface id stability docs external_id) = interface_encodings r m k text (interface_at r id.0)
item_under r m k text (item.Function f) = item_encoding text (encoding_under m (function_key r k text))
item_under r m k text (item.Type_ id) = []

-- the functions of an import or of an export, under its label or its path
abbrev pub item_encodings : Resolve → Encodings → WorldKey × WorldItem → List Token
item_encodings r m e = item_under r m e.0 (key_text r e.0) e.1

-- the functions of these imports, or exports, in order, with their encodings
abbrev pub side_tokens : Resolve → Encodings → Text → Items → List Token
side_tokens r m side items = key_token side ∷ listed (item_encodings r m) items

-- the functions that the world imports, and those that it exports
abbrev pub sides_tokens : Bindgen → List Token
sides_tokens b =
    side_tokens b.resolve b.metadata.import_encodings (codes "imports") (imports_of b.resolve b.world.0)
    ++ side_tokens b.resolve b.metadata.export_encodings (codes "exports") (exports_of b.resolve b.world.0)

-- the encodings of all functions that the world imports and exports
unfoldable pub encodings_tokens : Bindgen → List Token
encodings_tokens b = key_token (codes "encodings") ∷ (begin_object ∷ (sides_tokens b ++ end_object ∷ []))

-- the listing of what a module binds
abbrev pub bindgen_listing_tokens : Bindgen → List Token
bindgen_listing_tokens b = whole_listing b.resolve (member (codes "world") (number_token b.world.0) ++ encodings_tokens b)
