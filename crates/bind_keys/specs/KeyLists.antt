-- The keys of functions in order, each with an encoding, and what is put under them one after the other.
use Rattle.std.specs.Prelude.{◌≡◌, List, [], ◌∷◌, flat_map, filter_map, if◌then◌else◌, Option, Some, option_and_then, option_map, option_to_list, String}
use Rattle.std.specs.Option.{option_map_or}
use Rattle.std.specs.declared.alloc.Global.{Global}
use Rattle.wit_model.specs.declared.model.{Resolve.Resolve, Function.Function, StringEncoding.StringEncoding, WorldItem.WorldItem, WorldKey.WorldKey}
use Rattle.wit_model.specs.{Text.Text, Text.text_eq, Text.text_of, Lookup.interface_at}
use Rattle.bind_keys.specs.{Keys.function_key, Encodings.Encodings, Encodings.encoding_at, Functions.Items}
use Rattle.wit_model.specs.declared.model.WorldItem.TheVariants as item
use Rattle.wit_model.specs.declared.model.WorldKey.TheVariants as key

-- ---- in order

-- which encoding a function is to have, by the key of the world that it stands under and by its name, if any
abbrev pub Choice : Type 0
Choice = WorldKey → Text → Option StringEncoding

-- a key with its encoding
abbrev pub Entry : Type 0
Entry = Text × StringEncoding

-- the key of a function with the encoding that it is to have
abbrev pub entry_of : Resolve → Choice → WorldKey → Text → Option Entry
entry_of r w scope function = option_and_then (λ k. option_map (λ e. (k, e)) (w scope function)) (function_key r scope function)

-- those of functions under one key of the world
abbrev pub member_entries : Resolve → Choice → WorldKey → List (String Global × Function) → List Entry
member_entries r w scope fs = filter_map (λ e. entry_of r w scope (text_of e.0)) fs

-- that of a function that is an item itself
abbrev pub own_entries : Resolve → Choice → WorldKey → List Entry
own_entries r w (key.Name name) = option_to_list (entry_of r w (key.Name name) (text_of name))
own_entries r w (key.Interface id) = []

-- those of the functions of an item
abbrev pub entries_of_item : Resolve → Choice → WorldKey → WorldItem → List Entry
entries_of_item r w scope (item.Interface id stability docs external_id) =
    option_map_or (λ i. member_entries r w scope i.functions.entries) (interface_at r id.0) []
entries_of_item r w scope (item.Function f) = own_entries r w scope
entries_of_item r w scope (item.Type_ id) = []

abbrev pub entries_of_items : Resolve → Choice → Items → List Entry
entries_of_items r w items = flat_map (λ e. entries_of_item r w e.0 e.1) items

-- ---- put

-- what stands under a key once these have been put, one after the other, where other encodings stood
abbrev pub put_all : List Entry → (Text → Option StringEncoding) → Text → Option StringEncoding
put_all [] old k = old k
put_all (x ∷ xs) old k = put_all xs (λ q. if text_eq q x.0 then Some x.1 else old q) k

-- Each of these is put, in order, and nothing else changes.
abbrev pub Puts : List Entry → Encodings → Encodings → Type 0
Puts es old new = (k : Text) → encoding_at new k ≡ put_all es (encoding_at old) k
