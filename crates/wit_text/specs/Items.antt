-- Items of a world that are interfaces.
use Rattle.std.specs.Prelude.{◌≡◌, ◌==◌, Bool, false, ℕ, List, None, option_map}
use Rattle.std.specs.List.{list_any}
use Rattle.text_trees.specs.declared.tree.Prefix.{Prefix}
use Rattle.text_trees.specs.{Seen.cut, Seen.characters_of, TreesSeen.docs_of, TreesSeen.gates_of}
use Rattle.print_items.specs.Shown.{shown_docs, shown_gates, shown_external_id}
use Rattle.wit_model.specs.declared.model.{WorldKey.WorldKey, WorldItem.WorldItem}
use Rattle.wit_model.specs.contracts.model.WorldKeyPartialEq.TheImpl as world_key
use Rattle.wit_model.specs.declared.model.WorldKey.TheVariants as key
use Rattle.wit_model.specs.declared.model.WorldItem.TheVariants as item
use Rattle.wit_model.specs.declared.model.Stability.TheVariants as gates

-- an entry of a world
abbrev pub WorldEntry : Type 0
WorldEntry = WorldKey × WorldItem

-- whether two keys are the same, as maps of them tell
abbrev pub key_test : WorldKey → WorldKey → Bool
key_test = world_key.ghosts.eq

-- the path of the interface of this number
abbrev pub path_key : ℕ → WorldKey
path_key n = key.Interface (record { 0 = n })

-- whether a key is the path of the interface of this number
abbrev pub is_path : ℕ → WorldKey → Bool
is_path n (key.Interface id) = n == id.0
is_path n (key.Name s) = false

-- whether the path of the interface of this number stands among entries
abbrev pub has_path : List WorldEntry → ℕ → Bool
has_path es n = list_any (λ e. is_path n e.0) es

-- an interface without anything in front of it
abbrev pub bare_item : ℕ → WorldItem
bare_item n = item.Interface (record { 0 = n }) gates.Unknown (record { contents = None }) None

-- The item is the interface of this number, with what a prefix of the text says.
abbrev pub IsStated : List ℕ → Prefix → ℕ → WorldItem → Type 0
IsStated text prefix n (item.Interface id stability docs external_id) =
    (id.0 ≡ n) × (shown_gates stability ≡ gates_of text prefix.gates) × (shown_docs docs ≡ docs_of text prefix.docs)
    × (shown_external_id external_id ≡ option_map (λ span. characters_of (cut text span)) prefix.external_id)
IsStated text prefix n (item.Function f) = ⊥
IsStated text prefix n (item.Type_ id) = ⊥
