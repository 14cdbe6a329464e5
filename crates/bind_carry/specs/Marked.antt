-- Which interfaces are copied: flags that are set one after the other for inline interfaces that are shown, and what they say in the end.
use Rattle.std.specs.Prelude.{◌≡◌, ℕ, Bool, true, false, not, ◌||◌, List, [], ◌∷◌, Option, Some, is_none, is_some, slice_set, if◌then◌else◌}
use Rattle.std.specs.{List.list_any, Option.option_map_or}
use Rattle.wit_model.specs.declared.model.{Interface.Interface, InterfaceId.InterfaceId, Resolve.Resolve, World.World, WorldItem.WorldItem, WorldKey.WorldKey}
use Rattle.wit_model.specs.{Lookup.interface_at, Rules.is_id, Uses.item_interface}
use Rattle.bind_copy.specs.Copies.{is_new_under}
use Rattle.bind_carry.specs.{First.flag_under, Renumbered.is_matched, Whole.kept}
use Rattle.wit_model.specs.declared.model.WorldItem.TheVariants as item

-- ---- flags, one after the other

-- whether the interface of this number has no name
abbrev pub is_inline_at : Resolve → ℕ → Bool
is_inline_at r n = option_map_or (λ i. is_none i.name) (interface_at r n) false

abbrev pub mark_item : Resolve → List Bool → WorldItem → List Bool
mark_item r marks (item.Interface id stability docs external_id) = if is_inline_at r id.0 then slice_set marks id.0 true else marks
mark_item r marks (item.Function f) = marks
mark_item r marks (item.Type_ id) = marks

-- those of all items
abbrev pub mark_items : Resolve → List Bool → List (WorldKey × WorldItem) → List Bool
mark_items r marks [] = marks
mark_items r marks (e ∷ es) = mark_items r (mark_item r marks e.1) es

-- those of items whose keys have no item here
abbrev pub mark_new_items : Resolve → List ℕ → List (WorldKey × WorldItem) → List Bool → List (WorldKey × WorldItem) → List Bool
mark_new_items r interfaces here marks [] = marks
mark_new_items r interfaces here marks (e ∷ es) = mark_new_items r interfaces here
    (if is_new_under interfaces here e.0 then mark_item r marks e.1 else marks) es

-- those of the items of worlds whose flags are set
abbrev pub mark_worlds : Resolve → List Bool → List Bool → List World → List Bool
mark_worlds r marks [] ws = marks
mark_worlds r marks (b ∷ bs) [] = marks
mark_worlds r marks (true ∷ bs) (w ∷ ws) = mark_worlds r (mark_items r (mark_items r marks w.imports.entries) w.exports.entries) bs ws
mark_worlds r marks (false ∷ bs) (w ∷ ws) = mark_worlds r marks bs ws

-- ---- what they say

-- whether some item is the interface
abbrev pub is_shown_in : List (WorldKey × WorldItem) → ℕ → Bool
is_shown_in es n = list_any (λ (e : WorldKey × WorldItem). is_id n (item_interface e.1)) es

-- whether a world shows the interface whose flag is set
abbrev pub is_shown_of : List Bool → List World → ℕ → Bool
is_shown_of flags ws n = list_any (λ w. is_shown_in w.imports.entries n || is_shown_in w.exports.entries n) (kept flags ws)

-- Copied are interfaces with a name whose path no own one has, and inline ones that a world shows which is copied.
pub record AreChosen (other : Resolve) (matched : List (Option InterfaceId)) (worlds interfaces : List Bool) : Type 0 where
  pub named : (n : ℕ) (i : Interface) → interface_at other n ≡ Some i → is_some i.name ≡ true → flag_under interfaces n ≡ not (is_matched matched n)
  pub inline : (n : ℕ) (i : Interface) → interface_at other n ≡ Some i → is_some i.name ≡ false
      → flag_under interfaces n ≡ is_shown_of worlds other.worlds.items n
