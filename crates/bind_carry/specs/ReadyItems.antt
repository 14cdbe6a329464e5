-- Items of another `Resolve` of which all that they name is carried.
use Rattle.std.specs.Prelude.{◌≡◌, ℕ, true, false, List, Some, slice_get}
use Rattle.std.specs.List.{list_all, Contains}
use Rattle.wit_model.specs.declared.model.{WorldItem.WorldItem, WorldKey.WorldKey}
use Rattle.wit_model.specs.Parts.{function_numbers}
use Rattle.bind_copy.specs.Copies.{is_new_under}
use Rattle.bind_union.specs.{Carried.KeyBecomes, Carried.Renumbering, Joined.ItemStandsFor}
use Rattle.wit_model.specs.declared.model.WorldItem.TheVariants as item
use Rattle.wit_model.specs.declared.model.WorldKey.TheVariants as key

abbrev pub IsKeyReady : Renumbering → WorldKey → Type 0
IsKeyReady f (key.Name name) = Unit {0}
IsKeyReady f (key.Interface id) = f.carries_interface id.0 ≡ true

-- A type is copied, and what a function names is carried.
abbrev pub IsItemReady : Renumbering → WorldItem → Type 0
IsItemReady f (item.Interface id stability docs external_id) = f.carries_interface id.0 ≡ true
IsItemReady f (item.Function g) = list_all f.carries_type (function_numbers g) ≡ true
IsItemReady f (item.Type_ id) = f.copies_type id.0 ≡ true

-- An entry that was there stands for another.
pub record IsMet (f : Renumbering) (own : List (WorldKey × WorldItem)) (e : WorldKey × WorldItem) : Type 0 where
  pub there : WorldKey × WorldItem
  pub in_own : Contains own there
  pub becomes : KeyBecomes f e.0 there.0
  pub stands : ItemStandsFor f e.1 there.1

-- Each entry whose key is new is ready, and an own one stands for each of the others.
pub record AreReady (f : Renumbering) (interfaces : List ℕ) (own es : List (WorldKey × WorldItem)) : Type 0 where
  pub new_ready : (n : ℕ) (e : WorldKey × WorldItem) → slice_get es n ≡ Some e → is_new_under interfaces own e.0 ≡ true → IsKeyReady f e.0 × IsItemReady f e.1
  pub met : (n : ℕ) (e : WorldKey × WorldItem) → slice_get es n ≡ Some e → is_new_under interfaces own e.0 ≡ false → IsMet f own e
