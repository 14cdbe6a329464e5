-- The entries of a world of one `Resolve` as they stand in a world of another, behind entries that were there.
use Rattle.std.specs.Prelude.{◌≡◌, ℕ, Some, Bool, true, false, not, ◌==◌, List, [], ◌∷◌, ◌++◌}
use Rattle.std.specs.List.{Contains, list_any}
use Rattle.wit_model.specs.declared.model.{Resolve.Resolve, World.World, WorldKey.WorldKey, WorldItem.WorldItem}
use Rattle.wit_model.specs.{Text.text_of, Text.text_eq, Lookup.world_at}
use Rattle.bind_union.specs.Carried.{Renumbering, KeyBecomes, EntryBecomes}
use Rattle.wit_model.specs.declared.model.WorldKey.TheVariants as key
use Rattle.wit_model.specs.declared.model.WorldItem.TheVariants as item

-- whether a key is this one under its new number
abbrev pub same_key : Renumbering → WorldKey → WorldKey → Bool
same_key f (key.Name old) (key.Name new) = text_eq (text_of old) (text_of new)
same_key f (key.Interface old) (key.Interface new) = f.interfaces old.0 == new.0
same_key f _ _ = false

-- whether no entry that was there has the key
abbrev pub is_new : Renumbering → List (WorldKey × WorldItem) → WorldKey → Bool
is_new f own k = not (list_any (λ (x : WorldKey × WorldItem). same_key f k x.0) own)

-- An item that was there stands for another: they are one interface, one type, or both functions.
abbrev pub ItemStandsFor : Renumbering → WorldItem → WorldItem → Type 0
ItemStandsFor f (item.Interface old old_stability old_docs old_external) (item.Interface new new_stability new_docs new_external) = new.0 ≡ f.interfaces old.0
ItemStandsFor f (item.Function old) (item.Function new) = Unit {0}
ItemStandsFor f (item.Type_ old) (item.Type_ new) = new.0 ≡ f.types old.0
ItemStandsFor f _ _ = ⊥

-- The entries one after the other: one that was there stands for each whose key was there, and the others are copied.
pub data Joined (f : Renumbering) (own : List (WorldKey × WorldItem)) : List (WorldKey × WorldItem) → List (WorldKey × WorldItem) → Type 0 where
  none : Joined f own [] []
  met : (old there : WorldKey × WorldItem) (olds news : List (WorldKey × WorldItem)) → Contains own there → KeyBecomes f old.0 there.0
      → ItemStandsFor f old.1 there.1 → Joined f own olds news → Joined f own (old ∷ olds) news
  added : (old new : WorldKey × WorldItem) (olds news : List (WorldKey × WorldItem)) → is_new f own old.0 ≡ true → EntryBecomes f old new
      → Joined f own olds news → Joined f own (old ∷ olds) (new ∷ news)

-- A world of the one stands in a world of the other, behind these imports and these exports. Where none were there it is a copy.
pub record IsJoined (r s : Resolve) (f : Renumbering) (n : ℕ) (own_imports own_exports : List (WorldKey × WorldItem)) : Type 0 where
  pub old : World
  pub found : world_at r n ≡ Some old
  pub carries : f.carries_world n ≡ true
  pub image : World
  pub at_image : world_at s (f.worlds n) ≡ Some image
  pub new_imports : List (WorldKey × WorldItem)
  pub imports : image.imports.entries ≡ own_imports ++ new_imports
  pub joined_imports : Joined f own_imports old.imports.entries new_imports
  pub new_exports : List (WorldKey × WorldItem)
  pub exports : image.exports.entries ≡ own_exports ++ new_exports
  pub joined_exports : Joined f own_exports old.exports.entries new_exports
