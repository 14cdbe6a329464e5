-- Texts with their places in the whole text, in which all stand one after the other.
use Rattle.std.specs.Prelude.{◌≡◌, ◌+◌, ◌<◌, ◌≤◌, ◌^◌, ◌++◌, ◌∷◌, ℕ, List, [], Some, None, take, drop, length, string_bytes, string_len, slice_get}
use Rattle.wit_model.specs.Text.{Text}
use Rattle.text_trees.specs.TextTreesSeen.{tree_of}
use Rattle.text_plain.specs.declared.moving.Moving.{Moving}
use Rattle.text_plain.specs.declared.whole.{FolderText.FolderText as CodeText, Place.Place, PlacedText.PlacedText, Whole.Whole}
use Rattle.text_plain.specs.{Moves.StandsWithin, Plain.FolderText}

-- a text of a folder
abbrev pub folder_text_of : CodeText → FolderText
folder_text_of it = record { folder = it.folder; tree = tree_of it.text.now it.tree.now }

-- a text of a folder, with its place
abbrev pub placed_of : PlacedText → FolderText
placed_of it = record { folder = it.folder; tree = tree_of it.place.from.now it.tree.now }

-- The text stands in the whole one from this byte on.
pub record StandsAt (whole : Text) (it : CodeText) (base : ℕ) : Type 0 where
  pub there : take (length it.text.now) (drop base whole) ≡ it.text.now
  pub within : base + length it.text.now ≤ length whole

-- A text is added to the whole one.
pub record AddsText (old : Whole) (text : Text) (new : Whole) : Type 0 where
  pub text_is : string_bytes new.text ≡ string_bytes old.text ++ text
  pub bases_are : new.bases.items ≡ old.bases.items ++ string_len old.text ∷ []
  pub short : string_len new.text < 2 ^ 32

-- how trees come from a place: as they are
abbrev pub at_place : Place → Moving
at_place place = record { from = place.from; base = place.base; whole = place.whole; names = None; routes = None; home = None }

-- The place is one of this whole text.
pub record IsPlaced (whole : Text) (place : Place) : Type 0 where
  pub is : place.whole.now ≡ whole
  pub stands : StandsWithin (at_place place)
  pub within : place.base + length place.from.now ≤ length whole
  pub short : length whole < 2 ^ 32

-- All have their places in this whole text.
abbrev pub ArePlaced : Text → List PlacedText → Type 0
ArePlaced whole placed = (n : ℕ) (it : PlacedText) → slice_get placed n ≡ Some it → IsPlaced whole it.place
