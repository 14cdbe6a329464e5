-- Nested packages and texts that are there by the grammar are found.
use Rattle.std.proofs.Common.{◌≡◌, refl, ap, ℕ, ◌<◌, true, false, List, [], ◌∷◌, length, arith, zero, suc}
use Rattle.std.specs.List.{filter_map, list_all}
use Rattle.base_lemmas.proofs.Bools.{left_of, right_of}
use Rattle.print_grammar.specs.{Keyword.Keyword, Token.Token, Token.Mark.CloseBrace, Token.Mark.At, Tree.PackageHead, Grammar.ReadsHead, Grammar.ReadsHead.head}
use Rattle.text_trees.specs.TextTree.{NestedTree, TextItem, TextTree}
use Rattle.text_trees.specs.Grammar.{Documentation, ReadsItem, ReadsNested, ReadsRest, ReadsText}
use Rattle.text_trees.specs.Grammar.ReadsItem.{interface_item, world_item, name_item, other_name_item}
use Rattle.text_trees.specs.Grammar.{ReadsNested.nested_package, ReadsRest.rest_end, ReadsRest.next_item, ReadsRest.next_nested, ReadsText.with_name, ReadsText.without_name}
use Rattle.text_trees.specs.Reading.{Reading.Found, then_read, made, begins, begins_key, behind_mark, if_mark, behind_key, if_key, things_in_front, until}
use Rattle.text_trees.specs.ReadDeclared.{marks_from, marks_in_front}
use Rattle.text_trees.specs.ReadFiles.{item_in_front, head_in_front, nested_in_front, Piece, Piece.AnItem, Piece.ANested, item_of_piece, nested_of_piece, piece_in_front, is_end, text_in_front}
use Rattle.text_trees.specs.Levels.{fits_item, fits_nested, fits_text}
use Rattle.text_trees.proofs.Lengths.{item-shortens, nested-shortens}
use Rattle.text_trees.proofs.Complete.{made_gives, id_gives, Shut, things_end, things_step, repeated-complete}
use Rattle.text_trees.proofs.DeclaredComplete.{at_version-complete}
use Rattle.text_trees.proofs.FilesComplete.{gates_no_key, item-shut, item-complete}

head-complete : {ts rest : List Token} {head : PackageHead} → ReadsHead ts head rest → begins At rest ≡ false → head_in_front ts ≡ Found head rest
unfolding then_read behind_mark made
head-complete (head i j v) h = rw (id_gives _ i, id_gives _ j, at_version-complete v h) refl

-- no item begins with `package`
item_no_package : {docs : Documentation} {ts rest : List Token} {item : TextItem} → ReadsItem docs ts item rest → begins_key Keyword.Package ts ≡ false
item_no_package (interface_item g i l) = gates_no_key Keyword.Package g refl
item_no_package (world_item g i l) = gates_no_key Keyword.Package g refl
item_no_package (name_item p) = refl
item_no_package (other_name_item p i) = refl

module _ (docs : Documentation) (room : ℕ) where
  pub nested-complete : (ts rest : List Token) (tree : NestedTree) → ReadsNested docs ts tree rest → fits_nested room tree ≡ true
      → nested_in_front docs room ts ≡ Found tree rest
  unfolding then_read behind_mark behind_key made
  nested-complete _ _ _ (nested_package p l) h =
      rw (head-complete p refl, repeated-complete CloseBrace (item_in_front docs room) (fits_item room) item-shortens (item-shut docs room) (item-complete docs room) l h) refl

  -- ---- texts

  piece_item : {ts rest : List Token} {item : TextItem} → ReadsItem docs ts item rest → fits_item room item ≡ true
      → piece_in_front docs room ts ≡ Found (AnItem item) rest
  piece_item r h = rw (item_no_package r) (made_gives AnItem (item-complete docs room _ _ _ r h))

  piece_nested : {ts rest : List Token} {tree : NestedTree} → ReadsNested docs ts tree rest → fits_nested room tree ≡ true
      → piece_in_front docs room ts ≡ Found (ANested tree) rest
  piece_nested (nested_package p l) h = made_gives ANested (nested-complete _ _ _ (nested_package p l) h)

  piece-shut : Shut is_end (piece_in_front docs room)
  unfolding then_read if_key made marks_in_front marks_from
  piece-shut [] h = refl
  piece-shut (t ∷ ts) h = absurd (cc h)

  -- Pieces that are found, which are these items and nested packages.
  record PiecesFound (n : ℕ) (ts : List Token) (items : List TextItem) (nested : List NestedTree) : Type 0 where
    pieces : List Piece
    found : things_in_front is_end (piece_in_front docs room) n ts ≡ Found pieces []
    same_items : filter_map item_of_piece pieces ≡ items
    same_nested : filter_map nested_of_piece pieces ≡ nested

  pieces-complete : (n : ℕ) {ts : List Token} {items : List TextItem} {nested : List NestedTree} → ReadsRest docs ts items nested → length ts < n
      → list_all (fits_item room) items ≡ true → list_all (fits_nested room) nested ≡ true → PiecesFound n ts items nested
  pieces-complete n rest_end l h k =
      record { pieces = []; found = things_end is_end (piece_in_front docs room) n l refl; same_items = refl; same_nested = refl }
  pieces-complete zero (next_item r m) l h k = absurd (omega (arith, l))
  pieces-complete zero (next_nested r m) l h k = absurd (omega (arith, l))
  pieces-complete (suc n) (next_item {item} r m) l h k =
      let j = item-shortens _ _ _ r in
      let more = pieces-complete n m (omega (arith, j, l)) (right_of (fits_item room item) _ h) k in record {
        pieces = AnItem item ∷ more.pieces;
        found = things_step is_end (piece_in_front docs room) n piece-shut (piece_item r (left_of _ _ h)) more.found;
        same_items = ap (λ xs. item ∷ xs) more.same_items;
        same_nested = more.same_nested;
      }
  pieces-complete (suc n) (next_nested {it} r m) l h k =
      let j = nested-shortens _ _ _ r in
      let more = pieces-complete n m (omega (arith, j, l)) h (right_of (fits_nested room it) _ k) in record {
        pieces = ANested it ∷ more.pieces;
        found = things_step is_end (piece_in_front docs room) n piece-shut (piece_nested r (left_of _ _ k)) more.found;
        same_items = more.same_items;
        same_nested = ap (λ xs. it ∷ xs) more.same_nested;
      }

  -- pieces up to the end of the tokens
  rest-complete : {ts : List Token} {items : List TextItem} {nested : List NestedTree} → ReadsRest docs ts items nested → list_all (fits_item room) items ≡ true
      → list_all (fits_nested room) nested ≡ true → PiecesFound (suc (length ts)) ts items nested
  rest-complete {ts} r h k = pieces-complete (suc (length ts)) r (omega arith) h k

  -- A text whose types have no more levels than there is room for is found, and nothing behind it.
  pub text-complete : {ts : List Token} {tree : TextTree} → ReadsText docs ts tree → fits_text room tree ≡ true → text_in_front docs room ts ≡ Found tree []
  unfolding then_read behind_mark if_mark made until
  text-complete (with_name {items} p r) h =
      let m = rest-complete r (left_of _ _ h) (right_of (list_all (fits_item room) items) _ h) in
      rw (head-complete p refl, m.found, m.same_items, m.same_nested) refl
  text-complete (without_name rest_end) h = let m = rest-complete rest_end refl refl in rw (m.found, m.same_items, m.same_nested) refl
  text-complete (without_name {items} (next_item r l)) h =
      let m = rest-complete (next_item r l) (left_of _ _ h) (right_of (list_all (fits_item room) items) _ h) in
      rw (item_no_package r, m.found, m.same_items, m.same_nested) refl
  text-complete (without_name {items} (next_nested {it} (nested_package p l) r)) h =
      let k = right_of (list_all (fits_item room) items) _ h in
      let m = rest-complete r (left_of _ _ h) (right_of (fits_nested room it) _ k) in
      rw (
        head-complete p refl,
        repeated-complete CloseBrace (item_in_front docs room) (fits_item room) item-shortens (item-shut docs room) (item-complete docs room) l (left_of _ _ k),
        m.found,
        m.same_items,
        m.same_nested,
      ) refl
