-- Loops over the items and nested packages of a text, and what is read of a text in front of them.
use Rattle.std.proofs.Common.{◌≡◌, refl, ap, sym, ◌∙◌, subst, ℕ, ◌+◌, ◌≤◌, ◌<◌, List, [], ◌∷◌, ◌++◌, map, Option, None, Some, Bool, true, false, if◌then◌else◌}
use Rattle.std.specs.List.{filter_map}
use Rattle.std.proofs.lemmas.List.{append-nil, append_assoc}
use Rattle.std.proofs.lemmas.List.Elements.{filter_map-append}
use Rattle.print_grammar.specs.{Keyword.Keyword, Token.Mark.Semi, Token.Token, Tree.PackageHead}
use Rattle.text_trees.specs.declared.front.Tokens.{Tokens}
use Rattle.text_trees.specs.declared.refusal.Refusal.{Refusal}
use Rattle.text_trees.specs.declared.tree.{NestedTree.NestedTree as CodeNested, PackageHead.PackageHead as CodeHead, Span.Span, TextItem.TextItem as CodeItem}
use Rattle.text_trees.specs.ReadFiles.{Piece, Piece.AnItem, Piece.ANested, is_end, item_in_front, head_in_front, item_of_piece, nested_behind, nested_in_front, nested_of_piece, piece_in_front, text_behind, text_in_front, text_with}
use Rattle.text_trees.specs.Reading.{Reading, Reading.Found, begins, begins_key, behind, if_mark, made, then_read, until}
use Rattle.text_trees.specs.Seen.{RefusesAs, ahead, count_of, docs_ahead, text_of}
use Rattle.text_trees.specs.TextTree.{NestedTree, TextItem, TextTree}
use Rattle.text_trees.specs.TextTreesSeen.{documented_head, nested_of, text_item_of, text_onto}
use Rattle.text_trees.specs.TreesSeen.{docs_of, head_of}
use Rattle.text_trees.proofs.Going.{if_mark_goes, made-refuses}
use Rattle.text_trees.proofs.Listings.{map-append}
use Rattle.text_trees.proofs.Untils.{Reaching, reaching_begins, reaching_ends, reaching_goes_on, reaching_refuses}

-- an item or a nested package of a text of the code
abbrev a_piece : Tokens → List Token → Reading Piece
a_piece them = piece_in_front (docs_ahead them) 100

-- a text with these items and nested packages
abbrev with_both : Option PackageHead → List TextItem → List NestedTree → TextTree
with_both head items nested = record { head = head; items = items; nested = nested }

map_same : (pieces : List Piece) → map (λ p. p) pieces ≡ pieces
map_same [] = refl
map_same (p ∷ pieces) = ap (λ ps. p ∷ ps) (map_same pieces)

-- What a loop over the pieces of a text keeps: pieces are read up to here, and they are the items and the nested packages so far, behind the first ones.
pub record Gathering (them : Tokens) (first : List NestedTree) (from at : ℕ) (items : List CodeItem) (nested : List CodeNested) : Type 0 where
  pub pieces : List Piece
  pub reached : Reaching them (piece_in_front (docs_ahead them) 100) is_end (λ p. p) from at pieces
  pub items_are : map (text_item_of (text_of them)) items ≡ filter_map item_of_piece pieces
  pub nested_are : map (nested_of (text_of them)) nested ≡ first ++ filter_map nested_of_piece pieces

pub gathering_begins : (them : Tokens) (from : ℕ) (nested : List CodeNested) → from ≤ count_of them
    → Gathering them (map (nested_of (text_of them)) nested) from from [] nested
gathering_begins them from nested h = record {
  pieces = [];
  reached = reaching_begins them (a_piece them) is_end (λ p. p) from h;
  items_are = refl;
  nested_are = sym (append-nil (map (nested_of (text_of them)) nested));
}

-- what a piece is where no word `package` stands, and where it does
piece_is : (them : Tokens) (at : ℕ) (b : Bool) → begins_key Keyword.Package (ahead them at) ≡ b
    → a_piece them (ahead them at) ≡ (if b then made ANested (nested_in_front (docs_ahead them) 100 (ahead them at)) else made AnItem (item_in_front (docs_ahead them) 100 (ahead them at)))
piece_is them at b k =
    ap (λ b. if b then made ANested (nested_in_front (docs_ahead them) 100 (ahead them at)) else made AnItem (item_in_front (docs_ahead them) 100 (ahead them at))) k

module _ (them : Tokens) (first : List NestedTree) (from at : ℕ) (items : List CodeItem) (nested : List CodeNested) where
  pub gathers_item : (behind : ℕ) (item : CodeItem) → Gathering them first from at items nested → is_end (ahead them at) ≡ false
      → begins_key Keyword.Package (ahead them at) ≡ false
      → item_in_front (docs_ahead them) 100 (ahead them at) ≡ Found (text_item_of (text_of them) item) (ahead them behind)
      → at < behind → behind ≤ count_of them → (all : List CodeItem) → all ≡ items ++ item ∷ [] → Gathering them first from behind all nested
  unfolding made
  gathers_item behind item l n k e p r all g =
      let piece : Piece = AnItem (text_item_of (text_of them) item) in
      record {
        pieces = l.pieces ++ piece ∷ [];
        reached =
            reaching_goes_on them (a_piece them) is_end (λ p. p) from at behind l.pieces piece l.reached n (piece_is them at false k ∙ ap (made AnItem) e) p r
            (l.pieces ++ piece ∷ []) refl;
        items_are =
            ap (map (text_item_of (text_of them))) g ∙ map-append (text_item_of (text_of them)) items item
            ∙ ap (λ xs. xs ++ text_item_of (text_of them) item ∷ []) l.items_are ∙ sym (filter_map-append item_of_piece l.pieces (piece ∷ []));
        nested_are =
            l.nested_are
            ∙ ap (λ xs. first ++ xs) (sym (filter_map-append nested_of_piece l.pieces (piece ∷ []) ∙ append-nil (filter_map nested_of_piece l.pieces)));
      }

  pub gathers_nested : (behind : ℕ) (it : CodeNested) → Gathering them first from at items nested → is_end (ahead them at) ≡ false
      → begins_key Keyword.Package (ahead them at) ≡ true
      → nested_in_front (docs_ahead them) 100 (ahead them at) ≡ Found (nested_of (text_of them) it) (ahead them behind)
      → at < behind → behind ≤ count_of them → (all : List CodeNested) → all ≡ nested ++ it ∷ [] → Gathering them first from behind items all
  unfolding made
  gathers_nested behind it l n k e p r all g =
      let piece : Piece = ANested (nested_of (text_of them) it) in
      record {
        pieces = l.pieces ++ piece ∷ [];
        reached =
            reaching_goes_on them (a_piece them) is_end (λ p. p) from at behind l.pieces piece l.reached n (piece_is them at true k ∙ ap (made ANested) e) p r
            (l.pieces ++ piece ∷ []) refl;
        items_are =
            l.items_are ∙ sym (filter_map-append item_of_piece l.pieces (piece ∷ []) ∙ append-nil (filter_map item_of_piece l.pieces));
        nested_are =
            ap (map (nested_of (text_of them))) g ∙ map-append (nested_of (text_of them)) nested it
            ∙ ap (λ xs. xs ++ nested_of (text_of them) it ∷ []) l.nested_are
            ∙ append_assoc first (filter_map nested_of_piece l.pieces) (nested_of (text_of them) it ∷ [])
            ∙ ap (λ xs. first ++ xs) (sym (filter_map-append nested_of_piece l.pieces (piece ∷ [])));
      }

  pub gathered : (head : Option PackageHead) → Gathering them first from at items nested → is_end (ahead them at) ≡ true
      → made (text_onto head first) (until is_end (piece_in_front (docs_ahead them) 100) (ahead them from))
      ≡ Found (with_both head (map (text_item_of (text_of them)) items) (map (nested_of (text_of them)) nested)) (ahead them at)
  unfolding made
  gathered head l n =
      ap (made (text_onto head first))
      (reaching_ends them (a_piece them) is_end (λ p. p) from at l.pieces l.reached n ∙ ap (λ ps. Found ps (ahead them at)) (map_same l.pieces))
      ∙ ap (λ xs. Found (with_both head xs (first ++ filter_map nested_of_piece l.pieces)) (ahead them at)) (sym l.items_are)
      ∙ ap (λ xs. Found (with_both head (map (text_item_of (text_of them)) items) xs) (ahead them at)) (sym l.nested_are)

  -- what is refused where a piece is
  gathering_refuses : (head : Option PackageHead) → Gathering them first from at items nested → is_end (ahead them at) ≡ false → (e : Refusal)
      → RefusesAs them e (a_piece them (ahead them at))
      → RefusesAs them e (made (text_onto head first) (until is_end (piece_in_front (docs_ahead them) 100) (ahead them from)))
  gathering_refuses head l n e h =
      made-refuses them (text_onto head first) (until is_end (a_piece them) (ahead them from)) e
      (reaching_refuses them (a_piece them) is_end (λ p. p) from at l.pieces l.reached n e h)

  pub gathering_refuses_item : (head : Option PackageHead) → Gathering them first from at items nested → is_end (ahead them at) ≡ false
      → begins_key Keyword.Package (ahead them at) ≡ false → (e : Refusal) → RefusesAs them e (item_in_front (docs_ahead them) 100 (ahead them at))
      → RefusesAs them e (made (text_onto head first) (until is_end (piece_in_front (docs_ahead them) 100) (ahead them from)))
  gathering_refuses_item head l n k e h =
      gathering_refuses head l n e
      (subst (RefusesAs them e) (sym (piece_is them at false k)) (made-refuses them AnItem (item_in_front (docs_ahead them) 100 (ahead them at)) e h))

  pub gathering_refuses_nested : (head : Option PackageHead) → Gathering them first from at items nested → is_end (ahead them at) ≡ false
      → begins_key Keyword.Package (ahead them at) ≡ true → (e : Refusal) → RefusesAs them e (nested_in_front (docs_ahead them) 100 (ahead them at))
      → RefusesAs them e (made (text_onto head first) (until is_end (piece_in_front (docs_ahead them) 100) (ahead them from)))
  gathering_refuses_nested head l n k e h =
      gathering_refuses head l n e
      (subst (RefusesAs them e) (sym (piece_is them at true k)) (made-refuses them ANested (nested_in_front (docs_ahead them) 100 (ahead them at)) e h))

-- what is read of a text from a place on, behind what names its package and nested packages
abbrev from_here : Tokens → Option PackageHead → List CodeNested → ℕ → Reading TextTree
from_here them head nested at =
    made (text_onto head (map (nested_of (text_of them)) nested)) (until is_end (piece_in_front (docs_ahead them) 100) (ahead them at))

-- pieces are read behind the name of a text's package and `;`
pub text_goes_on : (them : Tokens) (docs : Span) (head : CodeHead) (at : ℕ) (nested : List CodeNested) → begins Semi (ahead them at) ≡ true → nested ≡ []
    → text_behind (docs_ahead them) 100 (docs_of (text_of them) docs) (head_of (text_of them) head) (ahead them at)
    ≡ from_here them (Some (documented_head (text_of them) docs head)) nested (at + 1)
text_goes_on them docs head at nested h g =
    if_mark_goes them Semi
    (λ rest. made (text_with (Some (documented_head (text_of them) docs head))) (until is_end (piece_in_front (docs_ahead them) 100) rest))
    (λ rest. then_read (nested_behind (docs_ahead them) 100 (docs_of (text_of them) docs) (head_of (text_of them) head) rest) (λ it rest.
    made (λ pieces. text_with None (ANested it ∷ pieces)) (until is_end (piece_in_front (docs_ahead them) 100) rest)))
    at (at + 1) h refl
    ∙ ap (λ xs. from_here them (Some (documented_head (text_of them) docs head)) xs (at + 1)) (sym g)

-- pieces are read behind a nested package with which a text begins
pub text_nests : (them : Tokens) (docs : Span) (head : CodeHead) (at from : ℕ) (it : CodeNested) (nested : List CodeNested) → begins Semi (ahead them at) ≡ false
    → nested_behind (docs_ahead them) 100 (docs_of (text_of them) docs) (head_of (text_of them) head) (ahead them at)
    ≡ Found (nested_of (text_of them) it) (ahead them from) → nested ≡ it ∷ []
    → text_behind (docs_ahead them) 100 (docs_of (text_of them) docs) (head_of (text_of them) head) (ahead them at) ≡ from_here them None nested from
unfolding if_mark then_read
text_nests them docs head at from it nested n e g =
    let next : NestedTree → List Token → Reading TextTree =
    λ it rest. made (λ pieces. text_with None (ANested it ∷ pieces)) (until is_end (piece_in_front (docs_ahead them) 100) rest) in
    let other : Reading TextTree =
    made (text_with (Some (documented_head (text_of them) docs head))) (until is_end (piece_in_front (docs_ahead them) 100) (behind (ahead them at))) in
    ap (λ b. if b then other
    else then_read (nested_behind (docs_ahead them) 100 (docs_of (text_of them) docs) (head_of (text_of them) head) (ahead them at)) next) n
    ∙ ap (λ x. then_read x next) e ∙ ap (λ xs. from_here them None xs from) (sym g)

pub text_nests_refuses : (them : Tokens) (docs : Span) (head : CodeHead) (at from : ℕ) (it : CodeNested) (nested : List CodeNested)
    → begins Semi (ahead them at) ≡ false
    → nested_behind (docs_ahead them) 100 (docs_of (text_of them) docs) (head_of (text_of them) head) (ahead them at)
    ≡ Found (nested_of (text_of them) it) (ahead them from) → nested ≡ it ∷ [] → (e : Refusal)
    → RefusesAs them e (made (text_onto None (map (nested_of (text_of them)) nested)) (until is_end (piece_in_front (docs_ahead them) 100) (ahead them from)))
    → RefusesAs them e (text_behind (docs_ahead them) 100 (docs_of (text_of them) docs) (head_of (text_of them) head) (ahead them at))
text_nests_refuses them docs head at from it nested n e g r h = subst (RefusesAs them r) (sym (text_nests them docs head at from it nested n e g)) h

-- pieces are read at once where no word `package` stands in front
pub text_begins : (them : Tokens) (at : ℕ) (nested : List CodeNested) → begins_key Keyword.Package (ahead them at) ≡ false → nested ≡ []
    → text_in_front (docs_ahead them) 100 (ahead them at) ≡ from_here them None nested at
text_begins them at nested k g =
    ap (λ b. if b then then_read (head_in_front (behind (ahead them at))) (text_behind (docs_ahead them) 100 (docs_ahead them (ahead them at)))
    else made (text_with None) (until is_end (piece_in_front (docs_ahead them) 100) (ahead them at))) k
    ∙ ap (λ xs. from_here them None xs at) (sym g)
