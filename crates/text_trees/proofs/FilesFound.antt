-- What readers of interfaces, worlds, packages and texts find is there by the grammar.
use Rattle.std.proofs.Common.{◌≡◌, refl, sym, subst, ℕ, true, List, [], ◌∷◌, Some, None}
use Rattle.std.specs.List.{filter_map}
use Rattle.wit_model.specs.Text.{Text}
use Rattle.print_grammar.specs.{Keyword.Keyword, Token.Token, Token.Token.Key}
use Rattle.print_grammar.specs.Tree.{Prefix, PackageHead}
use Rattle.print_grammar.specs.Grammar.{ReadsHead, ReadsHead.head, ReadsPath.local}
use Rattle.text_trees.specs.TextTree.{NestedTree, TextItem, TextTree, TextItem.AnInterface, TextItem.AWorld}
use Rattle.text_trees.specs.Grammar.{Documentation, ReadsPrefix, ReadsMember, ReadsExtern, ReadsWorldMember, ReadsOtherName, ReadsPart, ReadsItem, ReadsNested, ReadsRest, ReadsText}
use Rattle.text_trees.specs.Grammar.ReadsMember.{member_use, member_type, member_function}
use Rattle.text_trees.specs.Grammar.ReadsExtern.{extern_path, extern_function, extern_named_path, extern_interface}
use Rattle.text_trees.specs.Grammar.ReadsWorldMember.{world_use, world_type, world_import, world_export}
use Rattle.text_trees.specs.Grammar.{ReadsOtherName.other_name, ReadsPart.has, ReadsPart.includes}
use Rattle.text_trees.specs.Grammar.ReadsInclusion.{all_of, all_with, all_with_end}
use Rattle.text_trees.specs.Grammar.ReadsItem.{interface_item, world_item, name_item, other_name_item}
use Rattle.text_trees.specs.Grammar.{ReadsNested.nested_package, ReadsRest.rest_end, ReadsRest.next_item, ReadsRest.next_nested, ReadsText.with_name, ReadsText.without_name}
use Rattle.text_trees.specs.Reading.{Reading, then_read, made, begins_key, behind_key, if_key, until}
use Rattle.text_trees.specs.ReadDeclared.{gates_in_front}
use Rattle.text_trees.specs.ReadFiles.{member_in_front, extern_in_front, world_member_behind, world_member_in_front, other_name_in_front, inclusion_behind, part_in_front, name_behind, item_behind, item_in_front, head_in_front, head_with, nested_behind, nested_in_front, Piece, Piece.AnItem, Piece.ANested, item_of_piece, nested_of_piece, piece_in_front, is_end, text_with, text_behind, text_in_front}
use Rattle.text_trees.proofs.Finding.{Sound, found_sound, refused_sound, then_sound, made_sound, sound_as, by_docs_sound, mark_sound, if_mark_sound, key_sound, if_key_sound, either_sound, id_sound, id_alone, if_id_sound, repeated_sound, listed_sound, until_sound}
use Rattle.text_trees.proofs.MarksFound.{gates-sound, prefix-sound}
use Rattle.text_trees.proofs.DeclaredFound.{at_version-sound, full_path-sound, path_behind-sound, path-sound, use-sound, function-sound, declared-sound}

-- no tokens are there
pub is_end_is : (ts : List Token) → is_end ts ≡ true → ts ≡ []
is_end_is [] h = refl
is_end_is (t ∷ ts) h = absurd (cc h)

pub head-sound : Sound ReadsHead head_in_front
head-sound =
    id_sound (λ t namespace i. mark_sound _ (id_sound (λ u name j. made_sound _ (sound_as at_version-sound (λ ts rest version r. head i j r)))))

pub other_name-sound : Sound ReadsOtherName other_name_in_front
other_name-sound = id_sound (λ t label i. key_sound _ (made_sound _ (id_alone (λ u own j rest. other_name i j))))

module _ (docs : Documentation) (room : ℕ) where
  -- ---- interfaces

  pub member-sound : Sound (ReadsMember docs) (member_in_front docs room)
  member-sound =
      then_sound prefix-sound (λ pre.
      if_id_sound (λ t name i. mark_sound _ (function-sound room _ (λ us rest signature r ts p. member_function p i r)))
      (if_key_sound _ (use-sound _ (λ us rest path names r ts p. member_use p r)) (made_sound _ (sound_as (declared-sound docs room) (λ us rest declared r ts p. member_type p r)))))

  -- ---- worlds

  pub extern-sound : Sound (ReadsExtern docs) (extern_in_front docs room)
  extern-sound =
      id_sound (λ t name i.
      if_mark_sound _ (found_sound (λ rest. extern_path (local i)))
      (mark_sound _ (either_sound _ (function-sound room _ (λ ts rest signature r. extern_function i r))
      (if_key_sound _ (made_sound _ (mark_sound _ (sound_as (repeated_sound member-sound) (λ ts rest xs l. extern_interface i l))))
      (id_sound (λ u second j.
      either_sound _ (then_sound (full_path-sound i j) (λ path. mark_sound _ (found_sound (λ rest ts p. extern_path p))))
      (then_sound (path_behind-sound j) (λ path. mark_sound _ (found_sound (λ rest ts p. extern_named_path i p))))))))))

  world_member_behind-sound : (pre : Prefix)
      → Sound (λ us it rest. (ts : List Token) → ReadsPrefix docs ts pre us → ReadsWorldMember docs ts it rest) (world_member_behind docs room pre)
  world_member_behind-sound pre =
      if_key_sound _ (made_sound _ (sound_as extern-sound (λ us rest e r ts p. world_import p r)))
      (if_key_sound _ (made_sound _ (sound_as extern-sound (λ us rest e r ts p. world_export p r)))
      (if_key_sound _ (use-sound _ (λ us rest path names r ts p. world_use p r))
      (made_sound _ (sound_as (declared-sound docs room) (λ us rest declared r ts p. world_type p r)))))

  pub world_member-sound : Sound (ReadsWorldMember docs) (world_member_in_front docs room)
  world_member-sound = then_sound prefix-sound world_member_behind-sound

  inclusion-sound : (pre : Prefix)
      → Sound (λ us part rest. (ts : List Token) → ReadsPrefix docs ts pre (Key Keyword.Include ∷ us) → ReadsPart docs ts part rest) (inclusion_behind pre)
  inclusion-sound pre =
      then_sound path-sound (λ path. if_key_sound _ (mark_sound _ (then_sound (listed_sound other_name-sound) (λ names.
      if_mark_sound _ (found_sound (λ rest vs l us p ts f. includes f (all_with_end p l))) (found_sound (λ rest vs l us p ts f. includes f (all_with p l))))))
      (mark_sound _ (found_sound (λ rest us p ts f. includes f (all_of p)))))

  pub part-sound : Sound (ReadsPart docs) (part_in_front docs room)
  part-sound =
      then_sound prefix-sound (λ pre.
      if_key_sound _ (inclusion-sound pre) (made_sound _ (sound_as (world_member_behind-sound pre) (λ us rest it r ts p. has (r ts p)))))

  -- ---- packages

  -- an item with this documentation
  abbrev pub item_by : List Text → List Token → Reading TextItem
  item_by lines = if_key Keyword.Use name_behind (λ rest. then_read (gates_in_front rest) (item_behind docs room lines))

  pub item-sound : Sound (ReadsItem docs) (item_in_front docs room)
  item-sound =
      by_docs_sound docs item_by (λ lines.
      if_key_sound _ (then_sound path-sound (λ path. if_key_sound _ (id_sound (λ t own i. mark_sound _ (found_sound (λ rest ts p same. other_name_item p i))))
      (mark_sound _ (found_sound (λ rest ts p same. name_item p)))))
      (then_sound gates-sound (λ gates.
      if_key_sound _ (id_sound (λ t name i. made_sound _ (mark_sound _ (sound_as (repeated_sound member-sound) (λ us rest xs l ts g same.
      subst (λ here. ReadsItem docs ts (AnInterface here gates name xs) rest) same (interface_item g i l))))))
      (if_key_sound _ (id_sound (λ t name i. made_sound _ (mark_sound _ (sound_as (repeated_sound part-sound) (λ us rest xs l ts g same.
      subst (λ here. ReadsItem docs ts (AWorld here gates name xs) rest) same (world_item g i l)))))) refused_sound))))

  -- a nested package with this documentation
  abbrev pub nested_by : List Text → List Token → Reading NestedTree
  nested_by lines = behind_key Keyword.Package (λ rest. then_read (head_in_front rest) (nested_behind docs room lines))

  nested_behind-sound : (lines : List Text) (named : PackageHead)
      → Sound
      (λ us it rest. (ts : List Token) → ReadsHead ts named us → docs (Key Keyword.Package ∷ ts) ≡ lines → ReadsNested docs (Key Keyword.Package ∷ ts) it rest)
      (nested_behind docs room lines named)
  nested_behind-sound lines named =
      mark_sound _ (made_sound _ (sound_as (repeated_sound item-sound) (λ us rest items l ts h same.
      subst (λ here. ReadsNested docs (Key Keyword.Package ∷ ts) (record { head = head_with here named; items = items }) rest) same (nested_package h l))))

  pub nested-sound : Sound (ReadsNested docs) (nested_in_front docs room)
  nested-sound = by_docs_sound docs nested_by (λ lines. key_sound _ (then_sound head-sound (nested_behind-sound lines)))

  -- ---- texts

  -- an item or a nested package is there
  abbrev pub ReadsPiece : List Token → Piece → List Token → Type 0
  ReadsPiece ts (AnItem item) rest = ReadsItem docs ts item rest
  ReadsPiece ts (ANested it) rest = ReadsNested docs ts it rest

  pub piece-sound : Sound ReadsPiece (piece_in_front docs room)
  piece-sound = either_sound (begins_key Keyword.Package) (made_sound ANested nested-sound) (made_sound AnItem item-sound)

  -- items and nested packages, and nothing behind them
  abbrev ReadsPieces : List Token → List Piece → List Token → Type 0
  ReadsPieces ts pieces rest = ReadsRest docs ts (filter_map item_of_piece pieces) (filter_map nested_of_piece pieces) × (rest ≡ [])

  next_piece : {ts between : List Token} (x : Piece) (pieces : List Piece) → ReadsPiece ts x between
      → ReadsRest docs between (filter_map item_of_piece pieces) (filter_map nested_of_piece pieces)
      → ReadsRest docs ts (filter_map item_of_piece (x ∷ pieces)) (filter_map nested_of_piece (x ∷ pieces))
  next_piece (AnItem item) pieces r l = next_item r l
  next_piece (ANested it) pieces r l = next_nested r l

  pieces-sound : Sound ReadsPieces (until is_end (piece_in_front docs room))
  pieces-sound =
      until_sound ReadsPieces piece-sound (λ ts h. (subst (λ us. ReadsRest docs us [] []) (sym (is_end_is ts h)) rest_end, is_end_is ts h))
      (λ ts between rest x xs r l. (next_piece x xs r l.0, l.1))

  -- a text whose first package has this documentation
  abbrev pub text_by : List Text → List Token → Reading TextTree
  text_by lines =
      if_key Keyword.Package (λ rest. then_read (head_in_front rest) (text_behind docs room lines))
      (λ rest. made (text_with None) (until is_end (piece_in_front docs room) rest))

  text_by-sound : (lines : List Text) → Sound (λ ts tree rest. docs ts ≡ lines → ReadsText docs ts tree × (rest ≡ [])) (text_by lines)
  text_by-sound lines =
      if_key_sound _ (then_sound head-sound (λ head.
      if_mark_sound _ (made_sound _ (sound_as pieces-sound (λ us rest pieces l ts h same. (
        subst (λ here. ReadsText docs (Key Keyword.Package ∷ ts) (text_with (Some (head_with here head)) pieces)) same (with_name h l.0),
        l.1,
      ))))
      (then_sound (nested_behind-sound lines head) (λ it.
      made_sound _ (sound_as pieces-sound (λ vs rest pieces l us n ts h same. (without_name (next_nested (n ts h same) l.0), l.1)))))))
      (made_sound _ (sound_as pieces-sound (λ ts rest pieces l same. (without_name l.0, l.1))))

  -- A text that is found is there, and nothing behind it.
  pub text-sound : Sound (λ ts tree rest. ReadsText docs ts tree × (rest ≡ [])) (text_in_front docs room)
  unfolding if_key
  text-sound = by_docs_sound docs text_by text_by-sound
