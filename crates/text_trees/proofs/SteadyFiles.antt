-- Readers of types, declared types, interfaces, worlds and texts answer alike for tokens that begin alike.
use Rattle.std.proofs.Common.{◌≡◌, refl, ℕ, Bool, true, false, List, [], ◌∷◌, zero, suc, if◌then◌else◌, Option, Some, None}
use Rattle.print_grammar.specs.{Keyword.Keyword, Token.Token}
use Rattle.print_grammar.specs.Token.Mark.{CloseBrace, Slash}
use Rattle.print_grammar.specs.Token.Token.{Word, Escaped, Key}
use Rattle.print_grammar.specs.Tree.{TypeTree, TypeTree.PrimitiveType, TypeTree.Name, SignatureTree, Prefix, PackageHead, PathTree, UsedName}
use Rattle.text_trees.specs.Reading.{Wanted, Reading, Reading.Refused, begins, begins_key, if_key, listed, until}
use Rattle.text_trees.specs.ReadTypes.{payload_in_front, form_in_front, type_by, level_in_front, type_in_front, param_in_front, params_in_front, result_in_front, begins_signature, signature_in_front}
use Rattle.text_trees.specs.ReadDeclared.{at_version_in_front, full_path_behind, path_behind, path_in_front, used_name_in_front, use_behind, field_in_front, case_in_front, label_in_front, function_behind, resource_member_in_front, declared_in_front}
use Rattle.text_trees.specs.ReadFiles.{member_in_front, extern_in_front, world_member_behind, world_member_in_front, other_name_in_front, part_in_front, item_in_front, head_in_front, nested_behind, nested_in_front, Piece.AnItem, Piece.ANested, piece_in_front, is_end, text_in_front}
use Rattle.text_trees.specs.{Grammar.Documentation, Places.first_alone}
use Rattle.text_trees.proofs.Finding.{Sound, is_there}
use Rattle.text_trees.proofs.Lengths.{Shortens, type-shortens, param-shortens, used_name-shortens, field-shortens, case-shortens, label-shortens, resource_member-shortens, member-shortens, world_member-shortens, other_name-shortens, part-shortens, item-shortens, nested-shortens}
use Rattle.text_trees.proofs.TypesFound.{type-sound, by-sound, level-sound, param-sound}
use Rattle.text_trees.proofs.DeclaredFound.{used_name-sound, field-sound, case-sound, label-sound, resource_member-sound}
use Rattle.text_trees.proofs.FilesFound.{other_name-sound, member-sound, world_member-sound, part-sound, item-sound, ReadsPiece, piece-sound}
use Rattle.text_trees.proofs.Steady.{Steady, Windowed, of_first, begins_windowed, begins_key_windowed, found_steady, refused_steady, then_steady, made_steady, either_steady, steady_as, mark_steady, if_mark_steady, key_steady, if_key_steady, taken, taken_steady, id_steady, version_steady, digits_steady, if_id_steady}
use Rattle.text_trees.proofs.SteadyMarks.{gates-steady, prefix-steady}
use Rattle.text_trees.proofs.SteadyLists.{Shrinks, until_steady, repeated_steady, listed_steady}

-- what is found leaves fewer tokens, if what stands there does
shrinks : {X : Type 0} {Reads : List Token → X → List Token → Type 0} {read : List Token → Reading X} → Sound Reads read → Shortens Reads → Shrinks read
shrinks sound short ts rest x e = short ts rest x (is_there sound ts rest x e)

-- ---- tests

signature_windowed : Windowed begins_signature
signature_windowed = of_first begins_signature (elim [ [] ↦ refl | t ∷ ts ↦ refl ])

end_windowed : Windowed is_end
end_windowed = of_first is_end (elim [ [] ↦ refl | t ∷ ts ↦ refl ])

-- ---- types

-- the type that a token is by itself, if it is one
abbrev type_of : Token → Option TypeTree
type_of (Word label) = Some (Name label)
type_of (Escaped label) = Some (Name label)
type_of (Key (Keyword.PrimitiveWord p)) = Some (PrimitiveType p)
type_of t = None

-- whether a token by itself, or a keyword that is no type by itself, stands in front
abbrev begins_type : List Token → Bool
begins_type (Word label ∷ ts) = true
begins_type (Escaped label ∷ ts) = true
begins_type (Key (Keyword.PrimitiveWord p) ∷ ts) = true
begins_type ts = false

abbrev begins_any_key : List Token → Bool
begins_any_key (Key keyword ∷ ts) = true
begins_any_key ts = false

begins_type_first : (ts : List Token) → begins_type (first_alone ts) ≡ begins_type ts
begins_type_first [] = refl
begins_type_first (Word label ∷ ts) = refl
begins_type_first (Key (Keyword.PrimitiveWord p) ∷ ts) = refl
begins_type_first (Key Keyword.Use ∷ ts) = refl
begins_type_first (Key keyword ∷ ts) = refl
begins_type_first (t ∷ ts) = refl

begins_any_key_first : (ts : List Token) → begins_any_key (first_alone ts) ≡ begins_any_key ts
begins_any_key_first [] = refl
begins_any_key_first (Key keyword ∷ ts) = refl
begins_any_key_first (t ∷ ts) = refl

type_by_cases : (form : List Token → Reading TypeTree) (ts : List Token)
    → type_by form ts ≡ (if begins_type ts then taken type_of Wanted.AType ts else (if begins_any_key ts then form ts else Refused Wanted.AType ts))
type_by_cases form [] = refl
type_by_cases form (Word label ∷ ts) = refl
type_by_cases form (Key (Keyword.PrimitiveWord p) ∷ ts) = refl
type_by_cases form (Key Keyword.Use ∷ ts) = refl
type_by_cases form (Key keyword ∷ ts) = refl
type_by_cases form (t ∷ ts) = refl

by-steady : {form : List Token → Reading TypeTree} → Steady form → Steady (type_by form)
by-steady {form} s =
    steady_as (λ ts. if begins_type ts then taken type_of Wanted.AType ts else (if begins_any_key ts then form ts else Refused Wanted.AType ts)) (type_by_cases form)
    (either_steady begins_type (of_first begins_type begins_type_first) (taken_steady type_of Wanted.AType)
    (either_steady begins_any_key (of_first begins_any_key begins_any_key_first) s refused_steady))

module _ {read : List Token → Reading TypeTree} (s : Steady read) (short : Shrinks read) where
  payload-steady : (alone : TypeTree) (of : TypeTree → TypeTree) → Steady (payload_in_front alone of read)
  payload-steady alone of = if_mark_steady _ (then_steady s (λ ty. mark_steady _ found_steady)) found_steady

  form-steady : Steady (form_in_front read)
  form-steady =
      if_key_steady _ (made_steady _ (mark_steady _ (then_steady id_steady (λ label. mark_steady _ found_steady))))
      (if_key_steady _ (made_steady _ (mark_steady _ (then_steady id_steady (λ label. mark_steady _ found_steady))))
      (if_key_steady _ (mark_steady _ (made_steady _ (listed_steady s short _)))
      (if_key_steady _ (made_steady _ (mark_steady _ (then_steady s (λ ty. mark_steady _ found_steady))))
      (if_key_steady _ (mark_steady _ (then_steady s (λ ty. if_mark_steady _ (then_steady digits_steady (λ n. mark_steady _ found_steady)) (mark_steady _ found_steady))))
      (if_key_steady _ (mark_steady _ (then_steady s (λ k. mark_steady _ (then_steady s (λ v. mark_steady _ found_steady)))))
      (if_key_steady _ (if_mark_steady _ (if_key_steady _ (mark_steady _ (then_steady s (λ err. mark_steady _ found_steady)))
      (then_steady s (λ ok. if_mark_steady _ (then_steady s (λ err. mark_steady _ found_steady)) (mark_steady _ found_steady)))) found_steady)
      (if_key_steady _ (payload-steady _ _)
      (if_key_steady _ (payload-steady _ _) refused_steady))))))))

level-steady : (room : ℕ) → Steady (level_in_front room)
unfolding level_in_front
level-steady zero = refused_steady
level-steady (suc room) =
    form-steady (by-steady (level-steady room)) (shrinks (by-sound (level-sound room)) (λ ts rest ty r. type-shortens r))

-- ---- paths and uses

at_version-steady : Steady at_version_in_front
at_version-steady = if_mark_steady _ (then_steady version_steady (λ version. found_steady)) found_steady

full_path-steady : (namespace name : List ℕ) → Steady (full_path_behind namespace name)
full_path-steady namespace name = mark_steady _ (then_steady id_steady (λ interface. then_steady at_version-steady (λ version. found_steady)))

path_behind-steady : (first : List ℕ) → Steady (path_behind first)
path_behind-steady first = if_mark_steady _ (then_steady id_steady (λ name. full_path-steady first name)) found_steady

used_name-steady : Steady used_name_in_front
used_name-steady = then_steady id_steady (λ other. if_key_steady _ (then_steady id_steady (λ own. found_steady)) found_steady)

pub used_name-shrinks : Shrinks used_name_in_front
used_name-shrinks = shrinks used_name-sound used_name-shortens

path-steady : Steady path_in_front
path-steady = then_steady id_steady path_behind-steady

use-steady : {X : Type 0} (use_of : PathTree → List UsedName → X) → Steady (use_behind use_of)
use-steady use_of =
    then_steady path-steady (λ path. mark_steady _ (mark_steady _ (then_steady
    (listed_steady used_name-steady used_name-shrinks _) (λ names. mark_steady _ found_steady))))

other_name-steady : Steady other_name_in_front
other_name-steady = then_steady id_steady (λ other. key_steady _ (made_steady _ id_steady))

pub other_name-shrinks : Shrinks other_name_in_front
other_name-shrinks = shrinks other_name-sound other_name-shortens

-- ---- declared types

-- no documentation
abbrev pub nothing : Documentation
nothing ts = []

label-steady : Steady (label_in_front nothing)
label-steady = then_steady id_steady (λ name. found_steady)

pub label-shrinks : (docs : Documentation) → Shrinks (label_in_front docs)
label-shrinks docs = shrinks (label-sound docs) label-shortens

labels-steady : Steady (listed (label_in_front nothing) CloseBrace)
labels-steady = listed_steady label-steady (label-shrinks nothing) CloseBrace

module _ (docs : Documentation) (room : ℕ) where
  pub field-shrinks : Shrinks (field_in_front docs room)
  field-shrinks = shrinks (field-sound docs room) field-shortens

  pub case-shrinks : Shrinks (case_in_front docs room)
  case-shrinks = shrinks (case-sound docs room) case-shortens

  pub resource_member-shrinks : Shrinks (resource_member_in_front docs room)
  resource_member-shrinks = shrinks (resource_member-sound docs room) resource_member-shortens

  pub member-shrinks : Shrinks (member_in_front docs room)
  member-shrinks = shrinks (member-sound docs room) member-shortens

  pub world_member-shrinks : Shrinks (world_member_in_front docs room)
  world_member-shrinks = shrinks (world_member-sound docs room) world_member-shortens

  pub part-shrinks : Shrinks (part_in_front docs room)
  part-shrinks = shrinks (part-sound docs room) part-shortens

  pub item-shrinks : Shrinks (item_in_front docs room)
  item-shrinks = shrinks (item-sound docs room) item-shortens

  piece-shortens : Shortens (ReadsPiece docs room)
  piece-shortens ts rest (AnItem item) r = item-shortens _ _ _ r
  piece-shortens ts rest (ANested it) r = nested-shortens _ _ _ r

  pub piece-shrinks : Shrinks (piece_in_front docs room)
  piece-shrinks = shrinks (piece-sound docs room) piece-shortens

module _ (room : ℕ) where
  type-steady : Steady (type_in_front room)
  type-steady = by-steady (level-steady room)

  alias-steady : Steady (type_in_front (suc room))
  alias-steady = by-steady (level-steady (suc room))

  pub type-shrinks : Shrinks (type_in_front room)
  type-shrinks = shrinks (type-sound room) (λ ts rest ty r. type-shortens r)

  param-steady : Steady (param_in_front room)
  param-steady = then_steady id_steady (λ name. mark_steady _ (then_steady type-steady (λ ty. found_steady)))

  pub param-shrinks : Shrinks (param_in_front room)
  param-shrinks = shrinks (param-sound room) param-shortens

  params-steady : Steady (params_in_front room)
  params-steady = mark_steady _ (if_mark_steady _ found_steady (listed_steady param-steady param-shrinks _))

  result-steady : Steady (result_in_front room)
  result-steady = if_mark_steady _ (made_steady _ type-steady) found_steady

  signature-steady : Steady (signature_in_front room)
  signature-steady =
      if_key_steady _ (key_steady _ (then_steady params-steady (λ params. then_steady result-steady (λ result. found_steady))))
      (key_steady _ (then_steady params-steady (λ params. then_steady result-steady (λ result. found_steady))))

  function-steady : {X : Type 0} (function_of : SignatureTree → X) → Steady (function_behind room function_of)
  function-steady function_of = then_steady signature-steady (λ signature. mark_steady _ found_steady)

  field-steady : Steady (field_in_front nothing room)
  field-steady = then_steady id_steady (λ name. mark_steady _ (then_steady type-steady (λ ty. found_steady)))

  case-steady : Steady (case_in_front nothing room)
  case-steady = then_steady id_steady (λ name. if_mark_steady _ (then_steady type-steady (λ ty. mark_steady _ found_steady)) found_steady)

  resource_member-steady : Steady (resource_member_in_front nothing room)
  resource_member-steady =
      then_steady prefix-steady (λ pre.
      if_key_steady _ (then_steady params-steady (λ params. then_steady result-steady (λ result. mark_steady _ found_steady)))
      (then_steady id_steady (λ name. mark_steady _ (if_key_steady _ (function-steady _) (function-steady _)))))

  declared-steady : Steady (declared_in_front nothing room)
  declared-steady =
      if_key_steady _ (then_steady id_steady (λ name. mark_steady _ (made_steady _ (listed_steady field-steady (field-shrinks nothing room) _))))
      (if_key_steady _ (then_steady id_steady (λ name. mark_steady _ (made_steady _ (listed_steady case-steady (case-shrinks nothing room) _))))
      (if_key_steady _ (then_steady id_steady (λ name. mark_steady _ (made_steady _ labels-steady)))
      (if_key_steady _ (then_steady id_steady (λ name. mark_steady _ (made_steady _ labels-steady)))
      (if_key_steady _ (then_steady id_steady (λ name. mark_steady _ (then_steady alias-steady (λ ty. mark_steady _ found_steady))))
      (if_key_steady _ (then_steady id_steady (λ name. if_mark_steady _ found_steady (mark_steady _ (made_steady _
      (repeated_steady resource_member-steady (resource_member-shrinks nothing room) _))))) refused_steady)))))

  -- ---- what interfaces, worlds and packages have

  member-steady : Steady (member_in_front nothing room)
  member-steady =
      then_steady prefix-steady (λ pre.
      if_id_steady (λ name. mark_steady _ (function-steady _)) (if_key_steady _ (use-steady _) (made_steady _ declared-steady)))

  extern-steady : Steady (extern_in_front nothing room)
  extern-steady =
      then_steady id_steady (λ name.
      if_mark_steady _ found_steady
      (mark_steady _ (either_steady begins_signature signature_windowed (function-steady _)
      (if_key_steady _ (made_steady _ (mark_steady _ (repeated_steady member-steady (member-shrinks nothing room) _)))
      (then_steady id_steady (λ second.
      either_steady (begins Slash) (begins_windowed Slash) (then_steady (full_path-steady name second) (λ path. mark_steady _ found_steady))
      (then_steady (path_behind-steady second) (λ path. mark_steady _ found_steady))))))))

  world_member_behind-steady : (pre : Prefix) → Steady (world_member_behind nothing room pre)
  world_member_behind-steady pre =
      if_key_steady _ (made_steady _ extern-steady)
      (if_key_steady _ (made_steady _ extern-steady)
      (if_key_steady _ (use-steady _) (made_steady _ declared-steady)))

  part-steady : Steady (part_in_front nothing room)
  part-steady =
      then_steady prefix-steady (λ pre.
      if_key_steady _ (then_steady path-steady (λ path. if_key_steady _ (mark_steady _ (then_steady
      (listed_steady other_name-steady other_name-shrinks _) (λ names.
      if_mark_steady _ found_steady found_steady))) (mark_steady _ found_steady)))
      (made_steady _ (world_member_behind-steady pre)))

  item-steady : Steady (item_in_front nothing room)
  item-steady =
      if_key_steady _ (then_steady path-steady (λ path.
      if_key_steady _ (then_steady id_steady (λ own. mark_steady _ found_steady)) (mark_steady _ found_steady)))
      (then_steady gates-steady (λ gates.
      if_key_steady _ (then_steady id_steady (λ name. made_steady _ (mark_steady _ (repeated_steady member-steady (member-shrinks nothing room) _))))
      (if_key_steady _ (then_steady id_steady (λ name. made_steady _ (mark_steady _
      (repeated_steady part-steady (part-shrinks nothing room) _)))) refused_steady)))

  head-steady : Steady head_in_front
  head-steady = then_steady id_steady (λ namespace. mark_steady _ (then_steady id_steady (λ name. made_steady _ at_version-steady)))

  nested_behind-steady : (head : PackageHead) → Steady (nested_behind nothing room [] head)
  nested_behind-steady head = mark_steady _ (made_steady _ (repeated_steady item-steady (item-shrinks nothing room) _))

  nested-steady : Steady (nested_in_front nothing room)
  nested-steady = key_steady _ (then_steady head-steady nested_behind-steady)

  pieces-steady : Steady (until is_end (piece_in_front nothing room))
  pieces-steady =
      until_steady (either_steady (begins_key Keyword.Package) (begins_key_windowed Keyword.Package) (made_steady _ nested-steady) (made_steady _ item-steady))
      (piece-shrinks nothing room) is_end end_windowed

  -- The reader of a text, without documentation, answers alike for tokens that begin alike.
  pub text-steady : Steady (text_in_front nothing room)
  unfolding if_key
  text-steady =
      if_key_steady Keyword.Package (then_steady head-steady (λ head.
      if_mark_steady _ (made_steady _ pieces-steady) (then_steady (nested_behind-steady head) (λ it. made_steady _ pieces-steady))))
      (made_steady _ pieces-steady)
