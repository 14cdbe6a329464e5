-- No type that a reader finds has more levels than there is room for.
use Rattle.std.proofs.Common.{◌≡◌, refl, ℕ, ◌≤◌, ◌&&◌, Bool, true, List, [], ◌∷◌, arith, zero, suc}
use Rattle.std.specs.List.{filter_map, list_all}
use Rattle.std.proofs.lemmas.Bool.{and_from, le-leb, leb-true}
use Rattle.base_lemmas.proofs.Bools.{left_of, right_of}
use Rattle.wit_model.specs.{Rules.passes, Text.Text}
use Rattle.print_grammar.specs.{Keyword.Keyword, Token.Token, Token.Mark, Grammar.CommaList, Grammar.Repeated}
use Rattle.print_grammar.specs.Grammar.CommaList.{last, last_with_comma, next}
use Rattle.print_grammar.specs.Grammar.Repeated.{closed, again}
use Rattle.print_grammar.specs.Token.Token.{Word, Escaped, Key}
use Rattle.print_grammar.specs.Tree.{TypeTree, SignatureTree, Prefix, PackageHead, PathTree, UsedName}
use Rattle.text_trees.specs.Reading.{Reading, begins_key, if_key, until, repeated, listed}
use Rattle.text_trees.specs.ReadTypes.{tuple_types, payload_in_front, result_parts_in_front, form_in_front, type_by, level_in_front, type_in_front, param_in_front, params_in_front, result_in_front, signature_in_front}
use Rattle.text_trees.specs.ReadDeclared.{prefix_in_front, gates_in_front, full_path_behind, path_behind, path_in_front, use_behind, used_name_in_front, field_in_front, case_in_front, label_in_front, function_behind, resource_member_in_front, declared_in_front}
use Rattle.text_trees.specs.ReadFiles.{member_in_front, extern_in_front, world_member_behind, world_member_in_front, other_name_in_front, part_in_front, item_in_front, head_in_front, nested_behind, nested_in_front, Piece, Piece.AnItem, Piece.ANested, item_of_piece, nested_of_piece, piece_in_front, text_in_front}
use Rattle.text_trees.specs.Levels.{levels, deepest, fits_type, fits_param, fits_signature, fits_field, fits_case, fits_resource_member, fits_declared, fits_member, fits_extern, fits_world_member, fits_part, fits_item, fits_nested, fits_text}
use Rattle.text_trees.specs.Grammar.{Documentation}
use Rattle.text_trees.proofs.FilesFound.{item_by, nested_by, text_by}
use Rattle.text_trees.proofs.Finding.{Sound, Finds, finds, refuses, found_sound, refused_sound, then_sound, made_sound, sound_as, any_docs_sound, mark_sound, if_mark_sound, key_sound, if_key_sound, either_sound, id_sound, if_id_sound, digits_sound, until_sound, repeated_sound, listed_sound}

-- what is found passes a test
abbrev pub Passes : {X : Type 0} → (X → Bool) → List Token → X → List Token → Type 0
Passes test ts x rest = test x ≡ true

-- whatever is found
abbrev Any : {X : Type 0} → List Token → X → List Token → Type 0
Any ts x rest = Unit {0}

anything : {X : Type 0} (read : List Token → Reading X) → Sound Any read
anything read = record { at = λ ts. record { found = λ x rest e. tt } }

-- ---- lists

all_listed : {X : Type 0} {test : X → Bool} {close : Token} {ts rest : List Token} {xs : List X} → CommaList (Passes test) close ts xs rest → list_all test xs ≡ true
all_listed (last p) = and_from _ _ p refl
all_listed (last_with_comma p) = and_from _ _ p refl
all_listed (next p l) = and_from _ _ p (all_listed l)

all_repeated : {X : Type 0} {test : X → Bool} {close : Token} {ts rest : List Token} {xs : List X} → Repeated (Passes test) close ts xs rest → list_all test xs ≡ true
all_repeated closed = refl
all_repeated (again p l) = and_from _ _ p (all_repeated l)

module _ {X : Type 0} (test : X → Bool) {read : List Token → Reading X} (fit : Sound (Passes test) read) where
  listed-fit : (close : Mark) → Sound (Passes (list_all test)) (listed read close)
  listed-fit close = sound_as (listed_sound fit) (λ ts rest xs l. all_listed l)

  repeated-fit : (close : Mark) → Sound (Passes (list_all test)) (repeated read close)
  repeated-fit close = sound_as (repeated_sound fit) (λ ts rest xs l. all_repeated l)

  until-fit : (ends : List Token → Bool) → Sound (Passes (list_all test)) (until ends read)
  until-fit ends = until_sound (Passes (list_all test)) fit (λ ts h. refl) (λ ts between rest x xs p q. and_from _ _ p q)

-- ---- types

-- the type that is found has at most so many levels
abbrev Within : ℕ → List Token → TypeTree → List Token → Type 0
Within room ts ty rest = levels ty ≤ room

deepest_within : (room : ℕ) (types : List TypeTree) → list_all (fits_type room) types ≡ true → deepest (tuple_types types) ≤ room
deepest_within room [] h = omega arith
deepest_within room (ty ∷ types) h =
    let first = leb-true (levels ty) room (left_of (fits_type room ty) _ h) in
    let others = deepest_within room types (right_of (fits_type room ty) _ h) in omega (arith, first, others)

module _ (room : ℕ) {read : List Token → Reading TypeTree} (fit : Sound (Within room) read) where
  payload-fits : (alone : TypeTree) (of : TypeTree → TypeTree) → levels alone ≤ suc room → ((ty : TypeTree) → levels ty ≤ room → levels (of ty) ≤ suc room)
      → Sound (Within (suc room)) (payload_in_front alone of read)
  payload-fits alone of a f = if_mark_sound _ (then_sound fit (λ ty. mark_sound _ (found_sound (λ rest ts h. f ty h)))) (found_sound (λ rest. a))

  result-fits : Sound (Within (suc room)) (result_parts_in_front read)
  result-fits =
      if_key_sound _ (mark_sound _ (then_sound fit (λ err. mark_sound _ (found_sound (λ rest ts h. omega (arith, h))))))
      (then_sound fit (λ ok. if_mark_sound _ (then_sound fit (λ err. mark_sound _ (found_sound (λ rest us k ts h. omega (arith, h, k)))))
      (mark_sound _ (found_sound (λ rest ts h. omega (arith, h))))))

  form-fits : Sound (Within (suc room)) (form_in_front read)
  form-fits =
      if_key_sound _ (made_sound _ (mark_sound _ (id_sound (λ t label i. mark_sound _ (found_sound (λ rest. omega arith))))))
      (if_key_sound _ (made_sound _ (mark_sound _ (id_sound (λ t label i. mark_sound _ (found_sound (λ rest. omega arith))))))
      (if_key_sound _ (mark_sound _ (made_sound _ (sound_as (listed-fit (fits_type room) (sound_as fit (λ ts rest ty h. le-leb (levels ty) room h)) _)
      (λ ts rest types h. let k = deepest_within room types h in omega (arith, k)))))
      (if_key_sound _ (made_sound _ (mark_sound _ (then_sound fit (λ ty. mark_sound _ (found_sound (λ rest ts h. omega (arith, h)))))))
      (if_key_sound _ (mark_sound _ (then_sound fit (λ ty.
      if_mark_sound _ (digits_sound (λ n. mark_sound _ (found_sound (λ rest ts h. omega (arith, h))))) (mark_sound _ (found_sound (λ rest ts h. omega (arith, h)))))))
      (if_key_sound _ (mark_sound _ (then_sound fit (λ k. mark_sound _ (then_sound fit (λ v. mark_sound _ (found_sound (λ rest us i ts h. omega (arith, h, i))))))))
      (if_key_sound _ (if_mark_sound _ result-fits (found_sound (λ rest. omega arith)))
      (if_key_sound _ (payload-fits _ _ (omega arith) (λ ty h. omega (arith, h)))
      (if_key_sound _ (payload-fits _ _ (omega arith) (λ ty h. omega (arith, h))) refused_sound))))))))

by-fits : (room : ℕ) {form : List Token → Reading TypeTree} → Sound (Within room) form → Sound (Within room) (type_by form)
by-fits room {form} fit = record { at = go }
  where
    go : (ts : List Token) → Finds (type_by form ts) (Within room ts)
    go (Word label ∷ ts) = finds (omega arith)
    go (Escaped label ∷ ts) = finds (omega arith)
    go (Key (Keyword.PrimitiveWord p) ∷ ts) = finds (omega arith)
    go (Key Keyword.Use ∷ ts) = fit.at _
    go (Key keyword ∷ ts) = fit.at _
    go _ = refuses

level-fits : (room : ℕ) → Sound (Within room) (level_in_front room)
unfolding level_in_front
level-fits zero = refused_sound
level-fits (suc room) = form-fits room (by-fits room (level-fits room))

module _ (room : ℕ) where
  -- A type that is found has no more levels than there is room for.
  pub type-fits : Sound (Passes (fits_type room)) (type_in_front room)
  type-fits = sound_as (by-fits room (level-fits room)) (λ ts rest ty h. le-leb (levels ty) room h)

  alias-fits : Sound (Passes (fits_type (suc room))) (type_in_front (suc room))
  alias-fits = sound_as (by-fits (suc room) (level-fits (suc room))) (λ ts rest ty h. le-leb (levels ty) (suc room) h)

  -- ---- signatures

  param-fits : Sound (Passes (fits_param room)) (param_in_front room)
  param-fits = id_sound (λ t name i. mark_sound _ (then_sound type-fits (λ ty. found_sound (λ rest ts h. h))))

  params-fit : Sound (Passes (list_all (fits_param room))) (params_in_front room)
  params-fit = mark_sound _ (if_mark_sound _ (found_sound (λ rest. refl)) (listed-fit (fits_param room) param-fits _))

  result-fit : Sound (Passes (passes (fits_type room))) (result_in_front room)
  result-fit = if_mark_sound _ (made_sound _ (sound_as type-fits (λ ts rest ty h. h))) (found_sound (λ rest. refl))

  pub signature-fits : Sound (Passes (fits_signature room)) (signature_in_front room)
  signature-fits =
      if_key_sound _ (key_sound _ (then_sound params-fit (λ params. then_sound result-fit (λ result. found_sound (λ rest us k ts h. and_from _ _ h k)))))
      (key_sound _ (then_sound params-fit (λ params. then_sound result-fit (λ result. found_sound (λ rest us k ts h. and_from _ _ h k)))))

  function-fits : {X : Type 0} {test : X → Bool} (function_of : SignatureTree → X) → ((signature : SignatureTree) → fits_signature room signature ≡ true → test (function_of signature) ≡ true)
      → Sound (Passes test) (function_behind room function_of)
  function-fits function_of f = then_sound signature-fits (λ signature. mark_sound _ (found_sound (λ rest ts h. f signature h)))

  use-fits : {X : Type 0} {test : X → Bool} (use_of : PathTree → List UsedName → X) → ((path : PathTree) (names : List UsedName) → test (use_of path names) ≡ true)
      → Sound (Passes test) (use_behind use_of)
  use-fits use_of f =
      then_sound (anything path_in_front) (λ path. mark_sound _ (mark_sound _ (then_sound (anything (listed used_name_in_front _)) (λ names.
      mark_sound _ (found_sound (λ rest us k ts h. f path names))))))

-- ---- declared types

module _ (docs : Documentation) (room : ℕ) where
  field-fits : Sound (Passes (fits_field room)) (field_in_front docs room)
  field-fits =
      any_docs_sound docs (λ lines. field_in_front (λ us. lines) room) (λ lines.
      id_sound (λ t name i. mark_sound _ (then_sound (type-fits room) (λ ty. found_sound (λ rest ts h. h)))))

  case-fits : Sound (Passes (fits_case room)) (case_in_front docs room)
  case-fits =
      any_docs_sound docs (λ lines. case_in_front (λ us. lines) room) (λ lines.
      id_sound (λ t name i. if_mark_sound _ (then_sound (type-fits room) (λ ty. mark_sound _ (found_sound (λ rest ts h. h)))) (found_sound (λ rest. refl))))

  pub resource_member-fits : Sound (Passes (fits_resource_member room)) (resource_member_in_front docs room)
  resource_member-fits =
      then_sound (anything (prefix_in_front docs)) (λ pre.
      if_key_sound _ (then_sound (params-fit room) (λ params. then_sound (result-fit room) (λ result. mark_sound _ (found_sound (λ rest vs k us h ts u. and_from _ _ h k)))))
      (id_sound (λ t name i. mark_sound _ (if_key_sound _
      (sound_as (function-fits room {test = fits_resource_member room} _ (λ signature h. h)) (λ us rest member h ts u. h))
      (sound_as (function-fits room {test = fits_resource_member room} _ (λ signature h. h)) (λ us rest member h ts u. h))))))

  pub declared-fits : Sound (Passes (fits_declared room)) (declared_in_front docs room)
  declared-fits =
      if_key_sound _ (id_sound (λ t name i. mark_sound _ (made_sound _ (sound_as (listed-fit (fits_field room) field-fits _) (λ ts rest xs h. h)))))
      (if_key_sound _ (id_sound (λ t name i. mark_sound _ (made_sound _ (sound_as (listed-fit (fits_case room) case-fits _) (λ ts rest xs h. h)))))
      (if_key_sound _ (id_sound (λ t name i. mark_sound _ (made_sound _ (sound_as (anything (listed (label_in_front docs) _)) (λ ts rest xs h. refl)))))
      (if_key_sound _ (id_sound (λ t name i. mark_sound _ (made_sound _ (sound_as (anything (listed (label_in_front docs) _)) (λ ts rest xs h. refl)))))
      (if_key_sound _ (id_sound (λ t name i. mark_sound _ (then_sound (alias-fits room) (λ ty. mark_sound _ (found_sound (λ rest ts h. h))))))
      (if_key_sound _ (id_sound (λ t name i. if_mark_sound _ (found_sound (λ rest. refl))
      (mark_sound _ (made_sound _ (sound_as (repeated-fit (fits_resource_member room) resource_member-fits _) (λ ts rest xs h. h)))))) refused_sound)))))

  -- ---- what interfaces, worlds and packages have

  pub member-fits : Sound (Passes (fits_member room)) (member_in_front docs room)
  member-fits =
      then_sound (anything (prefix_in_front docs)) (λ pre.
      if_id_sound (λ t name i. mark_sound _ (sound_as (function-fits room {test = fits_member room} _ (λ signature h. h)) (λ us rest member h ts u. h)))
      (if_key_sound _ (sound_as (use-fits room {test = fits_member room} _ (λ path names. refl)) (λ us rest member h ts u. h))
      (made_sound _ (sound_as declared-fits (λ us rest declared h ts u. h)))))

  pub extern-fits : Sound (Passes (fits_extern room)) (extern_in_front docs room)
  extern-fits =
      id_sound (λ t name i.
      if_mark_sound _ (found_sound (λ rest. refl))
      (mark_sound _ (either_sound _ (function-fits room {test = fits_extern room} _ (λ signature h. h))
      (if_key_sound _ (made_sound _ (mark_sound _ (sound_as (repeated-fit (fits_member room) member-fits _) (λ ts rest xs h. h))))
      (id_sound (λ u second j.
      either_sound _ (then_sound (anything (full_path_behind name second)) (λ path. mark_sound _ (found_sound (λ rest ts u. refl))))
      (then_sound (anything (path_behind second)) (λ path. mark_sound _ (found_sound (λ rest ts u. refl))))))))))

  world_member_behind-fits : (pre : Prefix) → Sound (Passes (fits_world_member room)) (world_member_behind docs room pre)
  world_member_behind-fits pre =
      if_key_sound _ (made_sound _ (sound_as extern-fits (λ us rest e h. h)))
      (if_key_sound _ (made_sound _ (sound_as extern-fits (λ us rest e h. h)))
      (if_key_sound _ (use-fits room {test = fits_world_member room} _ (λ path names. refl)) (made_sound _ (sound_as declared-fits (λ us rest declared h. h)))))

  pub world_member-fits : Sound (Passes (fits_world_member room)) (world_member_in_front docs room)
  world_member-fits = then_sound (anything (prefix_in_front docs)) (λ pre. sound_as (world_member_behind-fits pre) (λ us rest it h ts u. h))

  pub part-fits : Sound (Passes (fits_part room)) (part_in_front docs room)
  part-fits =
      then_sound (anything (prefix_in_front docs)) (λ pre.
      if_key_sound _ (then_sound (anything path_in_front) (λ path. if_key_sound _ (mark_sound _ (then_sound (anything (listed other_name_in_front _)) (λ names.
      if_mark_sound _ (found_sound (λ rest vs k us h ts u. refl)) (found_sound (λ rest vs k us h ts u. refl)))))
      (mark_sound _ (found_sound (λ rest us h ts u. refl)))))
      (made_sound _ (sound_as (world_member_behind-fits pre) (λ us rest it h ts u. h))))

  pub item-fits : Sound (Passes (fits_item room)) (item_in_front docs room)
  item-fits =
      any_docs_sound docs (item_by docs room) (λ lines.
      if_key_sound _ (then_sound (anything path_in_front) (λ path. if_key_sound _ (id_sound (λ t own i. mark_sound _ (found_sound (λ rest ts u. refl))))
      (mark_sound _ (found_sound (λ rest ts u. refl)))))
      (then_sound (anything gates_in_front) (λ gates.
      if_key_sound _ (id_sound (λ t name i. made_sound _ (mark_sound _ (sound_as (repeated-fit (fits_member room) member-fits _) (λ us rest xs h ts u. h)))))
      (if_key_sound _ (id_sound (λ t name i. made_sound _ (mark_sound _ (sound_as (repeated-fit (fits_part room) part-fits _) (λ us rest xs h ts u. h)))))
      refused_sound))))

  nested_behind-fits : (lines : List Text) (head : PackageHead) → Sound (Passes (fits_nested room)) (nested_behind docs room lines head)
  nested_behind-fits lines head = mark_sound _ (made_sound _ (sound_as (repeated-fit (fits_item room) item-fits _) (λ us rest items h. h)))

  pub nested-fits : Sound (Passes (fits_nested room)) (nested_in_front docs room)
  nested-fits =
      any_docs_sound docs (nested_by docs room) (λ lines.
      key_sound _ (then_sound (anything head_in_front) (λ head. sound_as (nested_behind-fits lines head) (λ us rest it h ts u. h))))

  -- ---- texts

  -- whether no type of a piece has more levels than there is room for
  abbrev fits_piece : Piece → Bool
  fits_piece (AnItem item) = fits_item room item
  fits_piece (ANested it) = fits_nested room it

  piece-fits : Sound (Passes fits_piece) (piece_in_front docs room)
  piece-fits =
      either_sound (begins_key Keyword.Package) (made_sound ANested (sound_as nested-fits (λ ts rest it h. h)))
      (made_sound AnItem (sound_as item-fits (λ ts rest item h. h)))

  -- the items among pieces, and the nested packages
  items_fit : (pieces : List Piece) → list_all fits_piece pieces ≡ true → list_all (fits_item room) (filter_map item_of_piece pieces) ≡ true
  items_fit [] h = refl
  items_fit (AnItem item ∷ pieces) h = and_from _ _ (left_of (fits_item room item) _ h) (items_fit pieces (right_of (fits_item room item) _ h))
  items_fit (ANested it ∷ pieces) h = items_fit pieces (right_of (fits_nested room it) _ h)

  nested_fit : (pieces : List Piece) → list_all fits_piece pieces ≡ true → list_all (fits_nested room) (filter_map nested_of_piece pieces) ≡ true
  nested_fit [] h = refl
  nested_fit (AnItem item ∷ pieces) h = nested_fit pieces (right_of (fits_item room item) _ h)
  nested_fit (ANested it ∷ pieces) h = and_from _ _ (left_of (fits_nested room it) _ h) (nested_fit pieces (right_of (fits_nested room it) _ h))

  both_fit : (pieces : List Piece) → list_all fits_piece pieces ≡ true
      → (list_all (fits_item room) (filter_map item_of_piece pieces) && list_all (fits_nested room) (filter_map nested_of_piece pieces)) ≡ true
  both_fit pieces h = and_from _ _ (items_fit pieces h) (nested_fit pieces h)

  text_by-fits : (lines : List Text) → Sound (Passes (fits_text room)) (text_by docs room lines)
  text_by-fits lines =
      if_key_sound _ (then_sound (anything head_in_front) (λ head.
      if_mark_sound _ (made_sound _ (sound_as (until-fit fits_piece piece-fits _) (λ us rest pieces h ts u. both_fit pieces h)))
      (then_sound (nested_behind-fits lines head) (λ it.
      made_sound _ (sound_as (until-fit fits_piece piece-fits _) (λ vs rest pieces h us k ts u. both_fit (ANested it ∷ pieces) (and_from _ _ k h)))))))
      (made_sound _ (sound_as (until-fit fits_piece piece-fits _) (λ ts rest pieces h. both_fit pieces h)))

  -- No type of a text that is found has more levels than there is room for.
  pub text-fits : Sound (Passes (fits_text room)) (text_in_front docs room)
  unfolding if_key
  text-fits = any_docs_sound docs (text_by docs room) text_by-fits
