-- Paths, uses and declared types that are there by the grammar are found.
use Rattle.std.proofs.Common.{◌≡◌, refl, ℕ, true, false, List, [], ◌∷◌, suc, Option}
use Rattle.std.specs.List.{list_all}
use Rattle.base_lemmas.proofs.Bools.{left_of, right_of}
use Rattle.wit_model.specs.{Text.Text}
use Rattle.print_grammar.specs.{Keyword.Keyword, Token.Token}
use Rattle.print_grammar.specs.Token.Mark.{CloseBrace, OpenParen, Less, Colon, Semi, At, Slash}
use Rattle.print_grammar.specs.Token.Token.{Key, Punctuation}
use Rattle.print_grammar.specs.Tree.{PathTree, UsedName, FieldTree, CaseTree, LabelTree, SignatureTree, ResourceMember, Declared}
use Rattle.print_grammar.specs.Grammar.{IsId, CommaList, ReadsVersion, ReadsPath, ReadsUsedName, ReadsUse, ReadsSignature}
use Rattle.text_trees.specs.Grammar.{Documentation, ReadsField, ReadsCase, ReadsLabel, ReadsResourceMember, ReadsDeclared}
use Rattle.print_grammar.specs.Grammar.{ReadsVersion.no_version, ReadsVersion.with_version}
use Rattle.print_grammar.specs.Grammar.{ReadsPath.local, ReadsPath.full, ReadsUsedName.same_name, ReadsUsedName.other_name, ReadsUse.use_names}
use Rattle.print_grammar.specs.Grammar.{ReadsSignature.func, ReadsSignature.async_func}
use Rattle.text_trees.specs.Grammar.{ReadsField.field, ReadsCase.case_alone, ReadsCase.case_of, ReadsLabel.label}
use Rattle.text_trees.specs.Grammar.ReadsResourceMember.{constructor_, method, static}
use Rattle.text_trees.specs.Grammar.ReadsDeclared.{record_, variant, flags, enum, alias, resource, resource_with}
use Rattle.text_trees.specs.Reading.{Reading.Found, then_read, made, begins, begins_key, behind_mark, if_mark, if_key, id_in_front, version_in_front, listed}
use Rattle.text_trees.specs.ReadDeclared.{at_version_in_front, marks_from, marks_in_front, full_path_behind, path_in_front, used_name_in_front, use_behind, field_in_front, case_in_front, label_in_front, function_behind, resource_member_in_front, declared_in_front}
use Rattle.text_trees.specs.Levels.{fits_param, fits_signature, fits_field, fits_case, fits_resource_member, fits_declared}
use Rattle.text_trees.proofs.Lengths.{used_name-shortens, field-shortens, case-shortens, label-shortens, resource_member-shortens}
use Rattle.text_trees.proofs.Complete.{EndsAt, ends_no_mark, ends_no_key, id_gives, id_no_key, id_no_mark, Shut, shut_at, listed-complete, repeated-complete}
use Rattle.text_trees.proofs.MarksComplete.{prefix-complete}
use Rattle.text_trees.proofs.TypesComplete.{type-found, params-complete, result-complete, signature-complete}

-- ---- paths and uses

pub at_version-complete : {ts rest : List Token} {version : Option Text} → ReadsVersion ts version rest → begins At rest ≡ false → at_version_in_front ts ≡ Found version rest
unfolding if_mark version_in_front then_read
at_version-complete no_version h = rw h refl
at_version-complete with_version h = refl

pub full_path-complete : {v : Token} {namespace name interface : Text} {version : Option Text} {between rest : List Token} → IsId v interface → ReadsVersion between version rest
    → begins At rest ≡ false → full_path_behind namespace name (Punctuation Slash ∷ v ∷ between) ≡ Found (PathTree.Full namespace name interface version) rest
unfolding behind_mark then_read
full_path-complete k r h = rw (id_gives _ k, at_version-complete r h) refl

pub path-complete : {ts rest : List Token} {path : PathTree} → ReadsPath ts path rest → begins Colon rest ≡ false → begins At rest ≡ false → path_in_front ts ≡ Found path rest
unfolding then_read if_mark
path-complete (local i) c h = rw (id_gives _ i, c) refl
path-complete (full i j k r) c h = rw (id_gives _ i, id_gives _ j, full_path-complete k r h) refl

used_name-complete : (ts rest : List Token) (name : UsedName) → ReadsUsedName ts name rest → EndsAt CloseBrace rest → true ≡ true → used_name_in_front ts ≡ Found name rest
unfolding then_read if_key
used_name-complete _ rest _ (same_name i) s h = rw (id_gives _ i, ends_no_key Keyword.As s) refl
used_name-complete _ _ _ (other_name i j) s h = rw (id_gives _ i, id_gives _ j) refl

used_name-shut : Shut (begins CloseBrace) used_name_in_front
unfolding then_read id_in_front
used_name-shut = shut_at CloseBrace used_name_in_front (λ rest. refl)

-- every element passes a test that always passes
pub all_pass : {X : Type 0} (xs : List X) → list_all (λ (x : X). true) xs ≡ true
all_pass [] = refl
all_pass (x ∷ xs) = all_pass xs

pub use-complete : {X : Type 0} (use_of : PathTree → List UsedName → X) {ts rest : List Token} {path : PathTree} {names : List UsedName}
    → ReadsUse (Key Keyword.Use ∷ ts) path names rest → use_behind use_of ts ≡ Found (use_of path names) rest
unfolding then_read behind_mark
use-complete use_of (use_names {names} p l) =
    rw (
      path-complete p refl refl,
      listed-complete CloseBrace used_name_in_front (λ name. true) used_name-shortens used_name-shut refl used_name-complete l (all_pass names),
    ) refl

-- ---- declared types

module _ (docs : Documentation) where
  label-complete : (ts rest : List Token) (name : LabelTree) → ReadsLabel docs ts name rest → EndsAt CloseBrace rest → true ≡ true
      → label_in_front docs ts ≡ Found name rest
  unfolding then_read
  label-complete _ _ _ (label i) s h = rw (id_gives _ i) refl

  label-shut : Shut (begins CloseBrace) (label_in_front docs)
  unfolding then_read id_in_front
  label-shut = shut_at CloseBrace (label_in_front docs) (λ rest. refl)

  labels-complete : {ts rest : List Token} {names : List LabelTree} → CommaList (ReadsLabel docs) (Punctuation CloseBrace) ts names rest
      → listed (label_in_front docs) CloseBrace ts ≡ Found names rest
  labels-complete {names = names} l =
      listed-complete CloseBrace (label_in_front docs) (λ name. true) label-shortens label-shut refl label-complete l (all_pass names)

pub function-complete : (room : ℕ) {X : Type 0} (function_of : SignatureTree → X) {ts rest : List Token} {signature : SignatureTree}
    → ReadsSignature ts signature (Punctuation Semi ∷ rest) → fits_signature room signature ≡ true
    → function_behind room function_of ts ≡ Found (function_of signature) rest
unfolding then_read behind_mark
function-complete room function_of r h = rw (signature-complete room r refl refl h) refl

signature_no_static : {ts rest : List Token} {signature : SignatureTree} → ReadsSignature ts signature rest → begins_key Keyword.Static ts ≡ false
signature_no_static (func p r) = refl
signature_no_static (async_func p r) = refl

module _ (docs : Documentation) (room : ℕ) where
  field-complete : (ts rest : List Token) (field : FieldTree) → ReadsField docs ts field rest → EndsAt CloseBrace rest → fits_field room field ≡ true → field_in_front docs room ts ≡ Found field rest
  unfolding then_read behind_mark
  field-complete _ _ _ (field i r) s h = rw (id_gives _ i, type-found room r (ends_no_mark Less refl refl s) h) refl

  field-shut : Shut (begins CloseBrace) (field_in_front docs room)
  unfolding then_read id_in_front
  field-shut = shut_at CloseBrace (field_in_front docs room) (λ rest. refl)

  case-complete : (ts rest : List Token) (c : CaseTree) → ReadsCase docs ts c rest → EndsAt CloseBrace rest → fits_case room c ≡ true → case_in_front docs room ts ≡ Found c rest
  unfolding then_read behind_mark if_mark
  case-complete _ rest _ (case_alone i) s h = rw (id_gives _ i, ends_no_mark OpenParen refl refl s) refl
  case-complete _ _ _ (case_of i r) s h = rw (id_gives _ i, type-found room r refl h) refl

  case-shut : Shut (begins CloseBrace) (case_in_front docs room)
  unfolding then_read id_in_front
  case-shut = shut_at CloseBrace (case_in_front docs room) (λ rest. refl)

  pub resource_member-complete : (ts rest : List Token) (member : ResourceMember) → ReadsResourceMember docs ts member rest → fits_resource_member room member ≡ true
      → resource_member_in_front docs room ts ≡ Found member rest
  unfolding then_read behind_mark if_key
  resource_member-complete _ _ _ (constructor_ {params} p a r) h =
      rw (prefix-complete p refl, params-complete room a (left_of _ _ h), result-complete room r refl refl (right_of (list_all (fits_param room) params) _ h)) refl
  resource_member-complete _ _ _ (method p i r) h =
      rw (prefix-complete p (id_no_mark At i), id_no_key Keyword.Constructor i, id_gives _ i, signature_no_static r, signature-complete room r refl refl h) refl
  resource_member-complete _ _ _ (static p i r) h =
      rw (prefix-complete p (id_no_mark At i), id_no_key Keyword.Constructor i, id_gives _ i, signature-complete room r refl refl h) refl

  resource_member-shut : Shut (begins CloseBrace) (resource_member_in_front docs room)
  unfolding then_read id_in_front if_key made marks_in_front marks_from
  resource_member-shut = shut_at CloseBrace (resource_member_in_front docs room) (λ rest. refl)

  -- A declared type is found where no type in it has more levels than there is room for.
  pub declared-complete : {ts rest : List Token} {declared : Declared} → ReadsDeclared docs ts declared rest → fits_declared room declared ≡ true
      → declared_in_front docs room ts ≡ Found declared rest
  unfolding then_read behind_mark if_key if_mark made
  declared-complete (record_ i l) h =
      rw (id_gives _ i, listed-complete CloseBrace (field_in_front docs room) (fits_field room) field-shortens field-shut refl field-complete l h) refl
  declared-complete (variant i l) h =
      rw (id_gives _ i, listed-complete CloseBrace (case_in_front docs room) (fits_case room) case-shortens case-shut refl case-complete l h) refl
  declared-complete (flags i l) h = rw (id_gives _ i, labels-complete docs l) refl
  declared-complete (enum i l) h = rw (id_gives _ i, labels-complete docs l) refl
  declared-complete (alias i r) h = rw (id_gives _ i, type-found (suc room) r refl h) refl
  declared-complete (resource i) h = rw (id_gives _ i) refl
  declared-complete (resource_with i l) h =
      rw (
        id_gives _ i,
        repeated-complete CloseBrace (resource_member_in_front docs room) (fits_resource_member room) resource_member-shortens resource_member-shut
            resource_member-complete l h,
      ) refl
