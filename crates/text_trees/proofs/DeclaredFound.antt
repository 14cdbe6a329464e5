-- What readers of paths, uses and declared types find is there by the grammar.
use Rattle.std.proofs.Common.{ℕ, List, ◌∷◌, suc, subst, None, Some}
use Rattle.wit_model.specs.Text.{Text}
use Rattle.print_grammar.specs.{Keyword.Keyword, Token.Token}
use Rattle.print_grammar.specs.Token.Mark.{OpenParen, Colon, Semi}
use Rattle.print_grammar.specs.Token.Token.{Key, Punctuation}
use Rattle.print_grammar.specs.Tree.{PathTree, UsedName, SignatureTree}
use Rattle.print_grammar.specs.Grammar.{IsId, ReadsVersion, ReadsPath, ReadsUsedName, ReadsUse, ReadsSignature}
use Rattle.text_trees.specs.Grammar.{Documentation, ReadsField, ReadsCase, ReadsLabel, ReadsResourceMember, ReadsDeclared}
use Rattle.print_grammar.specs.Grammar.{ReadsVersion.no_version, ReadsVersion.with_version}
use Rattle.print_grammar.specs.Grammar.{ReadsPath.local, ReadsPath.full, ReadsUsedName.same_name, ReadsUsedName.other_name, ReadsUse.use_names}
use Rattle.text_trees.specs.Grammar.{ReadsField.field, ReadsCase.case_alone, ReadsCase.case_of, ReadsLabel.label}
use Rattle.text_trees.specs.Grammar.ReadsResourceMember.{constructor_, method, static}
use Rattle.text_trees.specs.Grammar.ReadsDeclared.{record_, variant, flags, enum, alias, resource, resource_with}
use Rattle.text_trees.specs.ReadDeclared.{at_version_in_front, full_path_behind, path_behind, path_in_front, used_name_in_front, use_behind, field_in_front, case_in_front, label_in_front, function_behind, resource_member_in_front, declared_in_front}
use Rattle.text_trees.proofs.Finding.{Sound, found_sound, refused_sound, then_sound, made_sound, sound_as, by_docs_sound, mark_sound, if_mark_sound, if_key_sound, id_sound, version_sound, repeated_sound, listed_sound}
use Rattle.text_trees.proofs.MarksFound.{prefix-sound}
use Rattle.text_trees.proofs.TypesFound.{type-sound, params-sound, result-is_sound, signature-sound}

-- ---- paths and uses

pub at_version-sound : Sound ReadsVersion at_version_in_front
at_version-sound = if_mark_sound _ (version_sound (λ version. found_sound (λ rest. with_version))) (found_sound (λ rest. no_version))

pub full_path-sound : {t u : Token} {namespace name : Text} → IsId t namespace → IsId u name
    → Sound (λ ts. ReadsPath (t ∷ Punctuation Colon ∷ u ∷ ts)) (full_path_behind namespace name)
full_path-sound i j = mark_sound _ (id_sound (λ v interface k. then_sound at_version-sound (λ version. found_sound (λ rest ts r. full i j k r))))

pub path_behind-sound : {t : Token} {first : Text} → IsId t first → Sound (λ ts. ReadsPath (t ∷ ts)) (path_behind first)
path_behind-sound i = if_mark_sound _ (id_sound (λ u name j. full_path-sound i j)) (found_sound (λ rest. local i))

pub path-sound : Sound ReadsPath path_in_front
path-sound = id_sound (λ t first i. path_behind-sound i)

pub used_name-sound : Sound ReadsUsedName used_name_in_front
used_name-sound = id_sound (λ t other i. if_key_sound _ (id_sound (λ u own j. found_sound (λ rest. other_name i j))) (found_sound (λ rest. same_name i)))

pub use-sound : {X : Type 0} {Q : List Token → X → List Token → Type 0} (use_of : PathTree → List UsedName → X)
    → ((ts rest : List Token) (path : PathTree) (names : List UsedName) → ReadsUse (Key Keyword.Use ∷ ts) path names rest → Q ts (use_of path names) rest) → Sound Q (use_behind use_of)
use-sound use_of q =
    then_sound path-sound (λ path. mark_sound _ (mark_sound _ (then_sound (listed_sound used_name-sound) (λ names.
    mark_sound _ (found_sound (λ rest us l ts p. q ts rest path names (use_names p l)))))))

-- ---- declared types

pub function-sound : (room : ℕ) {X : Type 0} {Q : List Token → X → List Token → Type 0} (function_of : SignatureTree → X)
    → ((ts rest : List Token) (signature : SignatureTree) → ReadsSignature ts signature (Punctuation Semi ∷ rest) → Q ts (function_of signature) rest)
    → Sound Q (function_behind room function_of)
function-sound room function_of q = then_sound (signature-sound room) (λ signature. mark_sound _ (found_sound (λ rest ts r. q ts rest signature r)))

module _ (docs : Documentation) where
  pub label-sound : Sound (ReadsLabel docs) (label_in_front docs)
  label-sound =
      by_docs_sound docs (λ lines. label_in_front (λ us. lines)) (λ lines. id_sound (λ t name i. found_sound (λ rest same.
      subst (λ here. ReadsLabel docs (t ∷ rest) (record { docs = here; name = name }) rest) same (label i))))

  module _ (room : ℕ) where
    pub field-sound : Sound (ReadsField docs) (field_in_front docs room)
    field-sound =
        by_docs_sound docs (λ lines. field_in_front (λ us. lines) room) (λ lines. id_sound (λ t name i. mark_sound _ (then_sound (type-sound room) (λ ty.
        found_sound (λ rest ts r same.
        subst (λ here. ReadsField docs (t ∷ Punctuation Colon ∷ ts) (record { docs = here; name = name; ty = ty }) rest) same (field i r))))))

    pub case-sound : Sound (ReadsCase docs) (case_in_front docs room)
    case-sound =
        by_docs_sound docs (λ lines. case_in_front (λ us. lines) room) (λ lines. id_sound (λ t name i. if_mark_sound _
        (then_sound (type-sound room) (λ ty. mark_sound _ (found_sound (λ rest ts r same.
        subst (λ here. ReadsCase docs (t ∷ Punctuation OpenParen ∷ ts) (record { docs = here; name = name; payload = Some ty }) rest) same (case_of i r)))))
        (found_sound (λ rest same. subst (λ here. ReadsCase docs (t ∷ rest) (record { docs = here; name = name; payload = None }) rest) same (case_alone i)))))

    pub resource_member-sound : Sound (ReadsResourceMember docs) (resource_member_in_front docs room)
    resource_member-sound =
        then_sound prefix-sound (λ pre.
        if_key_sound _ (then_sound (params-sound room) (λ params. then_sound (result-is_sound room) (λ result. mark_sound _ (found_sound (λ rest vs s us r ts p. constructor_ p r s)))))
        (id_sound (λ t name i. mark_sound _ (if_key_sound _ (function-sound room _ (λ us rest signature r ts p. static p i r))
        (function-sound room _ (λ us rest signature r ts p. method p i r))))))

    -- A declared type that is found is there.
    pub declared-sound : Sound (ReadsDeclared docs) (declared_in_front docs room)
    declared-sound =
        if_key_sound _ (id_sound (λ t name i. mark_sound _ (made_sound _ (sound_as (listed_sound field-sound) (λ ts rest xs l. record_ i l)))))
        (if_key_sound _ (id_sound (λ t name i. mark_sound _ (made_sound _ (sound_as (listed_sound case-sound) (λ ts rest xs l. variant i l)))))
        (if_key_sound _ (id_sound (λ t name i. mark_sound _ (made_sound _ (sound_as (listed_sound label-sound) (λ ts rest xs l. flags i l)))))
        (if_key_sound _ (id_sound (λ t name i. mark_sound _ (made_sound _ (sound_as (listed_sound label-sound) (λ ts rest xs l. enum i l)))))
        (if_key_sound _ (id_sound (λ t name i. mark_sound _ (then_sound (type-sound (suc room)) (λ ty. mark_sound _ (found_sound (λ rest ts r. alias i r))))))
        (if_key_sound _ (id_sound (λ t name i. if_mark_sound _ (found_sound (λ rest. resource i))
        (mark_sound _ (made_sound _ (sound_as (repeated_sound resource_member-sound) (λ ts rest xs l. resource_with i l)))))) refused_sound)))))
