-- What is shown in front of an item of a valid package is well named.
use Rattle.std.proofs.Common.{rules as std_rules, ◌≡◌, refl, ℕ, suc, ◌<◌, Bool, true, List, [], ◌∷◌, length, get_or, Option, arith}
use Rattle.std.proofs.{lemmas.Str.scalars-chars, lemmas.Str.IsUtf8-string_bytes, lemmas.Bool.and_from as both}
use Rattle.std.specs.{Prelude.String, Prelude.is_some, List.list_all, Str.Lines.lines}
use Rattle.std.specs.declared.alloc.Global.{Global}
use lib.Utf8.{scalar, scalars}
use Rattle.wit_model.specs.declared.model.{Docs.Docs, Stability.Stability}
use Rattle.wit_model.specs.Text.{Text, text_of}
use Rattle.wit_model.specs.{Names.is_label, Names.is_version, Names.is_version_text, Rules.is_stability, Rules.passes, Lookup.optional_version_text}
use Rattle.semver.specs.declared.Version.{Version}
use Rattle.semver.specs.Identifiers.{parts_of, version_text}
use Rattle.wit_model.proofs.{VersionLaws.valid_parts, VersionTexts.parts_text_reads}
use Rattle.print_output.specs.OutputCall.{is_one_line}
use Rattle.print_items.specs.Shown.{present_name, shown_docs, shown_gates, shown_external_id, shown_prefix}
use Rattle.print_grammar.specs.WellNamed.{is_well_gates, is_well_prefix}
use Rattle.print_items.proofs.DocLines.{line_one_line}
use Rattle.base_lemmas.proofs.Bools.{left_of, right_of}

-- ---- versions

pub version_is_text : (v : Version) → is_version v ≡ true → is_version_text (version_text v) ≡ true
version_is_text v h = parts_text_reads (parts_of v) (valid_parts v h)

pub optional_version : (v : Option Version) → passes is_version v ≡ true → passes is_version_text (optional_version_text v) ≡ true
optional_version x h = search (std_rules, version_is_text)

-- a given name is a label
pub given_label : (name : Option (String Global)) → is_some name ≡ true → passes (λ s. is_label (text_of s)) name ≡ true → is_label (present_name name) ≡ true
given_label x given label = search std_rules

-- ---- what stands in front of an item

all_by_place : {X : Type 0} (p : X → Bool) (xs : List X) → ((i : ℕ) (x : X) → i < length xs → x ≡ get_or xs i x → p x ≡ true) → list_all p xs ≡ true
all_by_place p [] h = refl
all_by_place p (x ∷ xs) h = both _ _ (h 0 x (omega arith) refl) (all_by_place p xs (λ i y below e. h (suc i) y (omega arith) e))

lines_well : (text : Text) → list_all is_one_line (lines text) ≡ true
lines_well text = all_by_place is_one_line (lines text) (λ i line below e. line_one_line text i line below e)

-- Lines of documentation hold no line end.
pub docs_well : (docs : Docs) → list_all is_one_line (shown_docs docs) ≡ true
docs_well docs = search (std_rules, lines_well)

-- Gates that keep the rule on labels are well named.
pub gates_well : (s : Stability) → is_stability s ≡ true → is_well_gates (shown_gates s) ≡ true
gates_well x h = search (std_rules, both, version_is_text, left_of, optional_version, right_of)

all_scalar : (cs : List ℕ) → scalars cs ≡ true → list_all scalar cs ≡ true
all_scalar [] h = refl
all_scalar (c ∷ cs) h = both (scalar c) _ (left_of _ _ h) (all_scalar cs (right_of (scalar c) _ h))

-- The characters of an external id are characters.
pub external_id_well : (id : Option (String Global)) → passes (list_all scalar) (shown_external_id id) ≡ true
external_id_well x = search (std_rules, all_scalar, scalars-chars, IsUtf8-string_bytes)

-- What stands in front of an item whose stability keeps the rule on labels is well named.
pub shown_prefix_well : (docs : Docs) (s : Stability) (external_id : Option (String Global)) → is_stability s ≡ true → is_well_prefix (shown_prefix docs s external_id) ≡ true
shown_prefix_well docs s external_id h = search (std_rules, both, docs_well, gates_well, external_id_well)
