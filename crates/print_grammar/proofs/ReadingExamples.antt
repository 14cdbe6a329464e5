-- Worked examples: the tokens and the tree of short texts.
use Rattle.std.proofs.Common.{◌≡◌, length, [], ◌∷◌, ◌++◌, List, ℕ, refl, codes, None, Some, false, true}
use Rattle.print_grammar.specs.Keyword.Keyword.{Package, World, Import, Export, Func, Map}
use Rattle.print_grammar.specs.{Keyword.PrimitiveName.U32, Keyword.PrimitiveName.Bool_, Tree.ExternTree.NamedFunction, Grammar.Repeated.closed, Grammar.Repeated.again}
use Rattle.print_grammar.specs.{Calls.file_calls, Token.Token, Token.Tokens, Token.front_of_text, Tree.FileTree, Grammar.ReadsVersion.no_version}
use Rattle.print_grammar.specs.{Tree.TypeTree.PrimitiveType, Grammar.ReadsItem.world_item, Grammar.ReadsGates.no_gates, Grammar.ReadsSignature.func}
use Rattle.print_grammar.specs.Token.Token.{Word, Escaped, Key, VersionText, Digits, Quoted, Punctuation}
use Rattle.print_grammar.specs.Token.Mark.{Arrow, Colon, Semi, OpenBrace, CloseBrace, OpenParen, CloseParen}
use Rattle.print_grammar.specs.{Token.Front.Found, Token.Front.Unknown, Grammar.ReadsFile, Grammar.ReadsSignature, Grammar.ReadsExternalId.no_external_id}
use Rattle.print_grammar.specs.{Token.Tokens.no_tokens, Token.Tokens.skip, Token.Tokens.token, Tree.WorldMember.WorldImport, Tree.WorldMember.WorldExport}
use Rattle.print_grammar.specs.{Tree.Gates.Ungated, Tree.ItemTree.WorldItem, Grammar.ReadsPrefix.prefix, Grammar.IsId.plain, Reading.IsReading}
use Rattle.print_grammar.specs.{Grammar.ReadsFile.file, Grammar.ReadsItems.no_items, Grammar.ReadsItems.next_item, Grammar.ReadsWorldMember.world_import, Grammar.ReadsWorldMember.world_export}
use Rattle.print_grammar.specs.{Grammar.ReadsHead.head, Grammar.ReadsAllNested.nested_end, Grammar.ReadsExtern.extern_function, Grammar.ReadsParams.no_params, Grammar.ReadsResult.no_result}
use Rattle.std.specs.List.{flat_map}
use Rattle.print_grammar.proofs.Scanned.{bare, no_parameters, scanned}
use Rattle.print_output.specs.{OutputCall.body_calls, Render.render}

-- a world that imports a function and exports one
abbrev two_functions_text : List ℕ
two_functions_text = codes "package a:b;" ++ (10 ∷ 10 ∷ codes "world foo {") ++ (10 ∷ codes "  import host: func();") ++ (10 ∷ 10 ∷ codes "  export guest: func();") ++ (10 ∷ codes "}") ++ (10 ∷ [])

abbrev two_functions_tokens : List Token
two_functions_tokens = Key Package ∷ Word (codes "a") ∷ Punctuation Colon ∷ Word (codes "b") ∷ Punctuation Semi ∷ Key World ∷ Word (codes "foo") ∷ Punctuation OpenBrace ∷ Key Import
    ∷ Word (codes "host") ∷ Punctuation Colon ∷ Key Func ∷ Punctuation OpenParen ∷ Punctuation CloseParen ∷ Punctuation Semi ∷ Key Export ∷ Word (codes "guest") ∷ Punctuation Colon ∷ Key Func
    ∷ Punctuation OpenParen ∷ Punctuation CloseParen ∷ Punctuation Semi ∷ Punctuation CloseBrace ∷ []

abbrev two_functions : FileTree
two_functions = record {
  main = record {
    head = record { docs = []; namespace = codes "a"; name = codes "b"; version = None };
    items = WorldItem [] Ungated (codes "foo") (WorldImport bare (NamedFunction (codes "host") no_parameters) ∷ WorldExport bare (NamedFunction (codes "guest") no_parameters) ∷ []) ∷ [];
  };
  nested = [];
}

pub two-functions-tokens : Tokens two_functions_text two_functions_tokens
two-functions-tokens = scanned 200 _ _ refl

pub no-parameters : (after : List Token) → ReadsSignature (Key Func ∷ Punctuation OpenParen ∷ Punctuation CloseParen ∷ Punctuation Semi ∷ after) no_parameters (Punctuation Semi ∷ after)
no-parameters after = func no_params no_result

pub two-functions-tree : ReadsFile two_functions_tokens two_functions
two-functions-tree = file (head plain plain no_version) (next_item (world_item no_gates
    plain (again (world_import (prefix no_gates no_external_id) (extern_function plain (no-parameters _)))
    (again (world_export (prefix no_gates no_external_id) (extern_function plain (no-parameters _))) closed))) no_items) nested_end

pub two-functions-reading : IsReading two_functions_text two_functions
two-functions-reading = record { tokens = two_functions_tokens; spelled = two-functions-tokens; parsed = two-functions-tree }

-- a comment is no token, and runs to the end of its line
pub comment-skipped : Tokens (codes "world // func {" ++ (10 ∷ codes "foo//")) (Key World ∷ Word (codes "foo") ∷ [])
comment-skipped = token refl (skip refl (skip refl (skip refl (token refl (skip refl (no_tokens refl))))))

-- two words without a blank between are one
pub words-run-together : Tokens (codes "importhost: func();") (Word (codes "importhost") ∷ Punctuation Colon ∷ Key Func ∷ Punctuation OpenParen ∷ Punctuation CloseParen ∷ Punctuation Semi ∷ [])
words-run-together = token refl (token refl (skip refl (token refl (token refl (token refl (token refl (no_tokens refl)))))))

-- the longest version, the longest label and the longest mark
pub longest-version : front_of_text (codes "1.0.0-01") ≡ Found (VersionText (codes "1.0.0-0")) (codes "1")
unfolding Rattle.wit_model.specs.Names.cut
longest-version = refl

pub version-before-a-dot : front_of_text (codes "1.0.0-rc.1+b.{") ≡ Found (VersionText (codes "1.0.0-rc.1+b")) (codes ".{")
unfolding Rattle.wit_model.specs.Names.cut
version-before-a-dot = refl

pub no-version : front_of_text (codes "01.0.0") ≡ Found (Digits 1) (codes ".0.0")
unfolding Rattle.wit_model.specs.Names.cut
no-version = refl

pub longest-label : front_of_text (codes "a-1Bc") ≡ Found (Word (codes "a-1B")) (codes "c")
longest-label = refl

pub arrow-first : front_of_text (codes "->x") ≡ Found (Punctuation Arrow) (codes "x")
arrow-first = refl

pub keyword-after-percent : front_of_text (codes "%func;") ≡ Found (Escaped (codes "func")) (codes ";")
keyword-after-percent = refl

pub string-token : front_of_text (codes "\"a\\\"\\u{e9}\")") ≡ Found (Quoted (97 ∷ 34 ∷ 233 ∷ [])) (codes ")")
string-token = refl

-- a code of no character, and one without digits
pub surrogate-refused : front_of_text (codes "\"\\u{d800}\"") ≡ Unknown
surrogate-refused = refl

pub no-digits-refused : front_of_text (codes "\"\\u{}\"") ≡ Unknown
no-digits-refused = refl

-- the printed text of the tree is the text above
pub two-functions-text : render (file_calls true two_functions) ≡ two_functions_text
two-functions-text = refl

-- a function and a parameter whose names are keywords, and a function that is asynchronous
abbrev with_keywords : FileTree
with_keywords = record {
  main = record {
    head = record { docs = []; namespace = codes "a"; name = codes "b"; version = Some (codes "1.0.0-rc.1") };
    items = WorldItem [] Ungated (codes "foo")
        (WorldImport bare (NamedFunction (codes "map") (record { is_async = false; params = record { name = codes "type"; ty = PrimitiveType U32 } ∷ []; result = Some (PrimitiveType Bool_) }))
        ∷ WorldImport bare (NamedFunction (codes "z") (record { is_async = true; params = []; result = None })) ∷ []) ∷ [];
  };
  nested = [];
}

pub with-keywords-text : render (file_calls false with_keywords) ≡ codes "package a:b@1.0.0-rc.1;" ++ (10 ∷ 10 ∷ codes "world foo {") ++ (10 ∷ codes "  import %map: func(%type: u32) -> bool;")
    ++ (10 ∷ codes "  import z: async func();") ++ (10 ∷ codes "}") ++ (10 ∷ [])
with-keywords-text = refl

-- without `%` in front of the keyword the text is no file
pub bare-keyword : (t : FileTree) → ReadsFile (Key Package ∷ Word (codes "a") ∷ Punctuation Colon ∷ Key Map ∷ Punctuation Semi ∷ []) t → ⊥
bare-keyword t (file (head i j v) l n) = elim j [ ]

-- no file is the text in which two words run together
pub run-together-no-file : (t : FileTree) → ReadsFile (Word (codes "importhost") ∷ Punctuation Colon ∷ Key Func ∷ Punctuation OpenParen ∷ Punctuation CloseParen ∷ Punctuation Semi ∷ []) t → ⊥
run-together-no-file t r = elim r [ ]

-- its calls, and the calls of the five that their bodies make
pub two-functions-calls : length (file_calls true two_functions) ≡ 29
two-functions-calls = refl

pub two-functions-five : length (flat_map body_calls (file_calls true two_functions)) ≡ 57
two-functions-five = refl
