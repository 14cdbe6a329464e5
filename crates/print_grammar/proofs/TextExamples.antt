-- Worked examples: the tokens and the trees of texts of every kind: types, strings with escapes, nested packages.
use Rattle.std.proofs.Common.{◌≡◌, [], ◌∷◌, ◌++◌, List, ℕ, refl, codes, None, Some, true}
use Rattle.std.specs.Fmt.{digits}
use Rattle.wit_model.specs.Names.{cut}
use Rattle.print_grammar.specs.Keyword.Keyword.{PrimitiveWord, Package, Interface, World, Func, Record, Tuple, Option_, List_, Map, Underscore}
use Rattle.print_grammar.specs.{Keyword.Keyword, Grammar.ReadsFile.file, Reading.IsReading}
use Rattle.print_grammar.specs.Keyword.PrimitiveName.{Bool_, U8, U16, U32, U64, S8, S16, S32, S64, F32, F64, Char, String, ErrorContext}
use Rattle.print_grammar.specs.{Calls.type_calls, Calls.file_calls, Tree.TypeTrees.NoTypes, Tree.TypeTrees.AndTypes, Tree.Gates.Ungated, Tree.Gates.Unstable}
use Rattle.print_grammar.specs.{Token.Token, Token.Tokens, Tree.Declared.RecordOf, Grammar.ReadsPrefix.prefix, Grammar.ReadsField.field, Grammar.ReadsHead.head}
use Rattle.print_grammar.specs.Token.Token.{Word, Escaped, Key, VersionText, Digits, Quoted, Punctuation}
use Rattle.print_grammar.specs.Token.Mark.{OpenBrace, CloseBrace, OpenParen, CloseParen, Less, Greater, Colon, Semi, Comma, Dot, Equals, At}
use Rattle.print_grammar.specs.{Token.Tokens.no_tokens, Token.Tokens.skip, Token.Tokens.token, Tree.TypeTree, Tree.SignatureTree, Tree.FileTree}
use Rattle.print_grammar.specs.Tree.TypeTree.{PrimitiveType, Name, Own, Borrow, TupleOf, OptionOf, ListOf, FixedListOf, MapOf, Result, ResultOk, ResultErr, ResultOf, Future, FutureOf, Stream, StreamOf}
use Rattle.print_grammar.specs.{Tree.MemberTree.TypeMember, Tree.MemberTree.FunctionMember, Grammar.ReadsFile, Grammar.ReadsType, Grammar.ReadsSignature}
use Rattle.print_grammar.specs.{Tree.ItemTree.InterfaceItem, Grammar.ReadsResult.no_result, Grammar.ReadsSignature.func, Grammar.ReadsDeclared.record_}
use Rattle.print_grammar.specs.Grammar.{IsId.plain, IsId.with_percent, CommaList.last_with_comma, CommaList.next, ReadsGates.no_gates, ReadsGates.unstable}
use Rattle.print_grammar.specs.Grammar.{Repeated.closed, Repeated.again, ReadsTypes.last_type, ReadsTypes.next_type, ReadsItems.no_items, ReadsItems.next_item}
use Rattle.print_grammar.specs.Grammar.ReadsType.{primitive, named, named_with_percent, own, borrow, tuple, option, map, list, fixed_list, future, future_of, stream, stream_of, result, result_ok, result_of, result_err}
use Rattle.print_grammar.specs.Grammar.{ReadsParams.no_params, ReadsDeprecated.not_deprecated, ReadsItem.interface_item, ReadsNested.nested_package}
use Rattle.print_grammar.specs.Grammar.{ReadsVersion.no_version, ReadsVersion.with_version, ReadsMember.member_type, ReadsMember.member_function}
use Rattle.print_grammar.specs.Grammar.{ReadsExternalId.no_external_id, ReadsExternalId.external_id, ReadsAllNested.nested_end, ReadsAllNested.next_nested}
use Rattle.print_output.specs.Render.{render}
use Rattle.print_grammar.proofs.Scanned.{bare, no_parameters, scanned}

-- ---- types

abbrev primitives_text : List ℕ
primitives_text = codes "tuple<bool, u8, u16, u32, u64, s8, s16, s32, s64, f32, f64, char, string, error-context>"

abbrev primitives_tokens : List Token
primitives_tokens = Key Tuple ∷ Punctuation Less ∷ Key (PrimitiveWord Bool_) ∷ Punctuation Comma ∷ Key (PrimitiveWord U8) ∷ Punctuation Comma ∷ Key (PrimitiveWord U16) ∷ Punctuation Comma
    ∷ Key (PrimitiveWord U32) ∷ Punctuation Comma ∷ Key (PrimitiveWord U64) ∷ Punctuation Comma ∷ Key (PrimitiveWord S8) ∷ Punctuation Comma ∷ Key (PrimitiveWord S16) ∷ Punctuation Comma
    ∷ Key (PrimitiveWord S32) ∷ Punctuation Comma ∷ Key (PrimitiveWord S64) ∷ Punctuation Comma ∷ Key (PrimitiveWord F32) ∷ Punctuation Comma ∷ Key (PrimitiveWord F64) ∷ Punctuation Comma
    ∷ Key (PrimitiveWord Char) ∷ Punctuation Comma ∷ Key (PrimitiveWord String) ∷ Punctuation Comma ∷ Key (PrimitiveWord ErrorContext) ∷ Punctuation Greater ∷ []

pub primitives-tokens : Tokens primitives_text primitives_tokens
primitives-tokens = scanned 200 _ _ refl

abbrev primitives : TypeTree
primitives = TupleOf (AndTypes (PrimitiveType Bool_) (AndTypes (PrimitiveType U8)
    (AndTypes (PrimitiveType U16) (AndTypes (PrimitiveType U32) (AndTypes (PrimitiveType U64)
    (AndTypes (PrimitiveType S8) (AndTypes (PrimitiveType S16) (AndTypes (PrimitiveType S32)
    (AndTypes (PrimitiveType S64) (AndTypes (PrimitiveType F32) (AndTypes (PrimitiveType F64)
    (AndTypes (PrimitiveType Char) (AndTypes (PrimitiveType String) (AndTypes (PrimitiveType ErrorContext) NoTypes))))))))))))))

pub primitives-tree : ReadsType primitives_tokens primitives []
primitives-tree = tuple (next_type primitive (next_type primitive (next_type primitive
    (next_type primitive (next_type primitive (next_type primitive (next_type primitive
    (next_type primitive (next_type primitive (next_type primitive (next_type primitive (next_type primitive (next_type primitive (last_type primitive))))))))))))))

pub primitives-text : render (type_calls primitives) ≡ primitives_text
primitives-text = refl

abbrev forms_text : List ℕ
forms_text = codes "tuple<option<t>, list<u8>, list<u8, 4>, map<string, u32>, result, result<u8>, result<_, u8>, result<u8, string>, future, future<u8>, stream, stream<u8>, own<r>, borrow<r>>"

abbrev forms_tokens : List Token
forms_tokens = Key Tuple ∷ Punctuation Less ∷ Key Option_ ∷ Punctuation Less ∷ Word (codes "t") ∷ Punctuation Greater ∷ Punctuation Comma ∷ Key List_ ∷ Punctuation Less ∷ Key (PrimitiveWord U8)
    ∷ Punctuation Greater ∷ Punctuation Comma ∷ Key List_ ∷ Punctuation Less ∷ Key (PrimitiveWord U8) ∷ Punctuation Comma ∷ Digits 4 ∷ Punctuation Greater ∷ Punctuation Comma ∷ Key Map
    ∷ Punctuation Less ∷ Key (PrimitiveWord String) ∷ Punctuation Comma ∷ Key (PrimitiveWord U32) ∷ Punctuation Greater ∷ Punctuation Comma ∷ Key Keyword.Result ∷ Punctuation Comma
    ∷ Key Keyword.Result ∷ Punctuation Less ∷ Key (PrimitiveWord U8) ∷ Punctuation Greater ∷ Punctuation Comma ∷ Key Keyword.Result ∷ Punctuation Less ∷ Key Underscore ∷ Punctuation Comma
    ∷ Key (PrimitiveWord U8) ∷ Punctuation Greater ∷ Punctuation Comma ∷ Key Keyword.Result ∷ Punctuation Less ∷ Key (PrimitiveWord U8) ∷ Punctuation Comma ∷ Key (PrimitiveWord String)
    ∷ Punctuation Greater ∷ Punctuation Comma ∷ Key Keyword.Future ∷ Punctuation Comma ∷ Key Keyword.Future ∷ Punctuation Less ∷ Key (PrimitiveWord U8) ∷ Punctuation Greater ∷ Punctuation Comma
    ∷ Key Keyword.Stream ∷ Punctuation Comma ∷ Key Keyword.Stream ∷ Punctuation Less ∷ Key (PrimitiveWord U8) ∷ Punctuation Greater ∷ Punctuation Comma ∷ Key Keyword.Own ∷ Punctuation Less
    ∷ Word (codes "r") ∷ Punctuation Greater ∷ Punctuation Comma ∷ Key Keyword.Borrow ∷ Punctuation Less ∷ Word (codes "r") ∷ Punctuation Greater ∷ Punctuation Greater ∷ []

pub forms-tokens : Tokens forms_text forms_tokens
unfolding cut
forms-tokens = scanned 200 _ _ refl

abbrev forms : TypeTree
forms = TupleOf (AndTypes (OptionOf (Name (codes "t"))) (AndTypes (ListOf (PrimitiveType U8))
    (AndTypes (FixedListOf (PrimitiveType U8) 4) (AndTypes (MapOf (PrimitiveType String) (PrimitiveType U32))
    (AndTypes Result (AndTypes (ResultOk (PrimitiveType U8)) (AndTypes (ResultErr (PrimitiveType U8))
    (AndTypes (ResultOf (PrimitiveType U8) (PrimitiveType String)) (AndTypes Future
    (AndTypes (FutureOf (PrimitiveType U8)) (AndTypes Stream (AndTypes (StreamOf (PrimitiveType U8)) (AndTypes (Own (codes "r")) (AndTypes (Borrow (codes "r")) NoTypes))))))))))))))

pub forms-tree : ReadsType forms_tokens forms []
forms-tree = tuple (next_type (option named) (next_type (list primitive)
    (next_type (fixed_list primitive) (next_type (map primitive primitive)
    (next_type result (next_type (result_ok primitive) (next_type (result_err primitive)
    (next_type (result_of primitive primitive) (next_type future (next_type (future_of primitive)
    (next_type stream (next_type (stream_of primitive) (next_type (own plain) (last_type (borrow plain)))))))))))))))

pub forms-text : render (type_calls forms) ≡ forms_text
unfolding digits
forms-text = refl

-- a name that is a keyword, and without `%` a primitive type in its place
pub name-with-percent : render (type_calls (Name (codes "u32"))) ≡ codes "%u32"
name-with-percent = refl

pub name-token : Tokens (codes "%u32") (Escaped (codes "u32") ∷ [])
name-token = token refl (no_tokens refl)

pub name-tree : ReadsType (Escaped (codes "u32") ∷ []) (Name (codes "u32")) []
name-tree = named_with_percent

pub bare-token : Tokens (codes "u32") (Key (PrimitiveWord U32) ∷ [])
bare-token = token refl (no_tokens refl)

pub bare-tree : ReadsType (Key (PrimitiveWord U32) ∷ []) (PrimitiveType U32) []
bare-tree = primitive

pub bare-is-no-name : (text : List ℕ) → ReadsType (Key (PrimitiveWord U32) ∷ []) (Name text) [] → ⊥
bare-is-no-name text r = elim r [ ]

-- ---- a string with escapes

abbrev escapes_text : List ℕ
escapes_text = codes "package a:b;" ++ (10 ∷ 10 ∷ (codes "interface i {"
    ++ (10 ∷ (codes "  @unstable(feature = %async)" ++ (10 ∷ (codes "  @external-id(\"a\\\"\\u{e9}\")"
    ++ (10 ∷ (codes "  record p {" ++ (10 ∷ (codes "    %type: u32," ++ (10 ∷ (codes "    %map: string," ++ (10 ∷ (codes "  }" ++ (10 ∷ (codes "}" ++ (10 ∷ 10 ∷ [])))))))))))))))))

abbrev escapes_tokens : List Token
escapes_tokens = Key Package ∷ Word (codes "a") ∷ Punctuation Colon ∷ Word (codes "b") ∷ Punctuation Semi ∷ Key Interface ∷ Word (codes "i") ∷ Punctuation OpenBrace ∷ Punctuation At
    ∷ Word (codes "unstable") ∷ Punctuation OpenParen ∷ Word (codes "feature") ∷ Punctuation Equals ∷ Escaped (codes "async") ∷ Punctuation CloseParen ∷ Punctuation At ∷ Word (codes "external-id")
    ∷ Punctuation OpenParen ∷ Quoted (97 ∷ 34 ∷ 233 ∷ []) ∷ Punctuation CloseParen ∷ Key Record ∷ Word (codes "p") ∷ Punctuation OpenBrace ∷ Escaped (codes "type") ∷ Punctuation Colon
    ∷ Key (PrimitiveWord U32) ∷ Punctuation Comma ∷ Escaped (codes "map") ∷ Punctuation Colon ∷ Key (PrimitiveWord String) ∷ Punctuation Comma ∷ Punctuation CloseBrace ∷ Punctuation CloseBrace ∷ []

pub escapes-tokens : Tokens escapes_text escapes_tokens
escapes-tokens = scanned 200 _ _ refl

abbrev escapes : FileTree
escapes = record {
  main = record {
    head = record { docs = []; namespace = codes "a"; name = codes "b"; version = None };
    items = InterfaceItem [] Ungated (codes "i") (TypeMember (record { docs = []; gates = Unstable (codes "async") None; external_id = Some (97 ∷ 34 ∷ 233 ∷ []) })
        (RecordOf (codes "p") (record { docs = []; name = codes "type"; ty = PrimitiveType U32 } ∷ record { docs = []; name = codes "map"; ty = PrimitiveType String } ∷ [])) ∷ []) ∷ [];
  };
  nested = [];
}

pub escapes-reading : IsReading escapes_text escapes
escapes-reading = record {
  tokens = escapes_tokens;
  spelled = escapes-tokens;
  parsed = file (head plain plain no_version) (next_item (interface_item no_gates
      plain (again (member_type (prefix (unstable refl refl with_percent not_deprecated) (external_id refl))
      (record_ plain (next (field with_percent primitive) (last_with_comma (field with_percent primitive))))) closed)) no_items) nested_end;
}

pub escapes-text : render (file_calls true escapes) ≡ escapes_text
unfolding digits
escapes-text = refl

-- ---- a nested package

abbrev inner_text : List ℕ
inner_text = codes "package a:b;" ++ (10 ∷ 10 ∷ (codes "package c:d@1.0.0 {"
    ++ (10 ∷ (codes "  interface i {" ++ (10 ∷ (codes "    f: func();" ++ (10 ∷ (codes "  }" ++ (10 ∷ (codes "}" ++ (10 ∷ [])))))))))))

abbrev inner_tokens : List Token
inner_tokens = Key Package ∷ Word (codes "a") ∷ Punctuation Colon ∷ Word (codes "b") ∷ Punctuation Semi ∷ Key Package ∷ Word (codes "c") ∷ Punctuation Colon ∷ Word (codes "d") ∷ Punctuation At
    ∷ VersionText (codes "1.0.0") ∷ Punctuation OpenBrace ∷ Key Interface ∷ Word (codes "i") ∷ Punctuation OpenBrace ∷ Word (codes "f") ∷ Punctuation Colon ∷ Key Func ∷ Punctuation OpenParen
    ∷ Punctuation CloseParen ∷ Punctuation Semi ∷ Punctuation CloseBrace ∷ Punctuation CloseBrace ∷ []

pub inner-tokens : Tokens inner_text inner_tokens
unfolding cut
inner-tokens = scanned 200 _ _ refl

abbrev inner : FileTree
inner = record {
  main = record { head = record { docs = []; namespace = codes "a"; name = codes "b"; version = None }; items = [] };
  nested = record {
    head = record { docs = []; namespace = codes "c"; name = codes "d"; version = Some (codes "1.0.0") };
    items = InterfaceItem [] Ungated (codes "i") (FunctionMember bare (codes "f") no_parameters ∷ []) ∷ [];
  } ∷ [];
}

pub inner-reading : IsReading inner_text inner
inner-reading = record {
  tokens = inner_tokens;
  spelled = inner-tokens;
  parsed = file (head plain plain no_version) no_items (next_nested (nested_package (head plain plain with_version)
      (again (interface_item no_gates plain (again (member_function (prefix no_gates no_external_id) plain (func no_params no_result)) closed)) closed)) nested_end);
}

pub inner-text : render (file_calls true inner) ≡ inner_text
inner-text = refl

-- ---- blanks

-- without the blank between them two keywords are one word, which begins no function
pub async-func-joined : Tokens (codes "asyncfunc()") (Word (codes "asyncfunc") ∷ Punctuation OpenParen ∷ Punctuation CloseParen ∷ [])
async-func-joined = token refl (token refl (token refl (no_tokens refl)))

pub joined-no-function : (s : SignatureTree) (after : List Token) → ReadsSignature (Word (codes "asyncfunc") ∷ Punctuation OpenParen ∷ Punctuation CloseParen ∷ []) s after → ⊥
joined-no-function s after r = elim r [ ]

pub use-joined : Tokens (codes "usej.{t};") (Word (codes "usej") ∷ Punctuation Dot ∷ Punctuation OpenBrace ∷ Word (codes "t") ∷ Punctuation CloseBrace ∷ Punctuation Semi ∷ [])
use-joined = token refl (token refl (token refl (token refl (token refl (token refl (no_tokens refl))))))

-- ---- documentation

-- a line of documentation is no token
pub lines-skipped : Tokens (codes "/// one" ++ (10 ∷ (codes "/// two" ++ (10 ∷ codes "world")))) (Key World ∷ [])
lines-skipped = skip refl (skip refl (skip refl (skip refl (token refl (no_tokens refl)))))

-- without its slashes the second line is a word, and the text no file
pub second-line-bare : Tokens (codes "/// one" ++ (10 ∷ (codes "two" ++ (10 ∷ codes "world")))) (Word (codes "two") ∷ Key World ∷ [])
second-line-bare = skip refl (skip refl (token refl (skip refl (token refl (no_tokens refl)))))

pub bare-no-file : (tokens : List Token) (t : FileTree) → ReadsFile (Word (codes "two") ∷ tokens) t → ⊥
bare-no-file tokens t r = elim r [ ]
