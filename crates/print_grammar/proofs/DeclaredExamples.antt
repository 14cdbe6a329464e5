-- Worked examples: the tokens and the tree of a text with every kind of declared type but a record.
use Rattle.std.proofs.Common.{◌≡◌, [], ◌∷◌, ◌++◌, List, ℕ, refl, codes, None, Some, true}
use Rattle.print_grammar.specs.Keyword.Keyword.{PrimitiveWord, Package, Interface, Func, Variant, Flags, Enum, Resource, Async, Type_}
use Rattle.print_grammar.specs.{Keyword.Keyword, Calls.file_calls, Tree.Gates.Ungated, Grammar.IsId.plain, Reading.IsReading}
use Rattle.print_grammar.specs.{Keyword.PrimitiveName.U8, Token.Token, Token.Tokens, Grammar.ReadsLabel.label, Grammar.ReadsHead.head, Grammar.ReadsFile.file}
use Rattle.print_grammar.specs.{Token.Token.Word, Token.Token.Key, Token.Token.Punctuation, Tree.TypeTree.PrimitiveType, Tree.TypeTree.Name, Tree.TypeTree.Own}
use Rattle.print_grammar.specs.Token.Mark.{OpenBrace, CloseBrace, OpenParen, CloseParen, Less, Greater, Colon, Semi, Comma, Equals, Arrow}
use Rattle.print_grammar.specs.{Grammar.ReadsParams.no_params, Grammar.ReadsParams.params}
use Rattle.print_grammar.specs.{Tree.ResourceMember, Tree.FileTree, Grammar.ReadsExternalId.no_external_id, Grammar.ReadsItem.interface_item}
use Rattle.print_grammar.specs.Tree.{Declared.VariantOf, Declared.FlagsOf, Declared.EnumOf, Declared.AliasOf, Declared.ResourceOf, ItemTree.InterfaceItem}
use Rattle.print_grammar.specs.{Tree.MemberTree.TypeMember, Grammar.ReadsGates.no_gates, Grammar.ReadsPrefix.prefix, Grammar.ReadsMember.member_type}
use Rattle.print_grammar.specs.Grammar.{Repeated.closed, Repeated.again, ReadsCase.case_alone, ReadsCase.case_of, ReadsItems.no_items, ReadsItems.next_item}
use Rattle.print_grammar.specs.Grammar.{CommaList.last, CommaList.last_with_comma, CommaList.next, ReadsType.primitive, ReadsType.named, ReadsType.own, ReadsParam.param}
use Rattle.print_grammar.specs.Grammar.{ReadsResult.no_result, ReadsResult.with_result, ReadsSignature.func, ReadsSignature.async_func, ReadsVersion.no_version}
use Rattle.print_grammar.specs.Grammar.{ReadsResourceMember.constructor_, ReadsResourceMember.method, ReadsResourceMember.static, ReadsAllNested.nested_end}
use Rattle.print_grammar.specs.Grammar.ReadsDeclared.{variant, flags, enum, alias, resource_with}
use Rattle.print_output.specs.Render.{render}
use Rattle.print_grammar.proofs.Scanned.{bare, no_parameters, scanned}

abbrev declared_text : List ℕ
declared_text = codes "package a:b;" ++ (10 ∷ 10 ∷ (codes "interface i {"
    ++ (10 ∷ (codes "  resource r {" ++ (10 ∷ (codes "    constructor(x: u8);"
    ++ (10 ∷ (codes "    m: func();" ++ (10 ∷ (codes "    s: static async func() -> r;"
    ++ (10 ∷ (codes "  }" ++ (10 ∷ 10 ∷ (codes "  variant v {" ++ (10 ∷ (codes "    a,"
    ++ (10 ∷ (codes "    b(r)," ++ (10 ∷ (codes "  }" ++ (10 ∷ 10 ∷ (codes "  flags f {" ++ (10 ∷ (codes "    c," ++ (10 ∷ (codes "  }" ++ (10 ∷ 10 ∷ (codes "  enum e {"
    ++ (10 ∷ (codes "    d," ++ (10 ∷ (codes "  }" ++ (10 ∷ 10 ∷ (codes "  type t = own<r>;" ++ (10 ∷ (codes "}" ++ (10 ∷ 10 ∷ [])))))))))))))))))))))))))))))))))))))

abbrev declared_tokens : List Token
declared_tokens = Key Package ∷ Word (codes "a") ∷ Punctuation Colon ∷ Word (codes "b") ∷ Punctuation Semi ∷ Key Interface ∷ Word (codes "i") ∷ Punctuation OpenBrace ∷ Key Resource ∷ Word (codes "r")
    ∷ Punctuation OpenBrace ∷ Key Keyword.Constructor ∷ Punctuation OpenParen ∷ Word (codes "x") ∷ Punctuation Colon ∷ Key (PrimitiveWord U8) ∷ Punctuation CloseParen ∷ Punctuation Semi
    ∷ Word (codes "m") ∷ Punctuation Colon ∷ Key Func ∷ Punctuation OpenParen ∷ Punctuation CloseParen ∷ Punctuation Semi ∷ Word (codes "s") ∷ Punctuation Colon ∷ Key Keyword.Static ∷ Key Async
    ∷ Key Func ∷ Punctuation OpenParen ∷ Punctuation CloseParen ∷ Punctuation Arrow ∷ Word (codes "r") ∷ Punctuation Semi ∷ Punctuation CloseBrace ∷ Key Variant ∷ Word (codes "v")
    ∷ Punctuation OpenBrace ∷ Word (codes "a") ∷ Punctuation Comma ∷ Word (codes "b") ∷ Punctuation OpenParen ∷ Word (codes "r") ∷ Punctuation CloseParen ∷ Punctuation Comma ∷ Punctuation CloseBrace
    ∷ Key Flags ∷ Word (codes "f") ∷ Punctuation OpenBrace ∷ Word (codes "c") ∷ Punctuation Comma ∷ Punctuation CloseBrace ∷ Key Enum ∷ Word (codes "e") ∷ Punctuation OpenBrace ∷ Word (codes "d")
    ∷ Punctuation Comma ∷ Punctuation CloseBrace ∷ Key Type_ ∷ Word (codes "t") ∷ Punctuation Equals ∷ Key Keyword.Own ∷ Punctuation Less ∷ Word (codes "r") ∷ Punctuation Greater ∷ Punctuation Semi
    ∷ Punctuation CloseBrace ∷ []

pub declared-tokens : Tokens declared_text declared_tokens
declared-tokens = scanned 200 _ _ refl

abbrev declared : FileTree
declared = record {
  main = record {
    head = record { docs = []; namespace = codes "a"; name = codes "b"; version = None };
    items = InterfaceItem [] Ungated (codes "i") (TypeMember bare (ResourceOf (codes "r")
        (ResourceMember.Constructor bare (record { name = codes "x"; ty = PrimitiveType U8 } ∷ []) None ∷ ResourceMember.Method bare (codes "m") no_parameters
        ∷ ResourceMember.Static bare (codes "s") (record { is_async = true; params = []; result = Some (Name (codes "r")) }) ∷ []))
        ∷ TypeMember bare (VariantOf (codes "v") (record { docs = []; name = codes "a"; payload = None } ∷ record { docs = []; name = codes "b"; payload = Some (Name (codes "r")) } ∷ []))
        ∷ TypeMember bare (FlagsOf (codes "f") (record { docs = []; name = codes "c" } ∷ [])) ∷ TypeMember bare (EnumOf (codes "e") (record { docs = []; name = codes "d" } ∷ []))
        ∷ TypeMember bare (AliasOf (codes "t") (Own (codes "r"))) ∷ []) ∷ [];
  };
  nested = [];
}

pub declared-reading : IsReading declared_text declared
declared-reading = record {
  tokens = declared_tokens;
  spelled = declared-tokens;
  parsed = file (head plain plain no_version) (next_item (interface_item no_gates
      plain (again (member_type (prefix no_gates no_external_id) (resource_with
      plain (again (constructor_ (prefix no_gates no_external_id) (params (last (param plain primitive))) no_result)
      (again (method (prefix no_gates no_external_id) plain (func no_params no_result)) (again (static (prefix no_gates no_external_id) plain (async_func no_params (with_result named))) closed)))))
      (again (member_type (prefix no_gates no_external_id) (variant plain (next (case_alone plain) (last_with_comma (case_of plain named)))))
      (again (member_type (prefix no_gates no_external_id) (flags plain (last_with_comma (label plain))))
      (again (member_type (prefix no_gates no_external_id) (enum plain (last_with_comma (label plain)))) (again (member_type (prefix no_gates no_external_id) (alias plain (own plain))) closed))))))
      no_items) nested_end;
}

pub declared-text : render (file_calls true declared) ≡ declared_text
declared-text = refl
