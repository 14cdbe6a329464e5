-- Worked examples: what is found in front of tokens, and what is wanted where.
use Rattle.std.proofs.Common.{◌≡◌, refl, ℕ, false, List, [], ◌∷◌, length, None, Some, codes}
use Rattle.wit_model.specs.Text.{Text}
use Rattle.print_grammar.specs.{Keyword.Keyword, Keyword.PrimitiveName.U8, Token.Token}
use Rattle.print_grammar.specs.Token.Mark.{OpenBrace, CloseBrace, OpenParen, CloseParen, Less, Greater, Colon, Semi, Comma, Equals, Slash, At}
use Rattle.print_grammar.specs.Token.Token.{Word, Escaped, Key, VersionText, Quoted, Punctuation}
use Rattle.print_grammar.specs.Tree.{Gates.Ungated, Gates.Since, Prefix, PackageHead, PathTree.Local, PathTree.Full, ExternTree.Path, MemberTree.FunctionMember, WorldMember.WorldImport, TypeTree.ListOf, TypeTree.PrimitiveType, TypeTree.Future}
use Rattle.text_trees.specs.Grammar.{Documentation}
use Rattle.text_trees.specs.TextTree.{TextTree, TextItem.AnInterface, TextItem.AWorld, TextItem.AName, WorldPart.Has, WorldPart.Includes}
use Rattle.text_trees.specs.Reading.{Wanted, Reading.Found, Reading.Refused, then_read, made, behind, behind_mark, if_mark, behind_key, if_key, if_id, if_word, id_in_front, version_in_front, digits_in_front, quoted_in_front, things_in_front, until, repeated, listed_in_front, listed}
use Rattle.text_trees.specs.ReadDeclared.{if_free, marks_from, marks_in_front, gates_in_front, prefix_in_front}
use Rattle.text_trees.specs.{ReadTypes.level_in_front, ReadTypes.type_in_front, ReadFiles.text_in_front}

-- what computes in the examples
computes : ℕ
unfolding then_read made behind_mark if_mark behind_key if_key if_id if_word if_free marks_from marks_in_front id_in_front version_in_front
    digits_in_front quoted_in_front things_in_front until repeated listed_in_front listed level_in_front
computes = 0

-- `list<u8>` has one level
list_of_bytes : List Token
list_of_bytes = Key Keyword.List_ ∷ Punctuation Less ∷ Key (Keyword.PrimitiveWord U8) ∷ Punctuation Greater ∷ []

list_found : type_in_front 1 list_of_bytes ≡ Found (ListOf (PrimitiveType U8)) []
unfolding computes list_of_bytes
list_found = refl

list_too_deep : type_in_front 0 list_of_bytes ≡ Refused Wanted.Shallower list_of_bytes
unfolding computes list_of_bytes
list_too_deep = refl

-- `future` before `>`
future_found : type_in_front 1 (Key Keyword.Future ∷ Punctuation Greater ∷ []) ≡ Found Future (Punctuation Greater ∷ [])
unfolding computes
future_found = refl

-- `tuple<>`: a type is wanted at `>`
no_empty_tuple : type_in_front 1 (Key Keyword.Tuple ∷ Punctuation Less ∷ Punctuation Greater ∷ []) ≡ Refused Wanted.AType (Punctuation Greater ∷ [])
unfolding computes
no_empty_tuple = refl

-- package a:b; interface c { f: func(%g: list<u8>,); } world w { import d:e/h@1.0.0; }
whole_file : List Token
whole_file =
    Key Keyword.Package ∷ Word (codes "a") ∷ Punctuation Colon ∷ Word (codes "b") ∷ Punctuation Semi
    ∷ Key Keyword.Interface ∷ Word (codes "c") ∷ Punctuation OpenBrace
    ∷ Word (codes "f") ∷ Punctuation Colon ∷ Key Keyword.Func ∷ Punctuation OpenParen
    ∷ Escaped (codes "g") ∷ Punctuation Colon ∷ Key Keyword.List_ ∷ Punctuation Less ∷ Key (Keyword.PrimitiveWord U8) ∷ Punctuation Greater ∷ Punctuation Comma
    ∷ Punctuation CloseParen ∷ Punctuation Semi ∷ Punctuation CloseBrace
    ∷ Key Keyword.World ∷ Word (codes "w") ∷ Punctuation OpenBrace
    ∷ Key Keyword.Import ∷ Word (codes "d") ∷ Punctuation Colon ∷ Word (codes "e") ∷ Punctuation Slash ∷ Word (codes "h")
    ∷ Punctuation At ∷ VersionText (codes "1.0.0") ∷ Punctuation Semi ∷ Punctuation CloseBrace ∷ []

-- documentation that says how many tokens are left
counted : Documentation
counted ts = (length ts ∷ []) ∷ []

-- the package has documentation in front of 35 tokens, the interface of 30, its function of 27, the world of 13 and its import of 10
whole_tree : TextTree
whole_tree = record {
  head = Some (record { docs = (35 ∷ []) ∷ []; namespace = codes "a"; name = codes "b"; version = None });
  items =
      AnInterface ((30 ∷ []) ∷ []) Ungated (codes "c")
      (FunctionMember (record { docs = (27 ∷ []) ∷ []; gates = Ungated; external_id = None }) (codes "f")
      (record { is_async = false; params = record { name = codes "g"; ty = ListOf (PrimitiveType U8) } ∷ []; result = None }) ∷ [])
      ∷ AWorld ((13 ∷ []) ∷ []) Ungated (codes "w")
      (Has (WorldImport (record { docs = (10 ∷ []) ∷ []; gates = Ungated; external_id = None })
      (Path (Full (codes "d") (codes "e") (codes "h") (Some (codes "1.0.0"))))) ∷ []) ∷ [];
  nested = [];
}

file_found : text_in_front counted 1 whole_file ≡ Found whole_tree []
unfolding computes whole_file whole_tree counted
file_found = refl

-- package a:b; interface c { f: }: `func` is wanted at `}`
func_wanted :
    text_in_front counted 1 (Key Keyword.Package ∷ Word (codes "a") ∷ Punctuation Colon ∷ Word (codes "b") ∷ Punctuation Semi ∷ Key Keyword.Interface
    ∷ Word (codes "c") ∷ Punctuation OpenBrace ∷ Word (codes "f") ∷ Punctuation Colon ∷ Punctuation CloseBrace ∷ [])
    ≡ Refused (Wanted.AKeyword Keyword.Func) (Punctuation CloseBrace ∷ [])
unfolding computes
func_wanted = refl

-- package a:b; @until: an attribute is wanted behind `@`
attribute_wanted :
    text_in_front counted 1 (Key Keyword.Package ∷ Word (codes "a") ∷ Punctuation Colon ∷ Word (codes "b") ∷ Punctuation Semi ∷ Punctuation At
    ∷ Word (codes "until") ∷ []) ≡ Refused Wanted.AnAttribute (Word (codes "until") ∷ [])
unfolding computes
attribute_wanted = refl

-- ---- texts without a name, inclusions, names at the top

-- what names a package, with documentation in front of so many tokens
head_there : ℕ → Text → Text → PackageHead
head_there n namespace name = record { docs = (n ∷ []) ∷ []; namespace = namespace; name = name; version = None }

-- what stands in front of an item without attributes, with documentation in front of so many tokens
prefix_there : ℕ → Prefix
prefix_there n = record { docs = (n ∷ []) ∷ []; gates = Ungated; external_id = None }

-- use a as b; package c:d { world w { include e; include f with { g as h, } ; } } use i;
loose_text : List Token
loose_text =
    Key Keyword.Use ∷ Word (codes "a") ∷ Key Keyword.As ∷ Word (codes "b") ∷ Punctuation Semi
    ∷ Key Keyword.Package ∷ Word (codes "c") ∷ Punctuation Colon ∷ Word (codes "d") ∷ Punctuation OpenBrace
    ∷ Key Keyword.World ∷ Word (codes "w") ∷ Punctuation OpenBrace
    ∷ Key Keyword.Include ∷ Word (codes "e") ∷ Punctuation Semi
    ∷ Key Keyword.Include ∷ Word (codes "f") ∷ Key Keyword.With ∷ Punctuation OpenBrace
    ∷ Word (codes "g") ∷ Key Keyword.As ∷ Word (codes "h") ∷ Punctuation Comma ∷ Punctuation CloseBrace ∷ Punctuation Semi
    ∷ Punctuation CloseBrace ∷ Punctuation CloseBrace
    ∷ Key Keyword.Use ∷ Word (codes "i") ∷ Punctuation Semi ∷ []

loose_tree : TextTree
loose_tree = record {
  head = None;
  items = AName (Local (codes "a")) (Some (codes "b")) ∷ AName (Local (codes "i")) None ∷ [];
  nested =
      record {
        head = head_there 26 (codes "c") (codes "d");
        items =
            AWorld ((21 ∷ []) ∷ []) Ungated (codes "w")
            (Includes (prefix_there 18) (Local (codes "e")) []
            ∷ Includes (prefix_there 15) (Local (codes "f")) (record { other = codes "g"; own = Some (codes "h") } ∷ []) ∷ []) ∷ [];
      } ∷ [];
}

loose_found : text_in_front counted 1 loose_text ≡ Found loose_tree []
unfolding computes loose_text loose_tree counted head_there prefix_there
loose_found = refl

-- package a:b {}: a text whose package is nested
nested_found :
    text_in_front counted 1
    (Key Keyword.Package ∷ Word (codes "a") ∷ Punctuation Colon ∷ Word (codes "b") ∷ Punctuation OpenBrace ∷ Punctuation CloseBrace ∷ [])
    ≡ Found (record { head = None; items = []; nested = record { head = head_there 6 (codes "a") (codes "b"); items = [] } ∷ [] }) []
unfolding computes counted head_there
nested_found = refl

-- no tokens: a text of nothing
nothing_found : text_in_front counted 1 [] ≡ Found (record { head = None; items = []; nested = [] }) []
unfolding computes
nothing_found = refl

-- world w { REST
in_world : List Token → List Token
in_world rest = Key Keyword.World ∷ Word (codes "w") ∷ Punctuation OpenBrace ∷ rest

-- include a }: `;` is wanted at `}`
end_wanted :
    text_in_front counted 1 (in_world (Key Keyword.Include ∷ Word (codes "a") ∷ Punctuation CloseBrace ∷ []))
    ≡ Refused (Wanted.AMark Semi) (Punctuation CloseBrace ∷ [])
unfolding computes in_world
end_wanted = refl

-- include a with { b }: `as` is wanted at `}`
as_wanted :
    text_in_front counted 1 (in_world (Key Keyword.Include ∷ Word (codes "a") ∷ Key Keyword.With ∷ Punctuation OpenBrace
    ∷ Word (codes "b") ∷ Punctuation CloseBrace ∷ []))
    ≡ Refused (Wanted.AKeyword Keyword.As) (Punctuation CloseBrace ∷ [])
unfolding computes in_world
as_wanted = refl

-- include a with { b as c } ; ;: what a world has is wanted at the second `;`
part_wanted :
    text_in_front counted 1 (in_world (Key Keyword.Include ∷ Word (codes "a") ∷ Key Keyword.With ∷ Punctuation OpenBrace
    ∷ Word (codes "b") ∷ Key Keyword.As ∷ Word (codes "c") ∷ Punctuation CloseBrace ∷ Punctuation Semi ∷ Punctuation Semi ∷ []))
    ≡ Refused Wanted.AMember (Punctuation Semi ∷ [])
unfolding computes in_world
part_wanted = refl

-- use a {: `;` is wanted at `{`
top_end_wanted :
    text_in_front counted 1 (Key Keyword.Use ∷ Word (codes "a") ∷ Punctuation OpenBrace ∷ []) ≡ Refused (Wanted.AMark Semi) (Punctuation OpenBrace ∷ [])
unfolding computes
top_end_wanted = refl

-- ---- attributes

-- @NAME(version = TEXT)
with_version : Text → Text → List Token → List Token
with_version name version rest =
    Punctuation At ∷ Word name ∷ Punctuation OpenParen ∷ Word (codes "version") ∷ Punctuation Equals ∷ VersionText version ∷ Punctuation CloseParen ∷ rest

-- @external-id("x")
with_id : List Token → List Token
with_id rest = Punctuation At ∷ Word (codes "external-id") ∷ Punctuation OpenParen ∷ Quoted (codes "x") ∷ Punctuation CloseParen ∷ rest

-- @deprecated(version = 1.2.0) @external-id("x") @since(version = 1.0.0) f: attributes in any order, and the documentation in front of the first
any_order :
    prefix_in_front counted (with_version (codes "deprecated") (codes "1.2.0") (with_id (with_version (codes "since") (codes "1.0.0") (Word (codes "f") ∷ []))))
    ≡ Found (record { docs = (20 ∷ []) ∷ []; gates = Since (codes "1.0.0") (Some (codes "1.2.0")); external_id = Some (codes "x") }) (Word (codes "f") ∷ [])
unfolding computes counted with_version with_id
any_order = refl

-- @deprecated(version = 1.2.0) f: a gate is wanted at `f`
deprecated_alone :
    prefix_in_front counted (with_version (codes "deprecated") (codes "1.2.0") (Word (codes "f") ∷ [])) ≡ Refused Wanted.AGate (Word (codes "f") ∷ [])
unfolding computes counted with_version
deprecated_alone = refl

-- @since(version = 1.0.0) @unstable: another attribute is wanted at `unstable`
two_gates :
    prefix_in_front counted (with_version (codes "since") (codes "1.0.0") (Punctuation At ∷ Word (codes "unstable") ∷ []))
    ≡ Refused Wanted.AnAttribute (Word (codes "unstable") ∷ [])
unfolding computes counted with_version
two_gates = refl

-- @external-id("x") in front of an interface: another attribute is wanted at `external-id`
no_id_there : gates_in_front (with_id (Key Keyword.Interface ∷ [])) ≡ Refused Wanted.AnAttribute (behind (with_id (Key Keyword.Interface ∷ [])))
unfolding computes with_id
no_id_there = refl
