-- Reading interfaces, worlds, packages and files (WIT.md, Item: interface, Item: world, Package declaration, Top-level items).
use Rattle.std.specs.Prelude.{Bool, true, false, List, [], ◌∷◌, ℕ, Option, None, Some, if◌then◌else◌}
use Rattle.std.specs.List.{filter_map}
use Rattle.wit_model.specs.Text.{Text}
use Rattle.print_grammar.specs.{Keyword.Keyword, Token.Token}
use Rattle.print_grammar.specs.Token.Mark.{OpenBrace, CloseBrace, Colon, Semi, Slash}
use Rattle.print_grammar.specs.Tree.{Gates, Prefix, PathTree, PathTree.Local, UsedName, MemberTree, ExternTree, WorldMember, PackageHead}
use Rattle.text_trees.specs.TextTree.{NestedTree, TextItem, TextTree, WorldPart, TextItem.AnInterface, TextItem.AWorld, TextItem.AName, WorldPart.Has, WorldPart.Includes}
use Rattle.print_grammar.specs.Tree.{MemberTree.UseMember, MemberTree.TypeMember, MemberTree.FunctionMember}
use Rattle.print_grammar.specs.Tree.{ExternTree.Path, ExternTree.NamedFunction, ExternTree.NamedPath, ExternTree.NamedInterface}
use Rattle.print_grammar.specs.Tree.WorldMember.{WorldUse, WorldType, WorldImport, WorldExport}
use Rattle.text_trees.specs.Grammar.{Documentation}
use Rattle.text_trees.specs.Reading.{Wanted, Reading, Reading.Found, Reading.Refused, then_read, made, begins, begins_key, behind_mark, if_mark, behind, behind_key, id_in_front, if_key, if_id, listed, until, repeated}
use Rattle.text_trees.specs.ReadTypes.{begins_signature}
use Rattle.text_trees.specs.ReadDeclared.{at_version_in_front, gates_in_front, prefix_in_front, full_path_behind, path_behind, path_in_front, use_behind, function_behind, declared_in_front, named}

-- ---- interfaces

-- what an interface has, behind what stands in front of it
abbrev pub member_behind : Documentation → ℕ → Prefix → List Token → Reading MemberTree
member_behind docs room prefix =
    if_id (λ name. behind_mark Colon (function_behind room (FunctionMember prefix name)))
    (if_key Keyword.Use (use_behind (UseMember prefix)) (λ rest. made (TypeMember prefix) (declared_in_front docs room rest)))

-- what an interface has: a use, a declared type or a function
abbrev pub member_in_front : Documentation → ℕ → List Token → Reading MemberTree
member_in_front docs room ts = then_read (prefix_in_front docs ts) (member_behind docs room)

-- the members of an interface, in braces
abbrev pub members_in_front : Documentation → ℕ → List Token → Reading (List MemberTree)
members_in_front docs room = behind_mark OpenBrace (repeated (member_in_front docs room) CloseBrace)

-- ---- worlds

-- a path and its `;`
abbrev pub path_ended : (PathTree → ExternTree) → PathTree → List Token → Reading ExternTree
path_ended extern_of path = behind_mark Semi (Found (extern_of path))

-- what follows a name, a colon and another name in a world: the rest of a path that begins with the first, or with the second
abbrev pub extern_path_behind : Text → Text → List Token → Reading ExternTree
extern_path_behind first second ts =
    if begins Slash ts then then_read (full_path_behind first second ts) (path_ended Path) else then_read (path_behind second ts) (path_ended (NamedPath first))

-- what follows a name and a colon in a world: a function, an interface or a path
abbrev pub extern_behind : Documentation → ℕ → Text → List Token → Reading ExternTree
extern_behind docs room name ts =
    if begins_signature ts then function_behind room (NamedFunction name) ts
    else if_key Keyword.Interface (λ rest. made (NamedInterface name) (members_in_front docs room rest)) (named (extern_path_behind name)) ts

-- what a world imports or exports: a path, or a name with a function, a path or an interface
abbrev pub extern_in_front : Documentation → ℕ → List Token → Reading ExternTree
extern_in_front docs room = named (λ name. if_mark Semi (Found (Path (Local name))) (behind_mark Colon (extern_behind docs room name)))

-- what a world has, behind what stands in front of it
abbrev pub world_member_behind : Documentation → ℕ → Prefix → List Token → Reading WorldMember
world_member_behind docs room prefix =
    if_key Keyword.Import (λ rest. made (WorldImport prefix) (extern_in_front docs room rest))
    (if_key Keyword.Export (λ rest. made (WorldExport prefix) (extern_in_front docs room rest))
    (if_key Keyword.Use (use_behind (WorldUse prefix)) (λ rest. made (WorldType prefix) (declared_in_front docs room rest))))

-- what a world has: a use, a declared type, an import or an export
abbrev pub world_member_in_front : Documentation → ℕ → List Token → Reading WorldMember
world_member_in_front docs room ts = then_read (prefix_in_front docs ts) (world_member_behind docs room)

-- a name, and another behind `as`
abbrev pub other_name_in_front : List Token → Reading UsedName
other_name_in_front ts =
    then_read (id_in_front ts) (λ other rest.
    behind_key Keyword.As (λ rest. made (λ own. record { other = other; own = Some own }) (id_in_front rest)) rest)

-- what follows the names in braces: `;`, or nothing
abbrev pub inclusion_ended : Prefix → PathTree → List UsedName → List Token → Reading WorldPart
inclusion_ended prefix path names = if_mark Semi (Found (Includes prefix path names)) (Found (Includes prefix path names))

-- what follows `include`: a path, and other names in braces or `;`
abbrev pub inclusion_behind : Prefix → List Token → Reading WorldPart
inclusion_behind prefix ts =
    then_read (path_in_front ts) (λ path rest.
    if_key Keyword.With (behind_mark OpenBrace (λ rest.
    then_read (listed other_name_in_front CloseBrace rest) (inclusion_ended prefix path))) (behind_mark Semi (Found (Includes prefix path []))) rest)

-- what a world of a text has, behind what stands in front of it
abbrev pub part_behind : Documentation → ℕ → Prefix → List Token → Reading WorldPart
part_behind docs room prefix = if_key Keyword.Include (inclusion_behind prefix) (λ rest. made Has (world_member_behind docs room prefix rest))

-- what a world of a text has: what a world has, or an inclusion
abbrev pub part_in_front : Documentation → ℕ → List Token → Reading WorldPart
part_in_front docs room ts = then_read (prefix_in_front docs ts) (part_behind docs room)

-- what a world of a text has, in braces
abbrev pub parts_in_front : Documentation → ℕ → List Token → Reading (List WorldPart)
parts_in_front docs room = behind_mark OpenBrace (repeated (part_in_front docs room) CloseBrace)

-- ---- packages

-- what follows a path behind `use`, up to its `;`: another name, or nothing
abbrev pub name_ended : PathTree → List Token → Reading TextItem
name_ended path =
    if_key Keyword.As (λ rest. then_read (id_in_front rest) (λ own rest. behind_mark Semi (Found (AName path (Some own))) rest))
    (behind_mark Semi (Found (AName path None)))

-- what follows `use` at the top
abbrev pub name_behind : List Token → Reading TextItem
name_behind ts = then_read (path_in_front ts) name_ended

-- an interface or a world, behind its documentation and its gates
abbrev pub item_behind : Documentation → ℕ → List Text → Gates → List Token → Reading TextItem
item_behind docs room lines gates =
    if_key Keyword.Interface (named (λ name rest. made (AnInterface lines gates name) (members_in_front docs room rest)))
    (if_key Keyword.World (named (λ name rest. made (AWorld lines gates name) (parts_in_front docs room rest))) (Refused Wanted.AnItem))

-- an interface, a world, or a name for the one that a path means
abbrev pub item_in_front : Documentation → ℕ → List Token → Reading TextItem
item_in_front docs room ts =
    if_key Keyword.Use name_behind (λ rest. then_read (gates_in_front rest) (item_behind docs room (docs ts))) ts

-- what follows the word `package`: a name, and perhaps a version
abbrev pub head_in_front : List Token → Reading PackageHead
head_in_front =
    named (λ namespace. behind_mark Colon (named (λ name rest.
    made (λ version. record { docs = []; namespace = namespace; name = name; version = version }) (at_version_in_front rest))))

-- what names a package, with its documentation
abbrev pub head_with : List Text → PackageHead → PackageHead
head_with lines head = record head { docs = lines }

-- a nested package, behind what names it
abbrev pub nested_behind : Documentation → ℕ → List Text → PackageHead → List Token → Reading NestedTree
nested_behind docs room lines head =
    behind_mark OpenBrace (λ rest. made (λ items. record { head = head_with lines head; items = items }) (repeated (item_in_front docs room) CloseBrace rest))

-- a package nested in the text
abbrev pub nested_in_front : Documentation → ℕ → List Token → Reading NestedTree
nested_in_front docs room ts = behind_key Keyword.Package (λ rest. then_read (head_in_front rest) (nested_behind docs room (docs ts))) ts

-- ---- texts

-- An item, or a nested package.
pub data Piece : Type 0 where
  AnItem : TextItem → Piece
  ANested : NestedTree → Piece

-- the item that a piece is
abbrev pub item_of_piece : Piece → Option TextItem
item_of_piece (AnItem item) = Some item
item_of_piece (ANested it) = None

-- the nested package that a piece is
abbrev pub nested_of_piece : Piece → Option NestedTree
nested_of_piece (AnItem item) = None
nested_of_piece (ANested it) = Some it

-- an item or a nested package
abbrev pub piece_in_front : Documentation → ℕ → List Token → Reading Piece
piece_in_front docs room ts = if begins_key Keyword.Package ts then made ANested (nested_in_front docs room ts) else made AnItem (item_in_front docs room ts)

-- whether there are no tokens
abbrev pub is_end : List Token → Bool
is_end [] = true
is_end (t ∷ ts) = false

-- a text of these pieces
abbrev pub text_with : Option PackageHead → List Piece → TextTree
text_with head pieces = record { head = head; items = filter_map item_of_piece pieces; nested = filter_map nested_of_piece pieces }

-- what follows the name of the package that a text begins with: `;` and pieces, or a brace, where that package is nested, and more pieces
abbrev pub text_behind : Documentation → ℕ → List Text → PackageHead → List Token → Reading TextTree
text_behind docs room lines head =
    if_mark Semi (λ rest. made (text_with (Some (head_with lines head))) (until is_end (piece_in_front docs room) rest))
    (λ rest. then_read (nested_behind docs room lines head rest) (λ it rest.
    made (λ pieces. text_with None (ANested it ∷ pieces)) (until is_end (piece_in_front docs room) rest)))

-- A text: the name of its package, if it says so, and then items and nested packages. Nothing follows where one is found.
abbrev pub text_in_front : Documentation → ℕ → List Token → Reading TextTree
text_in_front docs room ts =
    if begins_key Keyword.Package ts then then_read (head_in_front (behind ts)) (text_behind docs room (docs ts))
    else made (text_with None) (until is_end (piece_in_front docs room) ts)
