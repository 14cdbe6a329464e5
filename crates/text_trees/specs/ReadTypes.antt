-- Reading types and signatures (WIT.md, Types; Item: func-type). `room` is how many levels a type may have: none for a primitive type and a name,
-- and one more than the deepest part for every other form.
use Rattle.std.specs.Prelude.{◌||◌, Bool, true, false, List, [], ◌∷◌, ℕ, Option, Some, None, zero, suc}
use Rattle.std.specs.Option.{option_map_or}
use Rattle.print_grammar.specs.{Keyword.Keyword, Keyword.PrimitiveName, Token.Token}
use Rattle.print_grammar.specs.Token.Mark.{OpenParen, CloseParen, Less, Greater, Colon, Comma, Arrow}
use Rattle.print_grammar.specs.Token.Token.{Word, Escaped, Key}
use Rattle.print_grammar.specs.Tree.{TypeTree, TypeTrees, TypeTrees.NoTypes, TypeTrees.AndTypes, ParamTree, SignatureTree}
use Rattle.print_grammar.specs.Tree.TypeTree.{PrimitiveType, Name, Own, Borrow, TupleOf, OptionOf, ListOf, FixedListOf, MapOf, Result, ResultOk, ResultErr, ResultOf, Future, FutureOf, Stream, StreamOf}
use Rattle.text_trees.specs.Reading.{Wanted, Reading, Reading.Found, Reading.Refused, then_read, made, begins_key, behind_mark, if_mark, behind_key, if_key, id_in_front, digits_in_front, listed}

-- ---- types

-- types, as those of a tuple
abbrev pub tuple_types : List TypeTree → TypeTrees
tuple_types [] = NoTypes
tuple_types (ty ∷ types) = AndTypes ty (tuple_types types)

-- something in angle brackets
abbrev pub in_brackets : {X : Type 0} → (List Token → Reading X) → List Token → Reading X
in_brackets read = behind_mark Less (λ rest. then_read (read rest) (λ x rest. behind_mark Greater (Found x) rest))

-- something, up to `>`
abbrev pub up_to_greater : TypeTree → List Token → Reading TypeTree
up_to_greater ty = behind_mark Greater (Found ty)

-- a map's key and value in angle brackets
abbrev pub map_in_front : (List Token → Reading TypeTree) → List Token → Reading TypeTree
map_in_front read =
    behind_mark Less (λ rest.
    then_read (read rest) (λ key rest.
    behind_mark Comma (λ rest.
    then_read (read rest) (λ value rest. up_to_greater (MapOf key value) rest)) rest))

-- a list's element, and its length if it has one, in angle brackets
abbrev pub list_in_front : (List Token → Reading TypeTree) → List Token → Reading TypeTree
list_in_front read =
    behind_mark Less (λ rest.
    then_read (read rest) (λ ty rest.
    if_mark Comma (λ rest. then_read (digits_in_front rest) (λ n rest. up_to_greater (FixedListOf ty n) rest)) (up_to_greater (ListOf ty)) rest))

-- a future or a stream: alone, or with a payload in angle brackets
abbrev pub payload_in_front : TypeTree → (TypeTree → TypeTree) → (List Token → Reading TypeTree) → List Token → Reading TypeTree
payload_in_front alone of read = if_mark Less (λ rest. then_read (read rest) (λ ty rest. up_to_greater (of ty) rest)) (Found alone)

-- what follows a result's `<`: its error alone behind `_`, or its value and perhaps its error
abbrev pub result_parts_in_front : (List Token → Reading TypeTree) → List Token → Reading TypeTree
result_parts_in_front read =
    if_key Keyword.Underscore (behind_mark Comma (λ rest. then_read (read rest) (λ err rest. up_to_greater (ResultErr err) rest)))
    (λ rest. then_read (read rest) (λ ok rest.
    if_mark Comma (λ rest. then_read (read rest) (λ err rest. up_to_greater (ResultOf ok err) rest)) (up_to_greater (ResultOk ok)) rest))

-- The form that begins with a keyword, by what reads its parts.
abbrev pub form_in_front : (List Token → Reading TypeTree) → List Token → Reading TypeTree
form_in_front read =
    if_key Keyword.Own (λ rest. made Own (in_brackets id_in_front rest))
    (if_key Keyword.Borrow (λ rest. made Borrow (in_brackets id_in_front rest))
    (if_key Keyword.Tuple (behind_mark Less (λ rest. made (λ types. TupleOf (tuple_types types)) (listed read Greater rest)))
    (if_key Keyword.Option_ (λ rest. made OptionOf (in_brackets read rest))
    (if_key Keyword.List_ (list_in_front read)
    (if_key Keyword.Map (map_in_front read)
    (if_key Keyword.Result (if_mark Less (result_parts_in_front read) (Found Result))
    (if_key Keyword.Future (payload_in_front Future FutureOf read)
    (if_key Keyword.Stream (payload_in_front Stream StreamOf read) (Refused Wanted.AType)))))))))

-- the primitive type that a keyword is, if it is one
abbrev pub primitive_of : Keyword → Option PrimitiveName
primitive_of (Keyword.PrimitiveWord p) = Some p
primitive_of keyword = None

-- a type, by what reads a form that begins with a keyword
abbrev pub type_by : (List Token → Reading TypeTree) → List Token → Reading TypeTree
type_by form (Word label ∷ ts) = Found (Name label) ts
type_by form (Escaped label ∷ ts) = Found (Name label) ts
type_by form (Key keyword ∷ ts) = option_map_or (λ p. Found (PrimitiveType p) ts) (primitive_of keyword) (form (Key keyword ∷ ts))
type_by form ts = Refused Wanted.AType ts

-- a form that begins with a keyword, where there is room for a level
unfoldable pub level_in_front : ℕ → List Token → Reading TypeTree
level_in_front zero ts = Refused Wanted.Shallower ts
level_in_front (suc room) ts = form_in_front (type_by (level_in_front room)) ts

-- A type of at most so many levels.
abbrev pub type_in_front : ℕ → List Token → Reading TypeTree
type_in_front room = type_by (level_in_front room)

-- ---- signatures

-- a parameter: a name, a colon and a type
abbrev pub param_in_front : ℕ → List Token → Reading ParamTree
param_in_front room ts =
    then_read (id_in_front ts) (λ name rest.
    behind_mark Colon (λ rest. then_read (type_in_front room rest) (λ ty rest. Found (record { name = name; ty = ty }) rest)) rest)

-- parameters in parentheses
abbrev pub params_in_front : ℕ → List Token → Reading (List ParamTree)
params_in_front room = behind_mark OpenParen (if_mark CloseParen (Found []) (listed (param_in_front room) CloseParen))

-- an arrow and a type, or nothing
abbrev pub result_in_front : ℕ → List Token → Reading (Option TypeTree)
result_in_front room = if_mark Arrow (λ rest. made (λ ty. Some ty) (type_in_front room rest)) (Found None)

-- what follows the word `func`
abbrev pub arguments_in_front : ℕ → Bool → List Token → Reading SignatureTree
arguments_in_front room is_async ts =
    then_read (params_in_front room ts) (λ params rest.
    then_read (result_in_front room rest) (λ result rest. Found (record { is_async = is_async; params = params; result = result }) rest))

-- whether tokens begin with `async` or `func`
abbrev pub begins_signature : List Token → Bool
begins_signature ts = begins_key Keyword.Async ts || begins_key Keyword.Func ts

-- a function's type
abbrev pub signature_in_front : ℕ → List Token → Reading SignatureTree
signature_in_front room =
    if_key Keyword.Async (behind_key Keyword.Func (arguments_in_front room true)) (behind_key Keyword.Func (arguments_in_front room false))
