-- Reading what stands in front of items, paths, uses and declared types (WIT.md, Item: use, Feature gates, Item: type).
use Rattle.std.specs.Prelude.{◌&&◌, Bool, true, false, List, [], ℕ, zero, suc, length, Option, Some, None, is_none, codes, if◌then◌else◌}
use Rattle.std.specs.Option.{option_map_or}
use Rattle.wit_model.specs.Text.{Text}
use Rattle.print_grammar.specs.{Keyword.Keyword, Token.Token}
use Rattle.print_grammar.specs.Token.Mark.{OpenBrace, CloseBrace, OpenParen, CloseParen, Colon, Semi, Dot, Equals, Slash, At}
use Rattle.print_grammar.specs.Tree.{Gates, Prefix, FieldTree, CaseTree, LabelTree, SignatureTree, ResourceMember, Declared, PathTree, UsedName}
use Rattle.print_grammar.specs.Tree.{ResourceMember.Constructor, ResourceMember.Method, ResourceMember.Static}
use Rattle.print_grammar.specs.Tree.{PathTree.Local, PathTree.Full}
use Rattle.print_grammar.specs.Tree.Declared.{RecordOf, VariantOf, FlagsOf, EnumOf, AliasOf, ResourceOf}
use Rattle.text_trees.specs.Grammar.{Documentation, Marks, gates_of_marks, no_marks}
use Rattle.text_trees.specs.Reading.{Wanted, Reading, Reading.Found, Reading.Refused, then_read, made, begins, begins_word, behind, behind_mark, if_mark, if_key, id_in_front, version_in_front, quoted_in_front, behind_word, repeated, listed}
use Rattle.text_trees.specs.ReadTypes.{type_in_front, params_in_front, result_in_front, signature_in_front}

-- ---- in front of an item

-- `@` and a version, or nothing
abbrev pub at_version_in_front : List Token → Reading (Option Text)
at_version_in_front = if_mark At (λ rest. then_read (version_in_front rest) (λ version rest. Found (Some version) rest)) (Found None)

-- a version in parentheses: `(version = 1.2.3)`
abbrev pub version_argument_in_front : List Token → Reading Text
version_argument_in_front =
    behind_mark OpenParen (behind_word (codes "version") (behind_mark Equals (λ rest.
    then_read (version_in_front rest) (λ version rest. behind_mark CloseParen (Found version) rest))))

-- a feature in parentheses: `(feature = name)`
abbrev pub feature_argument_in_front : List Token → Reading Text
feature_argument_in_front =
    behind_mark OpenParen (behind_word (codes "feature") (behind_mark Equals (λ rest.
    then_read (id_in_front rest) (λ feature rest. behind_mark CloseParen (Found feature) rest))))

-- a string in parentheses: `("..")`
abbrev pub id_argument_in_front : List Token → Reading (List ℕ)
id_argument_in_front =
    behind_mark OpenParen (λ rest. then_read (quoted_in_front rest) (λ characters rest. behind_mark CloseParen (Found characters) rest))

-- what is read behind a word where it may stand and stands in front, or else something else
unfoldable pub if_free : {X : Type 0} → Bool → Text → (List Token → Reading X) → (List Token → Reading X) → List Token → Reading X
if_free free text next other ts = if free && begins_word text ts then next (behind ts) else other ts

-- whether neither a version nor a feature has been read
abbrev pub is_ungated : Marks → Bool
is_ungated marks = is_none marks.since && is_none marks.unstable

-- an attribute behind its `@`, and what those before it say; an external id where one may stand
abbrev pub mark_behind : Bool → Marks → List Token → Reading Marks
mark_behind ids marks =
    if_free (is_ungated marks) (codes "since") (λ rest. made (λ version. record marks { since = Some version }) (version_argument_in_front rest))
    (if_free (is_ungated marks) (codes "unstable") (λ rest. made (λ feature. record marks { unstable = Some feature }) (feature_argument_in_front rest))
    (if_free (is_none marks.deprecated) (codes "deprecated")
    (λ rest. made (λ version. record marks { deprecated = Some version }) (version_argument_in_front rest))
    (if_free (ids && is_none marks.external_id) (codes "external-id")
    (λ rest. made (λ characters. record marks { external_id = Some characters }) (id_argument_in_front rest)) (Refused Wanted.AnAttribute))))

-- Attributes, and what those before them say. The number counts down; it is more than there are tokens.
unfoldable pub marks_from : Bool → ℕ → Marks → List Token → Reading Marks
marks_from ids zero marks ts = Refused Wanted.AnAttribute ts
marks_from ids (suc n) marks ts = if begins At ts then then_read (mark_behind ids marks (behind ts)) (marks_from ids n) else Found marks ts

-- attributes
unfoldable pub marks_in_front : Bool → List Token → Reading Marks
marks_in_front ids ts = marks_from ids (suc (length ts)) no_marks ts

-- the gates that attributes are, behind them
abbrev pub gates_behind : Marks → List Token → Reading Gates
gates_behind marks ts = option_map_or (λ gates. Found gates ts) (gates_of_marks marks) (Refused Wanted.AGate ts)

-- gates alone
abbrev pub gates_in_front : List Token → Reading Gates
gates_in_front ts = then_read (marks_in_front false ts) gates_behind

-- what stands in front of an item: documentation, gates and an external id
abbrev pub prefix_in_front : Documentation → List Token → Reading Prefix
prefix_in_front docs ts =
    then_read (marks_in_front true ts) (λ marks rest.
    made (λ gates. record { docs = docs ts; gates = gates; external_id = marks.external_id }) (gates_behind marks rest))

-- ---- paths and uses

-- a path in another package, of which the first two names have been read
abbrev pub full_path_behind : Text → Text → List Token → Reading PathTree
full_path_behind namespace name =
    behind_mark Slash (λ rest.
    then_read (id_in_front rest) (λ interface rest.
    then_read (at_version_in_front rest) (λ version rest. Found (Full namespace name interface version) rest)))

-- a path, of which the first name has been read
abbrev pub path_behind : Text → List Token → Reading PathTree
path_behind first = if_mark Colon (λ rest. then_read (id_in_front rest) (λ name rest. full_path_behind first name rest)) (Found (Local first))

-- a path: a name alone, or with its package and perhaps a version
abbrev pub path_in_front : List Token → Reading PathTree
path_in_front ts = then_read (id_in_front ts) path_behind

-- a name that is used, and perhaps another after `as`
abbrev pub used_name_in_front : List Token → Reading UsedName
used_name_in_front ts =
    then_read (id_in_front ts) (λ other rest.
    if_key Keyword.As (λ rest. then_read (id_in_front rest) (λ own rest. Found (record { other = other; own = Some own }) rest))
    (Found (record { other = other; own = None })) rest)

-- what follows `use`, up to its `;`: a path, and the names in braces
abbrev pub use_behind : {X : Type 0} → (PathTree → List UsedName → X) → List Token → Reading X
use_behind use_of ts =
    then_read (path_in_front ts) (λ path rest.
    behind_mark Dot (behind_mark OpenBrace (λ rest.
    then_read (listed used_name_in_front CloseBrace rest) (λ names rest. behind_mark Semi (Found (use_of path names)) rest))) rest)

-- ---- declared types

-- a record's field: a name, a colon and a type
abbrev pub field_in_front : Documentation → ℕ → List Token → Reading FieldTree
field_in_front docs room ts =
    then_read (id_in_front ts) (λ name rest.
    behind_mark Colon (λ rest. then_read (type_in_front room rest) (λ ty rest. Found (record { docs = docs ts; name = name; ty = ty }) rest)) rest)

-- a variant's case: a name, and perhaps a payload in parentheses
abbrev pub case_in_front : Documentation → ℕ → List Token → Reading CaseTree
case_in_front docs room ts =
    then_read (id_in_front ts) (λ name rest.
    if_mark OpenParen (λ rest.
    then_read (type_in_front room rest) (λ ty rest. behind_mark CloseParen (Found (record { docs = docs ts; name = name; payload = Some ty })) rest))
    (Found (record { docs = docs ts; name = name; payload = None })) rest)

-- a flag or a case of an enum: a name
abbrev pub label_in_front : Documentation → List Token → Reading LabelTree
label_in_front docs ts = then_read (id_in_front ts) (λ name rest. Found (record { docs = docs ts; name = name }) rest)

-- a signature and its `;`
abbrev pub function_behind : {X : Type 0} → ℕ → (SignatureTree → X) → List Token → Reading X
function_behind room function_of ts = then_read (signature_in_front room ts) (λ signature rest. behind_mark Semi (Found (function_of signature)) rest)

-- what follows `constructor`
abbrev pub constructor_behind : ℕ → Prefix → List Token → Reading ResourceMember
constructor_behind room prefix ts =
    then_read (params_in_front room ts) (λ params rest.
    then_read (result_in_front room rest) (λ result rest. behind_mark Semi (Found (Constructor prefix params result)) rest))

-- a function of a resource, behind what stands in front of it
abbrev pub resource_member_behind : ℕ → Prefix → List Token → Reading ResourceMember
resource_member_behind room prefix =
    if_key Keyword.Constructor (constructor_behind room prefix) (λ rest.
    then_read (id_in_front rest) (λ name rest.
    behind_mark Colon (if_key Keyword.Static (function_behind room (Static prefix name)) (function_behind room (Method prefix name))) rest))

-- a function of a resource
abbrev pub resource_member_in_front : Documentation → ℕ → List Token → Reading ResourceMember
resource_member_in_front docs room ts = then_read (prefix_in_front docs ts) (resource_member_behind room)

-- a name, and what is read behind it
abbrev pub named : {X : Type 0} → (Text → List Token → Reading X) → List Token → Reading X
named next ts = then_read (id_in_front ts) next

-- what follows the name of a resource: `;`, or its functions in braces
abbrev pub resource_behind : Documentation → ℕ → Text → List Token → Reading Declared
resource_behind docs room name =
    if_mark Semi (Found (ResourceOf name [])) (behind_mark OpenBrace
    (λ rest. made (ResourceOf name) (repeated (resource_member_in_front docs room) CloseBrace rest)))

-- A declared type. What `type` gives a name may have one level more than a type where it is used (`fits_declared`).
abbrev pub declared_in_front : Documentation → ℕ → List Token → Reading Declared
declared_in_front docs room =
    if_key Keyword.Record (named (λ name. behind_mark OpenBrace (λ rest. made (RecordOf name) (listed (field_in_front docs room) CloseBrace rest))))
    (if_key Keyword.Variant (named (λ name. behind_mark OpenBrace (λ rest. made (VariantOf name) (listed (case_in_front docs room) CloseBrace rest))))
    (if_key Keyword.Flags (named (λ name. behind_mark OpenBrace (λ rest. made (FlagsOf name) (listed (label_in_front docs) CloseBrace rest))))
    (if_key Keyword.Enum (named (λ name. behind_mark OpenBrace (λ rest. made (EnumOf name) (listed (label_in_front docs) CloseBrace rest))))
    (if_key Keyword.Type_ (named (λ name. behind_mark Equals (λ rest.
    then_read (type_in_front (suc room) rest) (λ ty rest. behind_mark Semi (Found (AliasOf name ty)) rest))))
    (if_key Keyword.Resource (named (resource_behind docs room)) (Refused Wanted.AMember))))))
