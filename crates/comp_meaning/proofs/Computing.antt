-- What the worked examples share.
use Rattle.std.proofs.Common.{ℕ, zero, suc, ◌+◌, ◌/◌, ◌%◌, nat_lt, cond, List, [], ◌∷◌, ◌++◌, length, Option, None, false, Bool}
use Rattle.std.specs.{Prelude.codes, Str.is_utf8, Str.chars, FinMap.from_entries}
use Rattle.comp_bytes.specs.Reading.{◌>>=◌, unsigned_at, u32_at, last_byte_of, type_index_at, just_at, as_at, pair_at, choose, tagged_at, tag_at, closed_at, byte_at, optional_at, sequence_at, vector_at, counted_at, name_at, value_type_at, field_at, case_at, result_list_at, alias_at, with_attributes, attributed_at, extern_name_at, description_at, declaration_at, body_at, importless_at, component_and, instance_and, plain_and, declarations_at, type_at, top_export_at, section_of, frame_at, sections_of, component_of}
use Rattle.wit_model.specs.{Names.PackageIdentity, Names.is_version_text, Tree.Tree, Tree.Place, Tree.TypeDeclaration as TreeDeclaration}
use Rattle.wit_model.specs.Meaning.{Signature, FunctionMeaning, TypeMeaning, Item, Entry, InterfaceMeaning, WorldMeaning, PackageMeaning, WorldPackage}
use Rattle.comp_meaning.specs.Reads.{package_of_sections, world_of_sections}
use lib.Utf8.{encode}
use Prim.Native.String.{String}

-- package a:b; world foo { import host: func(); export guest: func(); }
unfoldable pub one_world : List ℕ
one_world = 0x00 ∷ 0x61 ∷ 0x73 ∷ 0x6d ∷ 0x0d ∷ 0x00 ∷ 0x01 ∷ 0x00 ∷ 0x07 ∷ 0x2a ∷ 0x01 ∷ 0x41 ∷ 0x02 ∷ 0x01 ∷ 0x41 ∷ 0x03 ∷ 0x01 ∷ 0x40 ∷ 0x00 ∷ 0x01 ∷ 0x00 ∷ 0x03 ∷ 0x00 ∷ 0x04 ∷ 0x68 ∷ 0x6f ∷ 0x73
    ∷ 0x74 ∷ 0x01 ∷ 0x00 ∷ 0x04 ∷ 0x00 ∷ 0x05 ∷ 0x67 ∷ 0x75 ∷ 0x65 ∷ 0x73 ∷ 0x74 ∷ 0x01 ∷ 0x00 ∷ 0x04 ∷ 0x00 ∷ 0x07 ∷ 0x61 ∷ 0x3a ∷ 0x62 ∷ 0x2f ∷ 0x66 ∷ 0x6f ∷ 0x6f ∷ 0x04 ∷ 0x00 ∷ 0x0b ∷ 0x09 ∷ 0x01
    ∷ 0x00 ∷ 0x03 ∷ 0x66 ∷ 0x6f ∷ 0x6f ∷ 0x03 ∷ 0x00 ∷ 0x00 ∷ []

-- a type's index, and definitions of so many lists, each of the type before it, the first of type n
unfoldable pub index_bytes : ℕ → List ℕ
index_bytes n = cond (nat_lt n 64) (n ∷ []) ((128 + n) ∷ 0 ∷ [])

unfoldable pub lists_of : ℕ → ℕ → List ℕ
lists_of zero n = []
lists_of (suc k) n = 1 ∷ 112 ∷ (index_bytes n ++ lists_of k (suc n))

-- a text behind its length
unfoldable pub text : String → List ℕ
text s = length (codes s) ∷ codes s

-- what a component begins with
unfoldable pub preamble : List ℕ
preamble = 0 ∷ 97 ∷ 115 ∷ 109 ∷ 13 ∷ 0 ∷ 1 ∷ 0 ∷ []

-- an export, at the top, of a type under a label of one letter
unfoldable pub exported_as : ℕ → ℕ → List ℕ
exported_as letter n = 11 ∷ 7 ∷ 1 ∷ 0 ∷ 1 ∷ letter ∷ 3 ∷ n ∷ 0 ∷ []

-- an instance type that declares t as u32, and the interface a:b/j of it at the top
unfoldable pub type_t : List ℕ
type_t = 1 ∷ 66 ∷ 2 ∷ 1 ∷ 121 ∷ 4 ∷ 0 ∷ 1 ∷ 116 ∷ 3 ∷ 0 ∷ 0 ∷ []

unfoldable pub interface_j : List ℕ
interface_j = 7 ∷ 25 ∷ 1 ∷ 65 ∷ 2 ∷ type_t ++ 4 ∷ 0 ∷ text "a:b/j" ++ 5 ∷ 0 ∷ exported_as 106 0

-- the world a:b/w of so many declarations: its section at the top, and the component of it alone
unfoldable pub world_section : ℕ → List ℕ → List ℕ
world_section count declared =
    let contents = 1 ∷ 65 ∷ 2 ∷ 1 ∷ 65 ∷ count ∷ declared ++ 4 ∷ 0 ∷ text "a:b/w" ++ 4 ∷ 0 ∷ [] in
    7 ∷ cond (nat_lt (length contents) 128) (length contents ∷ []) ((length contents % 128 + 128) ∷ length contents / 128 ∷ []) ++ contents

unfoldable pub world_of : ℕ → List ℕ → List ℕ
world_of count declared = preamble ++ world_section count declared ++ exported_as 119 0

-- what worked examples unfold
unfoldable pub computes : ℕ
unfolding unsigned_at u32_at last_byte_of type_index_at just_at as_at pair_at choose tagged_at tag_at closed_at byte_at optional_at sequence_at vector_at counted_at name_at value_type_at field_at
    case_at result_list_at alias_at with_attributes attributed_at extern_name_at description_at declaration_at body_at importless_at component_and instance_and plain_and declarations_at type_at
    top_export_at section_of frame_at sections_of component_of is_utf8 chars encode one_world is_version_text lists_of index_bytes text preamble
    exported_as type_t interface_j world_section world_of
computes = 0

-- what bytes mean as a package, and as a world
unfoldable pub meaning : List ℕ → Option PackageMeaning
meaning bytes = component_of bytes >>= package_of_sections

unfoldable pub world_meaning_of : List ℕ → Option WorldPackage
world_meaning_of bytes = component_of bytes >>= world_of_sections

unfoldable pub unit_function : Signature
unit_function = record { is_async = false; params = []; result = None }

-- a type of an interface, what declares t, a signature of one parameter, a function without an external id, an interface under its label, and an import or an export without an external id
abbrev pub in_interface : List ℕ → List ℕ → Tree
in_interface path name = Tree.named (Place.of_interface path) name

abbrev pub t_is : Tree → Option (List ℕ) → List (List ℕ × TypeMeaning)
t_is t id = (codes "t", record { declaration = TreeDeclaration.type_ t; external_id = id }) ∷ []

abbrev pub taking : Bool → List ℕ × Tree → Option Tree → Signature
taking is_async param result = record { is_async = is_async; params = param ∷ []; result = result }

abbrev pub plain : Bool → List ℕ × Tree → Option Tree → FunctionMeaning
plain is_async param result = record { signature = taking is_async param result; external_id = None }

abbrev pub interface_under : List ℕ → List (List ℕ × TypeMeaning) → List (List ℕ × FunctionMeaning) → List ℕ × InterfaceMeaning
interface_under key types functions = (key, record { types = types; functions = from_entries functions })

abbrev pub entry : List ℕ → Item InterfaceMeaning → List ℕ × Entry InterfaceMeaning
entry key item = (key, record { item = item; external_id = None })

unfoldable pub a_b : PackageIdentity
a_b = record { namespace = codes "a"; name = codes "b"; version = None }

unfoldable pub foo : WorldMeaning
foo = record { imports = entry (codes "host") (Item.function unit_function) ∷ []; exports = entry (codes "guest") (Item.function unit_function) ∷ [] }
