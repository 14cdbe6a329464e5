-- What an encoder is asked to add, and what of it has no room: where every count and every length is a number of 32 bits
-- (Component Model Binary.md, "vec" and the numbers of "Core WebAssembly").
use Rattle.std.specs.Prelude.{ℕ, ◌≡◌, ◌≤◌, ◌<◌, ◌+◌, ◌⊎◌, ◌&&◌, ◌||◌, Bool, true, false, cond, nat_eq, Some, None, Option, String, option_and_then, is_none, List, [], ◌∷◌, map, flat_map, length, sum_by}
use Rattle.std.specs.{List.Contains, List.AllPairs, Option.option_map_or, Set.distinct_count}
use Rattle.std.specs.declared.alloc.Global.{Global}
use Rattle.wit_model.specs.{Text.Text, Text.text_of, Text.optional_text, Meaning.Signature, Meant.type_meaning, Meant.signature_of, Rules.is_named_kind}
use Rattle.wit_model.specs.Tree.{Tree, Form, child_list, primitive, named, node, record_of, variant_of, tuple_of, flags_of, enum_of}
use Rattle.wit_model.specs.Lookup.{type_at}
use Rattle.wit_model.specs.declared.model.{Resolve.Resolve, TypeDefKind.TypeDefKind, Function.Function, InterfaceId.InterfaceId, «Type».«Type» as ValueType}
use Rattle.wit_model.specs.declared.model.TypeDef.{TypeDef}
use Rattle.comp_bytes.specs.{Raw.ExternName, Fits.fits_length, Fits.fits_names, Fits.fits_given, Fits.fits_name}
use Rattle.encode_types.specs.declared.maps.TypeEncodingMaps.{TypeEncodingMaps}
use Rattle.encode_types.specs.{Kinds.kind_tree, Plan.foreign_owner, MetKinds.ReachedFrom, Scope.exported_name, Maps.same_kind, Maps.IsKnown, Maps.HasKind, Maps.LacksKind, Distinct.has_own_definition, Distinct.key_of, Distinct.are_same}

-- what an encoder is asked to add: a definition of this tree, the type of a function of this signature, an export under this name,
-- or what stands for a type number of another interface
pub data Request : Type 0 where
  value_type : Tree → Request
  function_type : Signature → Request
  export_name : ExternName → Request
  import_of : ℕ → Request

-- which requests have no room
abbrev pub Refusals : Type 1
Refusals = Request → Type 0

-- ---- which requests fit: the counts and the lengths of their labels are numbers of 32 bits

-- whether the counts and the labels of a form fit
abbrev pub fits_form : Form → List Tree → Bool
fits_form (record_of labels) ts = fits_names labels
fits_form (variant_of cases) ts = fits_names (map (λ c. c.0) cases)
fits_form tuple_of ts = fits_length ts
fits_form (flags_of names) ts = fits_names names
fits_form (enum_of names) ts = fits_names names
fits_form _ ts = true

-- whether the counts and the labels of a tree fit, its parts by index
abbrev pub fits_tree : Tree → Bool
fits_tree (primitive p) = true
fits_tree (named place name) = true
fits_tree (node form ts) = fits_form form (child_list ts)

-- whether the name of a type fits, by which an alias brings it
abbrev pub fits_type_name : Resolve → ℕ → Bool
fits_type_name r n = option_map_or (λ def. fits_given (optional_text def.name)) (type_at r n) true

-- whether the counts and the labels of what is asked for fit
abbrev pub fits_request : Resolve → Request → Bool
fits_request r (value_type t) = fits_tree t
fits_request r (function_type s) = fits_names (map (λ p. p.0) s.params)
fits_request r (export_name name) = fits_name name
fits_request r (import_of n) = fits_type_name r n

-- a request has no room because it doesn't fit itself
abbrev pub IsUnfit : Resolve → Refusals
IsUnfit r request = fits_request r request ≡ false

-- the largest number of 32 bits
abbrev pub limit : ℕ
limit = 4294967295

-- where so many declarations are held: what doesn't fit itself, and all where there can't be one more
abbrev pub LacksRoomBehind : Resolve → ℕ → Refusals
LacksRoomBehind r held request = IsUnfit r request ⊎ (limit ≤ held)

-- ---- what types and functions are asked for

-- the name that a function of an interface is exported under
abbrev pub function_name : Text × Function → ExternName
function_name f = record { text = f.0; implements = None; version_suffix = None; external_id = optional_text f.1.external_id }

-- what a function of an interface asks for: its type and its name
abbrev pub function_requests : Resolve → Text × Function → List Request
function_requests r f = function_type (signature_of r f.1) ∷ export_name (function_name f) ∷ []

-- ---- how many declarations they take

-- How many declarations a type number takes: two, a definition and its export, where it has a definition of its own under its name. Else one: an alias, an
-- export, or the definition of its kind.
abbrev pub number_count : Resolve → Option InterfaceId → ℕ → ℕ
number_count r own n = cond (has_own_definition r own n) 2 1

-- how many declarations these type numbers take
abbrev pub numbers_count : Resolve → Option InterfaceId → List ℕ → ℕ
numbers_count r own numbers = sum_by (number_count r own) numbers

-- how many declarations functions take: a type for each key, and an export each
abbrev pub functions_count : List (Text × Function) → ℕ
functions_count fs = distinct_count are_same (map (λ f. key_of f.1) fs) + length fs

-- the kind of a type, if it has no name and is of no other interface
abbrev pub unnamed_kind : Resolve → Option InterfaceId → ℕ → Option TypeDefKind
unnamed_kind r own n = option_and_then (λ def. cond (is_none def.name && is_none (foreign_owner own def.owner)) (Some def.kind) None) (type_at r n)

-- whether both are unnamed kinds, and the same
abbrev pub are_one_kind : Option TypeDefKind → Option TypeDefKind → Bool
are_one_kind (Some a) (Some b) = same_kind a b
are_one_kind _ _ = false

-- whether two type numbers have the same declarations: they are one, or unnamed types of one kind
abbrev pub share_declarations : Resolve → Option InterfaceId → ℕ → ℕ → Bool
share_declarations r own x y = nat_eq x y || are_one_kind (unnamed_kind r own x) (unnamed_kind r own y)

-- no two of these type numbers have the same declarations
abbrev pub AreApart : Resolve → Option InterfaceId → List ℕ → Type 0
AreApart r own numbers = AllPairs (λ x y. share_declarations r own x y ≡ false) numbers

-- the kind of an unnamed type, which the maps lack
pub record IsNewKind (m : TypeEncodingMaps) (kind : TypeDefKind) : Type 0 where
  pub unnamed : is_named_kind kind ≡ false
  pub lacks : LacksKind m kind

-- Type numbers that the maps don't know, and of the unnamed ones they don't know the kinds. No two have the same declarations.
pub record AreNew (r : Resolve) (own : Option InterfaceId) (m : TypeEncodingMaps) (numbers : List ℕ) : Type 0 where
  pub apart : AreApart r own numbers
  pub unknown : (n : ℕ) → Contains numbers n → IsKnown m n → ⊥
  pub kinds : (n : ℕ) (kind : TypeDefKind) → Contains numbers n → unnamed_kind r own n ≡ Some kind → IsNewKind m kind

-- What has been declared, and what is held: what some type numbers take that were new, one for each key of a function that has been learnt, and
-- so many more. The numbers are known now, and so are the kinds of the unnamed ones.
pub record HoldsFor (r : Resolve) (own : Option InterfaceId) (m m' : TypeEncodingMaps) (before after more : ℕ) : Type 0 where
  pub numbers : List ℕ
  pub new : AreNew r own m numbers
  pub known : (n : ℕ) → Contains numbers n → IsKnown m' n
  pub kinds : (n : ℕ) (kind : TypeDefKind) → Contains numbers n → unnamed_kind r own n ≡ Some kind → (i : ℕ) × HasKind m' kind i
  pub few : length m.id_to_index.entries + length numbers ≤ length m'.id_to_index.entries
  pub held : after + length m.func_type_map.entries ≤ before + (numbers_count r own numbers + (length m'.func_type_map.entries + more))

-- ---- what of them has none

-- a part of a type has no room: its definition or its name, or, where it is of another interface, what stands for it
pub data LacksPart (r : Resolve) (own : Option InterfaceId) (N : Refusals) (number : ℕ) (def : TypeDef) : Type 0 where
  its_definition : foreign_owner own def.owner ≡ None → N (value_type (kind_tree r def.kind)) → LacksPart r own N number def
  its_name : foreign_owner own def.owner ≡ None → (name : String Global) → def.name ≡ Some name
      → N (export_name (exported_name (text_of name, type_meaning r def))) → LacksPart r own N number def
  its_import : (i : InterfaceId) → foreign_owner own def.owner ≡ Some i → N (import_of number) → LacksPart r own N number def

-- a part of one of these types, or one of these requests, has no room
pub data LacksOne (r : Resolve) (own : Option InterfaceId) (N : Refusals) (numbers : List ℕ) (requests : List Request) : Type 0 where
  a_type : (number : ℕ) (def : TypeDef) → Contains numbers number → type_at r number ≡ Some def → LacksPart r own N number def
      → LacksOne r own N numbers requests
  a_request : (request : Request) → Contains requests request → N request → LacksOne r own N numbers requests

-- One thing that was asked for has no room: a part of a type that is met from these, or one of these requests. What is held is less than what was
-- held, what some type numbers take that are met and were new, and so many more.
pub record FindsNoRoom (r : Resolve) (own : Option InterfaceId) (types : List ValueType) (requests : List Request) (more : ℕ) (m : TypeEncodingMaps)
    (before after : ℕ) (N : Refusals) : Type 0 where
  pub numbers : List ℕ
  pub new : AreNew r own m numbers
  pub met : (n : ℕ) → Contains numbers n → ReachedFrom r own types n
  pub held : after < before + (numbers_count r own numbers + more)
  pub lacks : LacksOne r own N numbers requests

-- An interface has no room in an instance type: a part of a type that is met from its types and functions, or the type or the name of a
-- function, doesn't fit. Or there are too many declarations, that is more than the largest number of 32 bits: what type numbers take that are
-- met, of which no two have the same declarations, and what the functions take.
pub record HasNoRoom (r : Resolve) (own : Option InterfaceId) (types : List ValueType) (functions : List (Text × Function)) : Type 0 where
  pub numbers : List ℕ
  pub apart : AreApart r own numbers
  pub met : (n : ℕ) → Contains numbers n → ReachedFrom r own types n
  pub lacks : LacksOne r own (IsUnfit r) numbers (flat_map (function_requests r) functions) ⊎ (limit < numbers_count r own numbers + functions_count functions)
