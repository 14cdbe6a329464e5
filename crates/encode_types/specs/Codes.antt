-- Types, unnamed kinds and keys of functions as numbers and lists of numbers, for ordered tables.
use Rattle.std.specs.Prelude.{ℕ, ◌≡◌, ◌+◌, ◌≤◌, Bool, true, false, List, [], ◌∷◌, ◌++◌, map, length, take, Option, Some, None, Vec}
use Rattle.std.{specs.Borrow.Bor, specs.BTreeMap.BTreeMap, specs.List.Contains, specs.declared.alloc.Global.Global, specs.declared.cmp.Reverse.Reverse}
use Rattle.wit_model.specs.Text.{Text, text_of}
use Rattle.wit_model.specs.declared.model.{Param.Param, TypeDefKind.TypeDefKind, «Type».«Type» as ValueType}
use Rattle.encode_types.specs.declared.key.FunctionKey.{FunctionKey}
use Rattle.wit_model.specs.declared.model.TypeDefKind.TheVariants as kind
use Rattle.wit_model.specs.declared.model.Handle.TheVariants as handle
use Rattle.wit_model.specs.declared.model.«Type».TheVariants as ty

-- the number of a type: those of primitive types are below 14
abbrev pub type_code : ValueType → ℕ
type_code ty.Bool = 0
type_code ty.U8 = 1
type_code ty.U16 = 2
type_code ty.U32 = 3
type_code ty.U64 = 4
type_code ty.S8 = 5
type_code ty.S16 = 6
type_code ty.S32 = 7
type_code ty.S64 = 8
type_code ty.F32 = 9
type_code ty.F64 = 10
type_code ty.Char = 11
type_code ty.String = 12
type_code ty.ErrorContext = 13
type_code (ty.Id id) = 14 + id.0

-- a part that may be left out: a mark says whether it is there
abbrev pub optional_code : Option ValueType → List ℕ
optional_code None = 0 ∷ []
optional_code (Some t) = 1 ∷ type_code t ∷ []

-- the list of an unnamed kind: a number for its case, then its parts
abbrev pub kind_code : TypeDefKind → List ℕ
kind_code (kind.Handle (handle.Own id)) = 0 ∷ type_code (ty.Id id) ∷ []
kind_code (kind.Handle (handle.Borrow id)) = 1 ∷ type_code (ty.Id id) ∷ []
kind_code (kind.Tuple x) = 2 ∷ map type_code x.types.items
kind_code (kind.Option t) = 3 ∷ type_code t ∷ []
kind_code (kind.Result x) = 4 ∷ optional_code x.ok ++ optional_code x.err
kind_code (kind.List t) = 5 ∷ type_code t ∷ []
kind_code (kind.Map k t) = 6 ∷ type_code k ∷ type_code t ∷ []
kind_code (kind.FixedLengthList t n) = 7 ∷ type_code t ∷ n ∷ []
kind_code (kind.Future t) = 8 ∷ optional_code t
kind_code (kind.Stream t) = 9 ∷ optional_code t
kind_code _ = []

-- ---- names, and keys of functions

-- texts with their numbers
abbrev pub Names : Type 0
Names = List (Text × ℕ)

-- each text has one number, and each number one text
pub record IsTable (names : Names) : Type 0 where
  pub one_number : (t : Text) (m n : ℕ) → Contains names (t, m) → Contains names (t, n) → m ≡ n
  pub one_text : (s t : Text) (n : ℕ) → Contains names (s, n) → Contains names (t, n) → s ≡ t

-- the list holds for each parameter the number of its name and that of its type
abbrev pub AreListed : Names → List Param → List ℕ → Type 0
AreListed names [] [] = Unit {0}
AreListed names (p ∷ ps) (n ∷ t ∷ xs) = Contains names (text_of p.name, n) × (t ≡ type_code p.ty) × AreListed names ps xs
AreListed names _ _ = ⊥

-- whether a function is asynchronous, as a number
abbrev pub async_code : Bool → ℕ
async_code false = 0
async_code true = 1

-- The list of what makes the type of a function: whether it is asynchronous, how many parameters it has, each by the numbers of its name
-- and its type, and the result.
pub record IsListed (names : Names) (is_async : Bool) (params : List Param) (result_type : Option ValueType) (xs : List ℕ) : Type 0 where
  pub middle : List ℕ
  pub listed : AreListed names params middle
  pub is : xs ≡ async_code is_async ∷ length params ∷ (middle ++ optional_code result_type)

-- the list that stands for the key of a function
abbrev pub IsKeyList : Names → FunctionKey → List ℕ → Type 0
IsKeyList names key xs = IsListed names key.async_ key.params.0.now key.result.now xs

-- the names of an ordered map
abbrev pub names_of : BTreeMap (Bor Text) ℕ → Names
names_of t = map (λ e. (e.0.now, e.1)) t.entries

-- what has been added to a list stands for the first n parameters
pub record AddsParams (names : Names) (n : ℕ) (xs ys : List ℕ) (params : List Param) : Type 0 where
  pub middle : List ℕ
  pub is : ys ≡ xs ++ middle
  pub are : AreListed names (take n params) middle
  pub most : n ≤ length params

-- the same of one parameter
pub record AddsParam (names : Names) (xs ys : List ℕ) (p : Param) : Type 0 where
  pub number : ℕ
  pub there : Contains names (text_of p.name, number)
  pub is : ys ≡ xs ++ number ∷ type_code p.ty ∷ []

-- a text has a number
abbrev pub HasNumber : Names → Text → Type 0
HasNumber names t = (n : ℕ) × Contains names (t, n)

-- the names of these parameters have numbers
abbrev pub HaveNumbers : Names → List Param → Type 0
HaveNumbers names params = (p : Param) → Contains params p → HasNumber names (text_of p.name)

-- ---- ordered maps

-- a list of numbers as a key, in falling order
abbrev pub ListKey : Type 0
ListKey = Reverse (Vec ℕ Global)

-- the lists of an ordered map, each with its number
abbrev pub lists_of : BTreeMap ListKey ℕ → List (List ℕ × ℕ)
lists_of t = map (λ e. (e.0.0.items, e.1)) t.entries
