-- What is shown of interfaces and of worlds, in numbers (Binary.md, "Type Definitions" and "Import and Export Definitions"; WIT.md,
-- "Interfaces", "Worlds"). A type is a number of a table of shapes, the type of a function a number of a table of these, and a place the
-- number of a path.
use Rattle.std.specs.Prelude.{◌≡◌, ℕ, ◌<◌, ◌+◌, Bool, true, false, not, ◌&&◌, ◌||◌, ◌==◌, List, [], ◌∷◌, ◌++◌, length, map, Option, Some, None, option_map, unwrap_or, slice_get}
use Rattle.std.specs.{List.AllByRecursion, List.Contains, List.list_all, List.find, Option.option_map_or, Cmp.Lexicographic.pointwise}
use Rattle.wit_model.specs.{Text.Text, Text.text_eq, Tree.Place, Tree.Form, Tree.Tree, Tree.TypeDeclaration, Meaning.Signature, Meaning.FunctionMeaning}
use Rattle.comp_meaning.specs.Follow.{Slot, View, ShownType, instance_place}
use Rattle.comp_meaning.specs.{Same.same_option, Same.same_tree, Same.same_signature, Same.stand_in, Reads.Sight, Reads.all_agree, Agreement.agree_with_first}
use Rattle.plan_meaning.specs.Shapes.{Shape, node_shape, named_shape, part_tree, shape_trees, IsTable}

-- ---- tables

-- the type of a function, over the parts that its parameters and its result are
pub record FunctionShape : Type 0 where
  pub is_async : Bool
  pub params : List (Text × ℕ)
  pub result : Option ℕ

-- The types of values, those of functions, and for the number of each place the path of its interface: none for the place of a world or of
-- an inline interface.
pub record Tables : Type 0 where
  pub shapes : List Shape
  pub functions : List FunctionShape
  pub paths : List (Option Text)

abbrev pub path_at : Tables → ℕ → Option Text
path_at t p = unwrap_or (slice_get t.paths p) None

abbrev pub path_text : Tables → ℕ → Text
path_text t p = unwrap_or (path_at t p) []

abbrev pub place_at : Tables → ℕ → Place
place_at t p = instance_place (path_at t p)

-- the tree of a part
abbrev pub tree_at : Tables → ℕ → Tree
tree_at t k = part_tree (shape_trees (place_at t) t.shapes) k

abbrev pub signature_over : (ℕ → Tree) → FunctionShape → Signature
signature_over trees f = record { is_async = f.is_async; params = map (λ p. (p.0, trees p.1)) f.params; result = option_map trees f.result }

-- stands for a number that no function's type has
abbrev pub no_function : FunctionShape
no_function = record { is_async = false; params = []; result = None }

abbrev pub function_at : Tables → ℕ → FunctionShape
function_at t n = unwrap_or (slice_get t.functions n) no_function

abbrev pub signature_at : Tables → ℕ → Signature
signature_at t n = signature_over (tree_at t) (function_at t n)

-- a primitive, or a number of the table
abbrev pub IsPart : Tables → ℕ → Type 0
IsPart t k = k < 14 + length t.shapes

abbrev pub AllOf : (ℕ → Type 0) → Option ℕ → Type 0
AllOf P None = Unit {0}
AllOf P (Some k) = P k

-- each part of the function's type
abbrev pub PartsOf : (ℕ → Type 0) → FunctionShape → Type 0
PartsOf P f = AllByRecursion (λ (p : Text × ℕ). P p.1) f.params × AllOf P f.result

-- Each type of a value and each type of a function stands once, over parts of the table, and each path has one number.
pub record AreTables (t : Tables) : Type 0 where
  pub shapes : IsTable t.shapes
  pub functions : (n : ℕ) (f : FunctionShape) → slice_get t.functions n ≡ Some f → PartsOf (IsPart t) f
  pub apart : (m n : ℕ) (f : FunctionShape) → slice_get t.functions m ≡ Some f → slice_get t.functions n ≡ Some f → m ≡ n
  pub paths : (m n : ℕ) (path : Text) → path_at t m ≡ Some path → path_at t n ≡ Some path → m ≡ n

-- In the part stands a name that is of the place of this number.
pub data HasNameIn (shapes : List Shape) : ℕ → ℕ → Type 0 where
  itself : (k n p : ℕ) (name : Text) → k ≡ 14 + n → slice_get shapes n ≡ Some (named_shape p name) → HasNameIn shapes k p
  inside : (k n m p : ℕ) (form : Form) (parts : List ℕ) → k ≡ 14 + n → slice_get shapes n ≡ Some (node_shape form parts) → Contains parts m
      → HasNameIn shapes m p → HasNameIn shapes k p

-- No two names in these parts are of one place under two numbers.
abbrev pub AreApart : (ℕ → Place) → List Shape → ℕ → ℕ → Type 0
AreApart place shapes a b = (p q : ℕ) → HasNameIn shapes a p → HasNameIn shapes b q → place p ≡ place q → p ≡ q

-- all names in the part are of interfaces with a path
abbrev pub IsOutside : Tables → ℕ → Type 0
IsOutside t k = (p : ℕ) → HasNameIn t.shapes k p → (path : Text) × (path_at t p ≡ Some path)

-- ---- views

-- what the index of a type that is shown stands for
pub data NumberedSlot : Type 0 where
  value : ℕ → NumberedSlot
  resource : ℕ → NumberedSlot

-- a type that is shown: the part that it is another name for, if it is no resource
pub record NumberedType : Type 0 where
  pub name : Text
  pub declared : Option ℕ
  pub external_id : Option Text
  pub slot : NumberedSlot

-- a function that is shown: the number of its type
pub record NumberedFunction : Type 0 where
  pub signature : ℕ
  pub external_id : Option Text

pub record NumberedView : Type 0 where
  pub types : List NumberedType
  pub functions : List (Text × NumberedFunction)

abbrev pub resource_slot : Tree → Slot
resource_slot (Tree.named place name) = Slot.resource place name
resource_slot _ = Slot.instance [] 0

abbrev pub slot_of : Tables → NumberedSlot → Slot
slot_of t (value k) = Slot.value (tree_at t k)
slot_of t (resource k) = resource_slot (tree_at t k)

abbrev pub declaration_of : Tables → Option ℕ → TypeDeclaration
declaration_of t None = TypeDeclaration.resource
declaration_of t (Some k) = TypeDeclaration.type_ (tree_at t k)

abbrev pub shown_type : Tables → NumberedType → ShownType
shown_type t x = record { name = x.name; meaning = record { declaration = declaration_of t x.declared; external_id = x.external_id }; slot = slot_of t x.slot }

abbrev pub shown_function : Tables → Text × NumberedFunction → Text × FunctionMeaning
shown_function t f = (f.0, record { signature = signature_at t f.1.signature; external_id = f.1.external_id })

-- the view that the numbers stand for
abbrev pub view_of : Tables → NumberedView → View
view_of t v = record { types = map (shown_type t) v.types; functions = map (shown_function t) v.functions }

-- a view of the interface whose place has this number
pub record NumberedSight : Type 0 where
  pub place : ℕ
  pub view : NumberedView
  pub whole : Bool

abbrev pub sight_of : Tables → NumberedSight → Sight
sight_of t s = record { path = path_text t s.place; view = view_of t s.view; whole = s.whole }

-- ---- agreement, in numbers

abbrev pub same_number : Option ℕ → Option ℕ → Bool
same_number a b = same_option ◌==◌ a b

abbrev pub same_id : Option Text → Option Text → Bool
same_id a b = same_option text_eq a b

abbrev pub same_shown : NumberedType → NumberedType → Bool
same_shown a b = text_eq a.name b.name && (same_number a.declared b.declared && same_id a.external_id b.external_id)

abbrev pub same_function : NumberedFunction → NumberedFunction → Bool
same_function a b = a.signature == b.signature && same_id a.external_id b.external_id

abbrev pub same_functions : List (Text × NumberedFunction) → List (Text × NumberedFunction) → Bool
same_functions fs gs = length fs == length gs && stand_in same_function fs gs

abbrev pub same_types : NumberedSight → NumberedSight → Bool
same_types a b = pointwise same_shown a.view.types b.view.types

abbrev pub same_whole : NumberedSight → NumberedSight → Bool
same_whole a b = same_functions a.view.functions b.view.functions

abbrev pub agree : NumberedSight → NumberedSight → Bool
agree a b = not (a.place == b.place) || (same_types a b && (not (a.whole && b.whole) || same_whole a b))

abbrev pub agree_in_numbers : List NumberedSight → Bool
agree_in_numbers [] = true
agree_in_numbers (s ∷ rest) = list_all (agree s) rest && agree_in_numbers rest

-- the first view of a place, and the first that shows functions
abbrev pub first_at : ℕ → List NumberedSight → Option NumberedSight
first_at p seen = find (λ s. p == s.place) seen

abbrev pub first_whole_at : ℕ → List NumberedSight → Option NumberedSight
first_whole_at p seen = find (λ s. p == s.place && s.whole) seen

abbrev pub agrees_with_first : List NumberedSight → NumberedSight → Bool
agrees_with_first earlier s =
    option_map_or (λ f. same_types f s) (first_at s.place earlier) true
    && (not s.whole || option_map_or (λ f. same_whole f s) (first_whole_at s.place earlier) true)

abbrev pub agree_with_first_in_numbers : List NumberedSight → List NumberedSight → Bool
agree_with_first_in_numbers earlier [] = true
agree_with_first_in_numbers earlier (s ∷ rest) = agrees_with_first earlier s && agree_with_first_in_numbers (earlier ++ s ∷ []) rest

-- ---- what holds of views that were followed

-- the parts that a type declares, and that a function takes and gives
abbrev pub TypePasses : (ℕ → Type 0) → NumberedType → Type 0
TypePasses P x = AllOf P x.declared

abbrev pub FunctionPasses : Tables → (ℕ → Type 0) → Text × NumberedFunction → Type 0
FunctionPasses t P f = (f.1.signature < length t.functions) × PartsOf P (function_at t f.1.signature)

-- Each part in the view passes, and each function's type stands in the table.
pub record ViewPasses (t : Tables) (P : ℕ → Type 0) (v : NumberedView) : Type 0 where
  pub types : AllByRecursion (TypePasses P) v.types
  pub functions : AllByRecursion (FunctionPasses t P) v.functions

-- A part of the table in which each name is of an interface with a path
abbrev pub IsOutsidePart : Tables → ℕ → Type 0
IsOutsidePart t k = IsPart t k × IsOutside t k

-- The view is of an interface with a path, over parts of the table.
pub record IsSight (t : Tables) (s : NumberedSight) : Type 0 where
  pub path : Text
  pub home : path_at t s.place ≡ Some path
  pub parts : ViewPasses t (IsOutsidePart t) s.view

-- ---- laws

-- Two parts are the same tree exactly where they are one number, and two functions have the same type exactly where that is one number.
pub record NumbersTell (t : Tables) : Type 0 where
  pub trees : (a b : ℕ) → IsPart t a → IsPart t b → AreApart (place_at t) t.shapes a b → same_tree (tree_at t a) (tree_at t b) ≡ (a == b)
  pub signatures : (m n : ℕ) → m < length t.functions → n < length t.functions → PartsOf (IsOutside t) (function_at t m)
      → PartsOf (IsOutside t) (function_at t n)
      → same_signature (signature_at t m) (signature_at t n) ≡ (m == n)

abbrev pub EachNumberTells : Type 0
EachNumberTells = (t : Tables) → AreTables t → NumbersTell t

-- Views agree, each with each and each with the first, exactly where their numbers do.
abbrev pub ViewsAgreeInNumbers : Type 0
ViewsAgreeInNumbers = (t : Tables) → AreTables t → (seen : List NumberedSight) → AllByRecursion (IsSight t) seen
    → all_agree (map (sight_of t) seen) ≡ agree_in_numbers seen

abbrev pub FirstViewsAgreeInNumbers : Type 0
FirstViewsAgreeInNumbers = (t : Tables) → AreTables t → (seen : List NumberedSight) → AllByRecursion (IsSight t) seen
    → agree_with_first [] (map (sight_of t) seen) ≡ agree_with_first_in_numbers [] seen
