-- A table of types, each kept once: the shape of each over the numbers of its parts, and the tree that it stands for
-- (Binary.md, "Type Definitions"; WIT.md, "Types").
use Rattle.std.specs.Prelude.{◌≡◌, ℕ, ◌<◌, Bool, true, false, ◌==◌, ◌||◌, ◌+◌, if◌then◌else◌, List, [], ◌∷◌, ◌++◌, map, length, Some, slice_get, unwrap_or}
use Rattle.std.specs.List.{AllByRecursion}
use Rattle.wit_model.specs.{Text.Text, Tree.Primitive, Tree.Place, Tree.Form, Tree.Tree, Tree.children, Types.grow, Types.no_tree}

-- what a type is, over the numbers of its parts
pub record Shape : Type 0 where
  pub sort : ℕ
  pub number : ℕ
  pub labels : List (Text × Bool)
  pub parts : List ℕ

-- ---- forms by numbers

-- each label with the mark
abbrev pub marked : Bool → List Text → List (Text × Bool)
marked b ls = map (λ l. (l, b)) ls

abbrev pub two_marks : Bool → Bool → ℕ
two_marks false false = 0
two_marks true false = 1
two_marks false true = 2
two_marks true true = 3

abbrev pub one_mark : Bool → ℕ
one_mark false = 0
one_mark true = 1

pub record Code : Type 0 where
  pub sort : ℕ
  pub number : ℕ
  pub labels : List (Text × Bool)

abbrev pub code : ℕ → ℕ → List (Text × Bool) → Code
code s n ls = record { sort = s; number = n; labels = ls }

abbrev pub form_code : Form → Code
form_code (Form.record_of names) = code 1 0 (marked true names)
form_code (Form.variant_of cases) = code 2 0 cases
form_code Form.list_of = code 3 0 []
form_code (Form.fixed_list_of n) = code 4 n []
form_code Form.option_of = code 5 0 []
form_code Form.own_of = code 6 0 []
form_code Form.borrow_of = code 7 0 []
form_code Form.map_of = code 8 0 []
form_code Form.tuple_of = code 9 0 []
form_code (Form.flags_of names) = code 10 0 (marked false names)
form_code (Form.enum_of names) = code 11 0 (marked false names)
form_code (Form.result_of ok err) = code 12 (two_marks ok err) []
form_code (Form.future_of some) = code 13 (one_mark some) []
form_code (Form.stream_of some) = code 14 (one_mark some) []

-- the form of a code
unfoldable pub form_of : Code → Form
form_of c =
    if c.sort == 1 then Form.record_of (map (λ l. l.0) c.labels)
    else if c.sort == 2 then Form.variant_of c.labels
    else if c.sort == 3 then Form.list_of
    else if c.sort == 4 then Form.fixed_list_of c.number
    else if c.sort == 5 then Form.option_of
    else if c.sort == 6 then Form.own_of
    else if c.sort == 7 then Form.borrow_of
    else if c.sort == 8 then Form.map_of
    else if c.sort == 9 then Form.tuple_of
    else if c.sort == 10 then Form.flags_of (map (λ l. l.0) c.labels)
    else if c.sort == 11 then Form.enum_of (map (λ l. l.0) c.labels)
    else if c.sort == 12 then Form.result_of (c.number == 1 || c.number == 3) (c.number == 2 || c.number == 3)
    else if c.sort == 13 then Form.future_of (c.number == 1)
    else Form.stream_of (c.number == 1)

-- the shape of a form over parts, and of a name in a place
abbrev pub node_shape : Form → List ℕ → Shape
node_shape form parts = let c = form_code form in record { sort = c.sort; number = c.number; labels = c.labels; parts = parts }

abbrev pub named_shape : ℕ → Text → Shape
named_shape place name = record { sort = 0; number = place; labels = (name, false) ∷ []; parts = [] }

-- ---- trees

-- the primitives by number
abbrev pub primitives : List Primitive
primitives = Primitive.bool ∷ Primitive.u8 ∷ Primitive.u16 ∷ Primitive.u32 ∷ Primitive.u64 ∷ Primitive.s8 ∷ Primitive.s16 ∷ Primitive.s32 ∷ Primitive.s64
    ∷ Primitive.f32 ∷ Primitive.f64 ∷ Primitive.char ∷ Primitive.string ∷ Primitive.error_context ∷ []

-- A part is a primitive, by its number, or a number of the table behind those of the primitives.
unfoldable pub part_tree : List Tree → ℕ → Tree
part_tree trees k = unwrap_or (slice_get (map Tree.primitive primitives ++ trees) k) no_tree

abbrev pub first_label : List (Text × Bool) → Text
first_label [] = []
first_label (l ∷ ls) = l.0

unfoldable pub shape_tree : (ℕ → Place) → List Tree → Shape → Tree
shape_tree place trees s =
    if s.sort == 0 then Tree.named (place s.number) (first_label s.labels)
    else Tree.node (form_of (code s.sort s.number s.labels)) (children (map (part_tree trees) s.parts))

-- the tree of each number
unfoldable pub shape_trees : (ℕ → Place) → List Shape → List Tree
shape_trees place shapes = grow (shape_tree place) [] shapes

-- ---- well-formed tables

-- A shape behind so many others: a name, or a form over parts that stand before it.
pub data IsShape (before : ℕ) (s : Shape) : Type 0 where
  a_name : (place : ℕ) (name : Text) → s ≡ named_shape place name → IsShape before s
  a_node : (form : Form) (parts : List ℕ) → s ≡ node_shape form parts → AllByRecursion (λ k. k < 14 + before) parts → IsShape before s

-- Each shape refers to earlier ones, and none stands twice.
pub record IsTable (shapes : List Shape) : Type 0 where
  pub each : (n : ℕ) (s : Shape) → slice_get shapes n ≡ Some s → IsShape n s
  pub apart : (n m : ℕ) (s : Shape) → slice_get shapes n ≡ Some s → slice_get shapes m ≡ Some s → n ≡ m

-- The shape is in the table already, or comes behind the others.
pub data Adds (old : List Shape) (s : Shape) : List Shape → Type 0 where
  stays : Adds old s old
  comes : ((n : ℕ) → slice_get old n ≡ Some s → ⊥) → Adds old s (old ++ s ∷ [])

-- ---- laws

-- Each number of a table stands for the tree of its shape, whose parts stand for theirs.
abbrev pub TreeAtNumber : Type 0
TreeAtNumber = (place : ℕ → Place) (shapes : List Shape) → IsTable shapes → (n : ℕ) (s : Shape) → slice_get shapes n ≡ Some s
    → slice_get (shape_trees place shapes) n ≡ Some (shape_tree place (shape_trees place shapes) s)

-- In a table whose places differ by number, equal trees have one number.
abbrev pub OneNumber : Type 0
OneNumber = (place : ℕ → Place) → ((p q : ℕ) → place p ≡ place q → p ≡ q) → (shapes : List Shape) → IsTable shapes
    → (a b : ℕ) → a < 14 + length shapes → b < 14 + length shapes → part_tree (shape_trees place shapes) a ≡ part_tree (shape_trees place shapes) b → a ≡ b
