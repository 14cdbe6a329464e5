-- The rules of reading on types, functions and interfaces, in numbers: what is asked of a tree is asked of a number, its shape and what is
-- known of it (WIT.md, "Types", "Functions" and "Interfaces").
use Rattle.std.specs.Prelude.{◌≡◌, ℕ, ◌+◌, min, Bool, true, false, not, ◌&&◌, ◌||◌, ◌==◌, nat_le, if◌then◌else◌, List, [], ◌∷◌, ◌++◌, map, Option, Some, None, option_and_then, slice_get, codes}
use Rattle.std.specs.{List.list_all, List.list_any, Option.option_map_or}
use Rattle.wit_model.specs.Text.{Text, text_eq}
use Rattle.wit_model.specs.{Names.is_label, Names.constructor_name, Names.method_name, Names.static_name, Tree.Form, Tree.Tree, Tree.Trees}
use Rattle.comp_meaning.specs.Rules.{are_labels, distinct, form_labels, is_label_behind, most_levels, are_parts}
use Rattle.plan_meaning.specs.{Shapes.Shape, Shapes.first_label, Shapes.IsTable, Plan.part_number}
use Rattle.plan_meaning.specs.NumberedViews.{FunctionShape, Tables, place_at, tree_at, function_at, signature_over, IsPart, HasNameIn, NumberedType, NumberedView, view_of, declaration_of, AllOf, PartsOf, ViewPasses}
use Rattle.wit_model.specs.Tree as tree
use Rattle.comp_meaning.specs.Rules as rules

-- ---- what is known of a part

-- where the names in it stand: there is none, all are of the place of this number, or they are of several
pub data Standing : Type 0 where
  nowhere : Standing
  in_place : ℕ → Standing
  in_several : Standing

-- What is known of a part beside its shape: its levels, but 102 where there are more, and where its names stand. It is also known whether
-- no form in it, or none below its own, is one that only a named type has. Whether its own labels are labels of which none stands twice is
-- known too.
pub record Fact : Type 0 where
  pub levels : ℕ
  pub names : Standing
  pub is_plain : Bool
  pub has_plain_parts : Bool
  pub has_good_labels : Bool

abbrev pub most_counted : ℕ
most_counted = 102

abbrev pub stand_in_place : ℕ → Standing → Bool
stand_in_place p nowhere = true
stand_in_place p (in_place q) = p == q
stand_in_place p in_several = false

-- ---- shapes

abbrev pub shape_at : Tables → ℕ → Option Shape
shape_at t k = option_and_then (slice_get t.shapes) (part_number k)

-- the place and the name of a shape that is a name
abbrev pub name_in : Shape → Option (ℕ × Text)
name_in s = if s.sort == 0 then Some (s.number, first_label s.labels) else None

abbrev pub name_at : Tables → ℕ → Option (ℕ × Text)
name_at t k = option_and_then name_in (shape_at t k)

abbrev pub is_form : Tables → ℕ → Bool
is_form t k = option_map_or (λ s. not (s.sort == 0)) (shape_at t k) false

abbrev pub only_of : List ℕ → Option ℕ
only_of (k ∷ []) = Some k
only_of _ = None

-- the part of a handle of this sort
abbrev pub held_in : ℕ → Shape → Option ℕ
held_in sort s = if s.sort == sort then only_of s.parts else None

abbrev pub own_sort : ℕ
own_sort = 6

abbrev pub borrow_sort : ℕ
borrow_sort = 7

abbrev pub first_of : List ℕ → Option ℕ
first_of [] = None
first_of (k ∷ ks) = Some k

-- what a result gives where it succeeds
abbrev pub ok_in : Shape → Option ℕ
ok_in s = if s.sort == 12 && (s.number == 1 || s.number == 3) then first_of s.parts else None

-- ---- rules

-- a type as a part of another, or of a function
abbrev pub is_part : ℕ → Fact → Bool
is_part p f = f.is_plain && stand_in_place p f.names

abbrev pub is_parameter_type : ℕ → Fact → Bool
is_parameter_type p f = is_part p f && nat_le f.levels most_levels

-- a form that a name may be declared as: the form itself may be one that only a named type has
abbrev pub is_declared_form : ℕ → Fact → Bool
is_declared_form p f = f.has_good_labels && (f.has_plain_parts && stand_in_place p f.names) && nat_le f.levels (most_levels + 1)

module _ (t : Tables) (known : ℕ → Fact) (p : ℕ) where
  -- what a name may be declared as: a resource, a primitive, another name, or a form
  abbrev pub is_declared : Option ℕ → Bool
  is_declared None = true
  is_declared (Some k) = not (is_form t k) || is_declared_form p (known k)

  abbrev pub is_result_type : Option ℕ → Bool
  is_result_type None = true
  is_result_type (Some k) = is_parameter_type p (known k)

  abbrev pub is_signature : FunctionShape → Bool
  is_signature f = are_labels (map (λ x. x.0) f.params) && list_all (λ x. is_parameter_type p (known x.1)) f.params && is_result_type f.result

  -- the name in the place
  abbrev pub is_name : Text → ℕ → Bool
  is_name name k = option_map_or (λ x. x.0 == p && text_eq x.1 name) (name_at t k) false

  -- a handle of this sort of the resource of this name
  abbrev pub is_handle : ℕ → Text → ℕ → Bool
  is_handle sort resource k = option_map_or (is_name resource) (option_and_then (held_in sort) (shape_at t k)) false

  -- the first parameter of a method is the resource, lent
  abbrev pub begins_with_self : Text → List (Text × ℕ) → Bool
  begins_with_self resource [] = false
  begins_with_self resource (x ∷ xs) = text_eq x.0 (codes "self") && is_handle borrow_sort resource x.1

  -- a constructor gives the resource, or a result whose ok is the resource
  abbrev pub constructs : Text → Option ℕ → Bool
  constructs resource None = false
  constructs resource (Some k) = option_map_or (is_handle own_sort resource) (option_and_then ok_in (shape_at t k)) (is_handle own_sort resource k)

  abbrev pub is_function_of : Text → FunctionShape → Text → Bool
  is_function_of name f resource =
      (text_eq name (constructor_name resource) && not f.is_async && constructs resource f.result)
      || (is_label_behind (method_name resource []) name && begins_with_self resource f.params)
      || is_label_behind (static_name resource []) name

  abbrev pub is_function : List Text → Text → FunctionShape → Bool
  is_function resources name f = is_signature f && (is_label name || list_any (is_function_of name f) resources)

  -- ---- interfaces

  abbrev pub is_type : NumberedType → Bool
  is_type x = is_label x.name && is_declared x.declared

-- the names of the types that are resources
abbrev pub is_no_part : Option ℕ → Bool
is_no_part None = true
is_no_part (Some k) = false

abbrev pub resources_of : List NumberedType → List Text
resources_of [] = []
resources_of (x ∷ xs) = if is_no_part x.declared then x.name ∷ resources_of xs else resources_of xs

-- what an interface whose place has this number may have
abbrev pub is_interface : Tables → (ℕ → Fact) → ℕ → NumberedView → Bool
is_interface t known p v =
    list_all (is_type t known p) v.types
    && list_all (λ f. is_function t known p (resources_of v.types) f.0 (function_at t f.1.signature)) v.functions
    && distinct (map (λ x. x.name) v.types ++ map (λ f. f.0) v.functions)

-- ---- what is known is true

-- What is known of a part is true of the tree that it stands for, as it is seen from the place.
pub record Tells (t : Tables) (p k : ℕ) (f : Fact) : Type 0 where
  pub levels : f.levels ≡ min most_counted (tree.levels (tree_at t k))
  pub part : is_part p f ≡ rules.is_part (place_at t p) (tree_at t k)
  pub labels : (form : Form) (ts : Trees) → tree_at t k ≡ Tree.node form ts → f.has_good_labels ≡ are_labels (form_labels form)
  pub parts : (form : Form) (ts : Trees) → tree_at t k ≡ Tree.node form ts → (f.has_plain_parts && stand_in_place p f.names) ≡ are_parts (place_at t p) ts

-- A name in the part that is of the place has its number.
abbrev pub IsSeenFrom : Tables → ℕ → ℕ → Type 0
IsSeenFrom t p k = (q : ℕ) → HasNameIn t.shapes k q → place_at t q ≡ place_at t p → q ≡ p

-- a part of the tables, of which the truth is known as it is seen from the place
pub record IsKnown (t : Tables) (known : ℕ → Fact) (p k : ℕ) : Type 0 where
  pub part : IsPart t k
  pub tells : Tells t p k (known k)
  pub seen : IsSeenFrom t p k

-- ---- laws

-- Each rule has the same answer in numbers.
pub record RulesInNumbers (t : Tables) (known : ℕ → Fact) (p : ℕ) : Type 0 where
  pub declared : (d : Option ℕ) → AllOf (IsKnown t known p) d → rules.is_declared (place_at t p) (declaration_of t d) ≡ is_declared t known p d
  pub signature : (f : FunctionShape) → PartsOf (IsKnown t known p) f
      → rules.is_signature (place_at t p) (signature_over (tree_at t) f) ≡ is_signature t known p f
  pub function : (resources : List Text) (name : Text) (f : FunctionShape) → PartsOf (IsKnown t known p) f
      → rules.is_function (place_at t p) resources name (signature_over (tree_at t) f) ≡ is_function t known p resources name f
  pub interface : (v : NumberedView) → ViewPasses t (IsKnown t known p) v → rules.is_interface (place_at t p) (view_of t v) ≡ is_interface t known p v

abbrev pub EachRuleInNumbers : Type 0
EachRuleInNumbers = (t : Tables) → IsTable t.shapes → (known : ℕ → Fact) (p : ℕ) → RulesInNumbers t known p
