-- Kinds of the types of a plan, by the shapes of the types that are kept (WIT.md, "Types"; Binary.md, "Type Definitions").
use Rattle.std.specs.Prelude.{◌≡◌, ◌≤◌, ℕ, ◌+◌, Bool, true, false, ◌==◌, List, [], ◌∷◌, length, Option, Some, None, is_some}
use Rattle.std.specs.List.{AllByRecursion, AllZip}
use Rattle.wit_model.specs.declared.model.«Type».{«Type» as ValueType}
use Rattle.wit_model.specs.{Text.Text, Tree.Form}
use Rattle.plan_meaning.specs.{Built.given_parts, PlanRules.is_handle_form, Renumbering.IsPart}
use Rattle.plan_meaning.specs.{GatheredPlan.DeclaresKind, NumberedRules.is_form, NumberedRules.shape_at, NumberedViews.AreTables, NumberedViews.Tables}
use Rattle.plan_meaning.specs.{Plan.Plan, Plan.PlannedKind, Plan.alias, Plan.formed, Plan.resource, Shapes.Shape, Shapes.code, Shapes.form_of, Shapes.one_mark}
use Rattle.plan_parts.specs.Kept.{IsKeptPart}

-- ---- forms over parts

-- how many have a part
abbrev pub given_count : List (Text × Bool) → ℕ
given_count [] = 0
given_count ((l, true) ∷ ls) = 1 + given_count ls
given_count ((l, false) ∷ ls) = given_count ls

-- how many parts the form has: a tuple may have any number
abbrev pub has_count : Form → ℕ → Bool
has_count (Form.record_of names) n = n == length names
has_count (Form.variant_of cases) n = n == given_count cases
has_count Form.list_of n = n == 1
has_count (Form.fixed_list_of length) n = n == 1
has_count Form.option_of n = n == 1
has_count Form.own_of n = n == 1
has_count Form.borrow_of n = n == 1
has_count Form.map_of n = n == 2
has_count Form.tuple_of n = true
has_count (Form.flags_of names) n = n == 0
has_count (Form.enum_of names) n = n == 0
has_count (Form.result_of ok err) n = n == one_mark ok + one_mark err
has_count (Form.future_of some) n = n == one_mark some
has_count (Form.stream_of some) n = n == one_mark some

-- the form of a shape that is no name
abbrev pub shape_form : Shape → Form
shape_form s = form_of (code s.sort s.number s.labels)

-- A form over as many parts as it has, each a type that is kept, where a handle is of a type that is no primitive.
pub record IsFormOver (kept : List ℕ) (s : Shape) : Type 0 where
  pub low : 1 ≤ s.sort
  pub high : s.sort ≤ 14
  pub count : has_count (shape_form s) (length s.parts) ≡ true
  pub parts : AllByRecursion (IsKeptPart kept) s.parts
  pub handle : is_handle_form (shape_form s) ≡ true → AllByRecursion (λ k. 14 ≤ k) s.parts

-- the form over the new numbers of its parts
pub record IsFormed (kept : List ℕ) (s : Shape) (kind : PlannedKind) : Type 0 where
  pub news : List ℕ
  pub parts : AllZip (IsPart kept) s.parts news
  pub is : kind ≡ formed (shape_form s) news

-- what a future or a stream gives, over the new number of its part
pub record IsGiven (kept : List ℕ) (s : Shape) (given : Option ValueType) : Type 0 where
  pub there : is_some given ≡ (s.number == 1)
  pub parts : AllZip (IsPart kept) s.parts (given_parts (given ∷ []))

-- the numbers of the forms that have labels, and of those over a part or two
pub data IsLabelledSort (sort : ℕ) : Type 0 where
  a_record : sort ≡ 1 → IsLabelledSort sort
  a_variant : sort ≡ 2 → IsLabelledSort sort
  flags : sort ≡ 10 → IsLabelledSort sort
  an_enum : sort ≡ 11 → IsLabelledSort sort

abbrev pub IsSimpleSort : ℕ → Type 0
IsSimpleSort sort = (3 ≤ sort) × (sort ≤ 8)

-- ---- what is declared

-- the shape of a part that is a form
abbrev pub IsFormAt : Tables → ℕ → Option Shape → Type 0
IsFormAt t k None = is_form t k ≡ false
IsFormAt t k (Some s) = (is_form t k ≡ true) × (shape_at t k ≡ Some s)

-- the kind of a type that declares this: a resource, another name for a part, or a form over the new numbers of its parts
pub data IsKindFor (t : Tables) (kept : List ℕ) (d : Option ℕ) (kind : PlannedKind) : Type 0 where
  a_resource : d ≡ None → kind ≡ resource → IsKindFor t kept d kind
  a_name : (old new : ℕ) → d ≡ Some old → is_form t old ≡ false → IsPart kept old new → kind ≡ alias new → IsKindFor t kept d kind
  a_form : (old : ℕ) (s : Shape) → d ≡ Some old → is_form t old ≡ true → shape_at t old ≡ Some s → IsFormed kept s kind → IsKindFor t kept d kind

-- it declares a resource, a part that is kept, or a form over such
pub data MayBeDeclared (t : Tables) (kept : List ℕ) (d : Option ℕ) : Type 0 where
  nothing : d ≡ None → MayBeDeclared t kept d
  a_part : (k : ℕ) → d ≡ Some k → is_form t k ≡ false → IsKeptPart kept k → MayBeDeclared t kept d
  over_parts : (k : ℕ) (s : Shape) → d ≡ Some k → is_form t k ≡ true → shape_at t k ≡ Some s → IsFormOver kept s → MayBeDeclared t kept d

-- ---- laws

-- A type of such a kind declares what the plan's type of it says, where the plan has a type for each that is kept.
abbrev pub KindsAreDeclared : Type 0
KindsAreDeclared = (t : Tables) → AreTables t → (kept : List ℕ) (p : Plan) → length p.types ≡ length kept → (d : Option ℕ) (kind : PlannedKind)
    → IsKindFor t kept d kind → DeclaresKind t kept p d kind
