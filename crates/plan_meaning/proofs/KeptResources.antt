-- The numbers of a plan that are resources are those of the parts that are marked.
use Rattle.std.proofs.Common.{◌≡◌, refl, sym, ap, subst, ◌∙◌, ℕ, zero, suc, ◌+◌, ◌-◌, ◌<◌, arith, Bool, true, false, not, cond, List, length, take, filter_map, Option, Some, None, slice_get, unwrap_or}
use Rattle.std.proofs.lemmas.Bool.{lt-ltb}
use Rattle.std.specs.{List.AllZip, List.list_all, Option.option_map_or}
use Rattle.wit_model.specs.{Text.Text, Tree.Form}
use Rattle.wit_model.proofs.Tables.{grow_at}
use Rattle.plan_meaning.specs.Plan.{Plan, PlannedKind, resource, alias, formed, PlannedType, part_number, marked_at, resource_marks, is_resource, function_parts}
use Rattle.plan_meaning.specs.{PlanRules.handles_resources, PlanRules.is_handle_form, NumberedViews.Tables, NumberedViews.AreTables, NumberedViews.AllOf}
use Rattle.plan_meaning.specs.Renumbering.{IsPart, a_primitive, a_shape}
use Rattle.plan_meaning.specs.{Shapes.named_shape, KeptTypes.alone, KeptTypes.IsKeptType, KeptTypes.unnamed, KeptTypes.declared, KeptTypes.TypesAreKept}
use Rattle.plan_meaning.specs.GatheredPlan.{Becomes, DeclaresKind, a_resource, a_form}
use Rattle.plan_meaning.specs.KeptResources.{MarkedBy, FormIsMarked, AreMarked, ResourcesStand, KeptResourcesStand}
use Rattle.plan_meaning.proofs.{KeptParts.shape_parts, KeptParts.all_parts, KeptParts.function_zip, KeptParts.numbers_pass, KeptParts.kept_at, Words.behind}
use Rattle.plan_meaning.proofs.KeptTypes.{form_of_name}
use Rattle.base_lemmas.proofs.{Elements.all_by_number, Elements.all-contained, Elements.all_pass, Elements.all_at, Lists.slice_take}
use Rattle.plan_meaning.specs.GatheredPlan as gathered

module _ (t : Tables) (tables : AreTables t) (kept : List ℕ) (p : Plan) (are : TypesAreKept t kept p) (marks : ℕ → Bool) (marked : AreMarked t kept p marks) where
  abbrev all_marks : List Bool
  all_marks = resource_marks p

  -- the mark of a kind, from those of smaller numbers
  marked_kind : List Bool → PlannedKind → Bool
  marked_kind table resource = true
  marked_kind table (alias k) = option_map_or (λ m. unwrap_or (slice_get table m) false) (part_number k) false
  marked_kind table (formed form ks) = false

  mark_there : (j : ℕ) (x : PlannedType) → slice_get p.types j ≡ Some x → is_resource p j ≡ marked_kind (take j all_marks) x.kind
  unfolding resource_marks marked_kind
  mark_there j x e = ap (λ o. unwrap_or o false) (grow_at marked_at p.types j x e)

  -- each smaller number has the mark of the part that it comes from
  abbrev Smaller : ℕ → Type 0
  Smaller j = (i n : ℕ) → i < j → i < length p.types → slice_get kept i ≡ Some n → is_resource p i ≡ marks (14 + n)

  module _ (j n : ℕ) (smaller : Smaller j) (x : PlannedType) (e : slice_get p.types j ≡ Some x) (stands : slice_get kept j ≡ Some n) where
    alias_mark : (old new : ℕ) → old < 14 + n → Becomes t kept p old new → option_map_or (λ m. unwrap_or (slice_get (take j all_marks) m) false) (part_number new) false ≡ marks old
    alias_mark old new low b = by b.part
      where
        by : IsPart kept old new → option_map_or (λ m. unwrap_or (slice_get (take j all_marks) m) false) (part_number new) false ≡ marks old
        by (a_primitive small same) = ap (λ c. option_map_or (λ m. unwrap_or (slice_get (take j all_marks) m) false) (cond c None (Some (new - 14))) false) (lt-ltb new 14 (omega (arith, small, same)))
            ∙ sym (marked.primitives old small)
        by (a_shape m i from there to) =
            let before : i < j = are.rise i j m n there stands (omega (arith, from, low)) in
            ap (λ o. option_map_or (λ k. unwrap_or (slice_get (take j all_marks) k) false) o false) (ap part_number to ∙ behind i)
            ∙ (ap (λ o. unwrap_or o false) (slice_take all_marks j i before) ∙ (smaller i m before (omega (arith, b.range, to)) there ∙ ap marks (sym from)))

    kind_mark : (d : Option ℕ) → AllOf (λ k. k < 14 + n) d → DeclaresKind t kept p d x.kind → MarkedBy t kept p marks x.kind (marks (14 + n)) → marked_kind (take j all_marks) x.kind ≡ marks (14 + n)
    unfolding marked_kind
    kind_mark d low (a_resource none k) is = ap (marked_kind (take j all_marks)) k ∙ sym (subst (λ kind. MarkedBy t kept p marks kind (marks (14 + n))) k is)
    kind_mark d low (gathered.a_name old new some no_form b k) is =
        ap (marked_kind (take j all_marks)) k ∙ (alias_mark old new (subst (AllOf (λ y. y < 14 + n)) some low) b ∙ sym (subst (λ kind. MarkedBy t kept p marks kind (marks (14 + n))) k is old b))
    kind_mark d low (a_form old m form olds news some from there z k) is = ap (marked_kind (take j all_marks)) k ∙ sym (subst (λ kind. MarkedBy t kept p marks kind (marks (14 + n))) k is)

    type_mark : IsKeptType t kept p n x → marked_kind (take j all_marks) x.kind ≡ marks (14 + n)
    unfolding marked_kind
    type_mark (unnamed place form olds news there z name owner kind part low) = ap (marked_kind (take j all_marks)) kind ∙ sym (marked.forms n form olds (alone j x e stands) there).0
    type_mark (declared q name d there named home kind before good obeys) = kind_mark d before kind (marked.names j n x q name e stands there)

  marks_are : (fuel j n : ℕ) → j < fuel → j < length p.types → slice_get kept j ≡ Some n → is_resource p j ≡ marks (14 + n)
  marks_are zero j n h low stands = absurd (omega (arith, h))
  marks_are (suc fuel) j n h low stands =
      let found = kept_at t kept p are j n low stands in
      mark_there j found.0 found.1 ∙ type_mark j n (λ i m less within there. marks_are fuel i m (omega (arith, less, h)) within there) found.0 found.1 stands found.2

  -- ---- parts

  parts_tested : (test : Bool → Bool) (olds news : List ℕ) → AllZip (Becomes t kept p) olds news → list_all (λ k. test (marks k)) olds ≡ true
      → list_all (λ m. test (is_resource p m)) (filter_map part_number news) ≡ true
  parts_tested test olds news z h = numbers_pass t kept p olds news z (λ m. test (is_resource p m)) (λ old c i m from at range.
      ap test (marks_are (suc i) i m (omega arith) range at ∙ ap marks (sym from)) ∙ all-contained (λ k. test (marks k)) olds old h c)

  form_handles : (form : Form) (olds news : List ℕ) → AllZip (Becomes t kept p) olds news → FormIsMarked marks form olds → handles_resources p (formed form news) ≡ true
  form_handles form olds news z is = by (is_handle_form form) refl
    where
      by : (b : Bool) → is_handle_form form ≡ b
          → cond (is_handle_form form) (list_all (is_resource p) (filter_map part_number news)) (list_all (λ m. not (is_resource p m)) (filter_map part_number news)) ≡ true
      by true e = ap (λ b. cond b (list_all (is_resource p) (filter_map part_number news)) (list_all (λ m. not (is_resource p m)) (filter_map part_number news))) e ∙ parts_tested (λ b. b) olds news z
          (is.handle e)
      by false e =
          ap (λ b. cond b (list_all (is_resource p) (filter_map part_number news)) (list_all (λ m. not (is_resource p m)) (filter_map part_number news))) e ∙ parts_tested not olds news z (is.other e)

  module _ (j n : ℕ) (x : PlannedType) (e : slice_get p.types j ≡ Some x) (stands : slice_get kept j ≡ Some n) where
    kind_handles : (q : ℕ) (name : Text) → slice_get t.shapes n ≡ Some (named_shape q name) → (d : Option ℕ) → DeclaresKind t kept p d x.kind → handles_resources p x.kind ≡ true
    kind_handles q name there d kind = by kind
      where
        by : DeclaresKind t kept p d x.kind → handles_resources p x.kind ≡ true
        by (a_resource none k) = ap (handles_resources p) k
        by (gathered.a_name old new some no_form b k) = ap (handles_resources p) k
        by (a_form old m form olds news some from there_form z k) =
            ap (handles_resources p) k ∙ form_handles form olds news z (marked.forms m form olds (form_of_name t tables kept p are j n x e stands q name there d kind old m some from) there_form).1

    type_handles : IsKeptType t kept p n x → handles_resources p x.kind ≡ true
    type_handles (unnamed place form olds news there z name owner kind part low) = ap (handles_resources p) kind ∙ form_handles form olds news z (marked.forms n form olds (alone j x e stands) there).1
    type_handles (declared q name d there named home kind before good obeys) = kind_handles q name there d kind

  stand : ResourcesStand t kept p marks
  stand = record {
    handles = all_by_number (λ x. handles_resources p x.kind) p.types (λ j x e. let is = are.each j x e in type_handles j is.0 x e is.1 is.2);
    functions = λ f id g b v. parts_tested not (shape_parts f) (function_parts g) (function_zip t kept p f id g b)
        (all_pass (λ k. not (marks k)) (shape_parts f) (λ k c. ap not (all_at (λ k. marks k ≡ false) (shape_parts f) (all_parts (λ k. marks k ≡ false) f v) k c)));
  }

pub kept_resources_stand : KeptResourcesStand
kept_resources_stand t tables kept p are marks marked = stand t tables kept p are marks marked
