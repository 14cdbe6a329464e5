-- Views in numbers: the places that they are over, the numbers of their names, and the order of these.
use Rattle.std.proofs.Common.{rules as std_rules, ◌≡◌, inl, inr, refl, sym, ap, ◌∙◌, subst, ℕ, zero, suc, ◌+◌, ◌<◌, ◌&&◌, arith, true, ◌||◌, List, [], ◌∷◌, map, length, Option, Some, IfSome, option_map, slice_get, unwrap_or}
use Rattle.std.proofs.{Math.ListN.length-map, lemmas.Bool.lt-ltb}
use Rattle.std.specs.{Prelude.nat_lt, List.AllByRecursion, List.AllZip, List.list_all, List.list_any}
use Rattle.wit_model.specs.{Meaning.Signature, Text.Text, Text.text_eq, Tree.Place, Tree.Tree}
use Rattle.wit_model.proofs.VersionLaws.{same_text}
use Rattle.comp_meaning.specs.Rules.{distinct}
use Rattle.plan_meaning.specs.NumberedViews.{function_at, AllOf, FunctionPasses, NumberedType, PartsOf, Tables, TypePasses}
use Rattle.plan_meaning.specs.{PlanRules.are_rising, Shapes.Shape, Shapes.part_tree, Shapes.shape_trees, Shapes.IsTable}
use Rattle.read_follow.specs.declared.{slots.Slot.Slot, views.ShownFunction.ShownFunction, views.ShownType.ShownType, views.View.View}
use Rattle.read_follow.specs.Following.{declared_in, shown_function, shown_type, IsShownFunctionIn, IsShownIn}
use Rattle.read_follow.specs.Functions.{functions_in, param_tree, signature_in, AreFunctionsIn, FunctionShape, IsFunctionIn}
use Rattle.read_follow.specs.Placed.{apart, slot_part, ComesBehind, DeclarationOver, FunctionOver, IsTypeNamed, MayMeet, Rise, SignatureOver, TreeOver, TypeOver, ViewOver}
use Rattle.read_follow.specs.{Places.has_path, Scopes.view_in, Slots.no_signature}
use Rattle.read_follow.proofs.DefiningLaws.{all_at}
use Rattle.read_numbers.specs.NumberedParts.{numbered_function, numbered_shown_function, numbered_slot, numbered_type, numbered_view, tables_in}
use Rattle.read_numbers.specs.PlacedNumbers.{part_of, IsMetPart, IsNumbered, IsPlacedView, IsRisingView}
use Rattle.read_numbers.proofs.MetNumbers.{met_from}
use Rattle.base_lemmas.proofs.Lists.{mapped_get, within_there as slice_there}
use Rattle.comp_meaning.proofs.RulesLemmas.{not_twice}
use Rattle.plan_meaning.specs.NumberedViews as views

-- ---- the numbers of names

pub slot_number : (s : Slot) → part_of (numbered_slot s) ≡ slot_part s
slot_number x = search std_rules

module _ (shapes : List Shape) (fs : List FunctionShape) (paths : List (Option Text)) (place : ℕ) where
  abbrev t : Tables
  t = tables_in shapes fs paths

  abbrev pub numbers_of : (ts : List ShownType) → AllByRecursion (IsTypeNamed shapes place) ts → List ℕ
  numbers_of [] h = []
  numbers_of (x ∷ ts) h = h.0.number ∷ numbers_of ts h.1

  pub are_numbered : (ts : List ShownType) (h : AllByRecursion (IsTypeNamed shapes place) ts) → AllZip (IsNumbered t place) (map numbered_type ts) (numbers_of ts h)
  are_numbered [] h = tt
  are_numbered (x ∷ ts) h = ((slot_number x.slot ∙ h.0.is, h.0.at), are_numbered ts h.1)

  number_at : (ts : List ShownType) (h : AllByRecursion (IsTypeNamed shapes place) ts) (i n : ℕ) → slice_get (numbers_of ts h) i ≡ Some n → (x : ShownType) × (slice_get ts i ≡ Some x)
      × (slot_part x.slot ≡ 14 + n)
  number_at [] h i n e = absurd cc
  number_at (x ∷ ts) h zero n e = let same : h.0.number ≡ n = cc in (x, refl, h.0.is ∙ ap (λ m. 14 + m) same)
  number_at (x ∷ ts) h (suc i) n e = number_at ts h.1 i n e

-- ---- order

all_above : (n : ℕ) (ns : List ℕ) → ((i m : ℕ) → slice_get ns i ≡ Some m → n < m) → list_all (nat_lt n) ns ≡ true
all_above n [] f = refl
all_above n (m ∷ ns) f = λ i. lt-ltb n m (f 0 m refl) i && all_above n ns (λ j k e. f (suc j) k e) i

rising_numbers : (ns : List ℕ) → ((i j m n : ℕ) → slice_get ns i ≡ Some m → slice_get ns j ≡ Some n → i < j → m < n) → are_rising ns ≡ true
rising_numbers [] f = refl
rising_numbers (n ∷ ns) f = λ i. all_above n ns (λ j m e. f 0 (suc j) n m refl e (omega arith)) i && rising_numbers ns (λ j k m l e g less. f (suc j) (suc k) m l e g (omega (arith, less))) i

any_there : (x : Text) (xs : List Text) (j : ℕ) → slice_get xs j ≡ Some x → list_any (text_eq x) xs ≡ true
any_there x [] j e = absurd cc
any_there x (y ∷ xs) zero e = let same : y ≡ x = cc in ap (λ b. b || list_any (text_eq x) xs) (same_text x y (sym same))
any_there x (y ∷ xs) (suc j) e = search (std_rules, any_there x xs j e)

name_at : (ts : List ShownType) (j : ℕ) (x : ShownType) → slice_get ts j ≡ Some x → slice_get (map (λ (y : NumberedType). y.name) (map numbered_type ts)) j ≡ Some x.name.now
name_at [] j x e = absurd cc
name_at (y ∷ ts) zero x e = let same : y ≡ x = cc in ap (λ (z : ShownType). Some z.name.now) same
name_at (y ∷ ts) (suc j) x e = name_at ts j x e

pub all_of : (P : ℕ → Type 0) (o : Option ℕ) → IfSome o P → AllOf P o
all_of x y h = search std_rules

module _ (shapes : List Shape) (fs : List FunctionShape) (paths : List (Option Text)) (place : ℕ) where
  module _ (ts : List ShownType) (h : AllByRecursion (IsTypeNamed shapes place) ts) (rise : Rise ts) (apart_names : distinct (map (λ (y : NumberedType). y.name) (map numbered_type ts)) ≡ true) where
    come_behind : (j : ℕ) (x : ShownType) → slice_get ts j ≡ Some x → ComesBehind ts j x
    come_behind j x e = elim (rise j x e) [
      | inl r ↦ absurd (not_twice (map (λ (y : NumberedType). y.name) (map numbered_type ts)) apart_names r.number j x.name.now r.earlier (name_at ts r.number r.other r.at ∙ ap Some r.same)
          (name_at ts j x e))
      | inr b ↦ b
    ]

    numbers_rise : are_rising (numbers_of shapes fs paths place ts h) ≡ true
    numbers_rise = rising_numbers (numbers_of shapes fs paths place ts h) (λ i j m n e f less.
        let x = number_at shapes fs paths place ts h i m e in
        let y = number_at shapes fs paths place ts h j n f in
        let low = (come_behind j y.0 y.1).others i x.0 x.1 less in
        let a = x.2 in
        let b = y.2 in
        omega (arith, low, a, b))

    declared_low : (us : List ShownType) (g : AllByRecursion (IsTypeNamed shapes place) us) → ((j : ℕ) (x : ShownType) → slice_get us j ≡ Some x → IfSome x.declared (λ k. k < slot_part x.slot))
        → AllZip (λ (x : NumberedType) n. AllOf (λ k. k < 14 + n) x.declared) (map numbered_type us) (numbers_of shapes fs paths place us g)
    declared_low [] g f = tt
    declared_low (x ∷ us) g f = (all_of (λ k. k < 14 + g.0.number) x.declared (subst (λ m. IfSome x.declared (λ k. k < m)) g.0.is (f 0 x refl)), declared_low us g.1 (λ j y e. f (suc j) y e))

    pub rising_view : (v : View) → v.types.items ≡ ts → IsRisingView (tables_in shapes fs paths) place (numbered_view v)
    rising_view v same = subst (λ (us : List ShownType). IsRisingView (tables_in shapes fs paths) place
        (record { types = map numbered_type us; functions = map numbered_shown_function v.functions.items })) (sym same) (record {
          numbers = numbers_of shapes fs paths place ts h;
          named = are_numbered shapes fs paths place ts h;
          rise = numbers_rise;
          behind = declared_low ts h (λ j x e. (come_behind j x e).declared);
        })

-- ---- parts

module _ (shapes : List Shape) (fs : List FunctionShape) (paths : List (Option Text)) (table : IsTable shapes) (ranges : AreFunctionsIn (length shapes) fs) (place : ℕ) where
  abbrev tabled : Tables
  tabled = tables_in shapes fs paths

  abbrev T : List Tree
  T = shape_trees apart shapes

  abbrev P : Place → Type 0
  P = MayMeet (map has_path paths) place

  part_met : (k : ℕ) → k < 14 + length shapes → TreeOver P (part_tree T k) → IsMetPart tabled place k
  part_met k range over = (range, met_from shapes fs paths table place k over)

  pub declared_met : (d : Option ℕ) → IfSome d (λ k. k < 14 + length shapes) → DeclarationOver P (declared_in T d) → AllOf (IsMetPart tabled place) d
  declared_met x range over = search (std_rules, part_met)

  params_met : (ps : List (Text × ℕ)) → AllByRecursion (λ (p : Text × ℕ). p.1 < 14 + length shapes) ps → AllByRecursion (λ (p : Text × Tree). TreeOver P p.1) (map (param_tree T) ps)
      → AllByRecursion (λ (p : Text × ℕ). IsMetPart tabled place p.1) ps
  params_met [] range over = tt
  params_met (p ∷ ps) range over = (part_met p.1 range.0 over.0, params_met ps range.1 over.1)

  result_met : (o : Option ℕ) → IfSome o (λ k. k < 14 + length shapes) → IfSome (option_map (part_tree T) o) (TreeOver P) → AllOf (IsMetPart tabled place) o
  result_met x range over = search (std_rules, part_met)

  shape_met : (g : FunctionShape) → IsFunctionIn (length shapes) g → SignatureOver P (signature_in T g) → PartsOf (IsMetPart tabled place) (numbered_function g)
  unfolding signature_in
  shape_met g range over = (params_met g.params range.params over.0, result_met g.outcome range.outcome over.1)

  pub function_met : (f : ℕ) → f < length fs → SignatureOver P (unwrap_or (slice_get (functions_in T fs) f) no_signature) → (f < length tabled.functions)
      × PartsOf (IsMetPart tabled place) (function_at tabled f)
  function_met f below over =
      let g = slice_there fs f below in
      let there : function_at tabled f ≡ numbered_function g.0 = ap (λ o. unwrap_or o views.no_function) (mapped_get numbered_function fs f g.0 g.1) in
      let long = length-map fs numbered_function in (
        omega (arith, below, long),
        subst (λ (x : views.FunctionShape). PartsOf (IsMetPart tabled place) x) (sym there)
            (shape_met g.0 (all_at (IsFunctionIn (length shapes)) fs f g.0 ranges g.1)
            (subst (λ (x : Signature). SignatureOver P x) (ap (λ o. unwrap_or o no_signature) (mapped_get (signature_in T) fs f g.0 g.1)) over)),
      )

  types_met : (ts : List ShownType) → AllByRecursion (IsShownIn shapes fs) ts → AllByRecursion (TypeOver P) (map (shown_type T (functions_in T fs)) ts)
      → AllByRecursion (TypePasses (IsMetPart tabled place)) (map numbered_type ts)
  types_met [] h over = tt
  types_met (x ∷ ts) h over = (declared_met x.declared h.0.declared over.0, types_met ts h.1 over.1)

  functions_met : (gs : List ShownFunction) → AllByRecursion (IsShownFunctionIn fs) gs → AllByRecursion (FunctionOver P) (map (shown_function (functions_in T fs)) gs)
      → AllByRecursion (FunctionPasses tabled (IsMetPart tabled place)) (map numbered_shown_function gs)
  functions_met [] h over = tt
  functions_met (g ∷ gs) h over = (function_met g.function h.0 over.0, functions_met gs h.1 over.1)

  pub placed_view : (v : View) → AllByRecursion (IsShownIn shapes fs) v.types.items → AllByRecursion (IsShownFunctionIn fs) v.functions.items → ViewOver P (view_in T (functions_in T fs) v)
      → AllByRecursion (IsTypeNamed shapes place) v.types.items → IsPlacedView tabled place (numbered_view v)
  placed_view v ht hf over named = search (std_rules, types_met v.types.items ht over.types, functions_met v.functions.items hf over.functions, are_numbered shapes fs paths place v.types.items named)
