-- The kinds of functions by their names: of one resource alone, as what may stand behind some resources is.
use Rattle.std.proofs.Common.{rules as std_rules, ◌≡◌, refl, sym, ap, subst, ◌∙◌, ℕ, zero, suc, ◌+◌, ◌<◌, arith, Bool, true, false, not, ◌&&◌, ◌||◌, ◌⊎◌, inl, inr, List, [], ◌∷◌, ◌++◌, length, map, take, get_or, Option, Some, None, codes, append_assoc}
use Rattle.std.proofs.lemmas.{List.take_more, List.map-append, Option.slice_get_within, Bool.or_cases as either_true, Map.Keys.any_passes_from_place as get_any}
use Rattle.std.proofs.lemmas.Slice.Eq.{bytes_eq-Decides}
use Rattle.std.specs.{Borrow.Bor, List.AllByRecursion, List.AllZip, List.list_any, Option.option_map_or}
use Rattle.wit_model.specs.declared.model.{FunctionKind.FunctionKind, TypeId.TypeId, TypeOwner.TypeOwner, «Type».«Type» as ValueType}
use Rattle.wit_model.specs.{Lookup.is_async, Lookup.resource_of, Names.constructor_name, Names.is_label, Names.method_name, Names.static_name}
use Rattle.wit_model.specs.{Rules.after_prefix, Text.Text, Text.text_eq}
use Rattle.wit_model.proofs.{Elements.zip-push, Prefixes.after_sound as prefix_back}
use Rattle.comp_meaning.specs.Rules.{is_label_behind}
use Rattle.plan_meaning.specs.Built.{part_of}
use Rattle.plan_meaning.specs.{GatheredPlan.Becomes, GatheredPlan.BecomesIfGiven, GatheredPlan.ParamBecomes, NumberedViews.FunctionShape, NumberedViews.Tables}
use Rattle.plan_meaning.specs.{KeptFunctions.IsKindOf, KeptFunctions.IsResource, Plan.Plan, Renumbering.IsPart, Renumbering.a_primitive, Renumbering.a_shape}
use Rattle.plan_meaning.specs.NumberedRules.{Fact, begins_with_self, constructs, is_function, is_function_of, is_signature}
use Rattle.plan_meaning.proofs.Lists.{any_get}
use Rattle.plan_build.specs.PlanOf.{stated_params}
use Rattle.read_rules.specs.Tables.{param_of}
use Rattle.read_rules.proofs.MemberNames.{behind, label_no_dot, unique_last}
use Rattle.plan_parts.specs.Functions.{free_kind, is_behind, is_constructor_named, method_kind, method_mark, static_kind, static_mark, KeptIfGiven, KeptParam, NamesKind, a_constructor, a_method, a_static, of_none, KindsAreNamed, FunctionsBecome}
use Rattle.base_lemmas.proofs.Bools.{right_of as second_true}
use Rattle.plan_meaning.specs.KeptFunctions as kinds

-- ---- names of members

-- The name of a member is its mark, its resource and its own label behind a dot.
pub record IsCut (mark name r : Text) : Type 0 where
  pub member : Text
  pub is : name ≡ mark ++ (r ++ (46 ∷ member))
  pub label : is_label member ≡ true

cut_behind : (mark name r : Text) (o : Option Text) → after_prefix (mark ++ (r ++ (46 ∷ []))) name ≡ o → option_map_or is_label o false ≡ true → IsCut mark name r
cut_behind mark name r None e h = absurd cc
cut_behind mark name r (Some q) e h = record {
  member = q;
  is = prefix_back (mark ++ (r ++ (46 ∷ []))) name q e ∙ (append_assoc mark (r ++ (46 ∷ [])) q ∙ ap (λ t. mark ++ t) (append_assoc r (46 ∷ []) q));
  label = h;
}

cut : (mark name r : Text) → is_behind mark name r → IsCut mark name r
cut mark name r h = cut_behind mark name r (after_prefix (mark ++ (r ++ (46 ∷ []))) name) refl (sym (behind (mark ++ (r ++ (46 ∷ []))) name) ∙ h)

cancel : (mark a b : Text) → mark ++ a ≡ mark ++ b → a ≡ b
cancel [] a b e = e
cancel (m ∷ ms) a b e = let tail : ms ++ a ≡ ms ++ b = cc in cancel ms a b tail

-- it says its resource
one_resource : (mark name r s : Text) → is_behind mark name r → is_behind mark name s → r ≡ s
one_resource mark name r s h k =
    let a = cut mark name r h in
    let b = cut mark name s k in
    let same : r ++ (46 ∷ a.member) ≡ s ++ (46 ∷ b.member) = cancel mark _ _ (sym a.is ∙ b.is) in
    (unique_last r s a.member b.member same (label_no_dot a.member a.label) (label_no_dot b.member b.label)).0

-- ---- sorts of names

-- a label begins with no bracket
no_bracket : (name rest : Text) → is_label name ≡ true → name ≡ 91 ∷ rest → ⊥
no_bracket name rest label e = search std_rules

label_no_constructor : (name r : Text) → is_label name ≡ true → is_constructor_named name r → ⊥
label_no_constructor name r label e = no_bracket name _ label e

label_no_method : (name r : Text) → is_label name ≡ true → is_behind method_mark name r → ⊥
label_no_method name r label h = no_bracket name _ label (cut method_mark name r h).is

label_no_static : (name r : Text) → is_label name ≡ true → is_behind static_mark name r → ⊥
label_no_static name r label h = no_bracket name _ label (cut static_mark name r h).is

second_same : (a b c d : ℕ) (xs ys : Text) → a ∷ (b ∷ xs) ≡ c ∷ (d ∷ ys) → b ≡ d
second_same a b c d xs ys e = cc

constructor_no_method : (name r s : Text) → is_constructor_named name r → is_behind method_mark name s → ⊥
constructor_no_method name r s e h = search std_rules

constructor_no_static : (name r s : Text) → is_constructor_named name r → is_behind static_mark name s → ⊥
constructor_no_static name r s e h = search std_rules

method_no_static : (name r s : Text) → is_behind method_mark name r → is_behind static_mark name s → ⊥
method_no_static name r s h k = search std_rules

one_constructed : (name r s : Text) → is_constructor_named name r → is_constructor_named name s → r ≡ s
one_constructed name r s e f = cancel (codes "[constructor]") r s (sym e ∙ f)

-- ---- what may stand behind resources

module _ (t : Tables) (known : ℕ → Fact) (q : ℕ) (name : Text) (f : FunctionShape) where
  -- the kinds of a function of this resource
  pub data IsOf (r : Text) : Type 0 where
    constructor_of : is_constructor_named name r → f.is_async ≡ false → constructs t known q r f.result ≡ true → IsOf r
    method_of : is_behind method_mark name r → begins_with_self t known q r f.params ≡ true → IsOf r
    static_of : is_behind static_mark name r → IsOf r

  is_of : (r : Text) → is_function_of t known q name f r ≡ true → IsOf r
  is_of r h = by (text_eq name (constructor_name r)) (not f.is_async) (constructs t known q r f.result) (is_label_behind (method_name r []) name) (begins_with_self t known q r f.params)
      (is_label_behind (static_name r []) name) refl refl refl refl refl refl h
    where
      waits_not : (b : Bool) → not b ≡ true → b ≡ false
      waits_not true e = absurd cc
      waits_not false e = refl

      by : (a b c d e g : Bool) → text_eq name (constructor_name r) ≡ a → not f.is_async ≡ b → constructs t known q r f.result ≡ c → is_label_behind (method_name r []) name ≡ d
          → begins_with_self t known q r f.params ≡ e → is_label_behind (static_name r []) name ≡ g → ((((a && b) && c) || (d && e)) || g) ≡ true → IsOf r
      by true true true d e g a1 a2 a3 a4 a5 a6 h = constructor_of ((bytes_eq-Decides name (constructor_name r)).0 a1) (waits_not f.is_async a2) a3
      by a b c true true g a1 a2 a3 a4 a5 a6 h = method_of a4 a5
      by a b c d e true a1 a2 a3 a4 a5 a6 h = static_of a6
      by true true false true false false a1 a2 a3 a4 a5 a6 h = absurd cc
      by true true false false e false a1 a2 a3 a4 a5 a6 h = absurd cc
      by true false c true false false a1 a2 a3 a4 a5 a6 h = absurd cc
      by true false c false e false a1 a2 a3 a4 a5 a6 h = absurd cc
      by false b c true false false a1 a2 a3 a4 a5 a6 h = absurd cc
      by false b c false e false a1 a2 a3 a4 a5 a6 h = absurd cc

-- the name is that of the resource's constructor, or of a member of it
pub data IsNamedAfter (name r : Text) : Type 0 where
  constructor_after : is_constructor_named name r → IsNamedAfter name r
  method_after : is_behind method_mark name r → IsNamedAfter name r
  static_after : is_behind static_mark name r → IsNamedAfter name r

-- A function that may stand behind some resources and is named after one is named after one of them.
pub resource_among : (t : Tables) (known : ℕ → Fact) (q : ℕ) (name : Text) (f : FunctionShape) (resources : List Text) → is_function t known q resources name f ≡ true → (r : Text)
    → IsNamedAfter name r → list_any (text_eq r) resources ≡ true
resource_among t known q name f resources h r after = by (either_true (is_label name) (list_any (is_function_of t known q name f) resources) (second_true (is_signature t known q f) _ h))
  where
    no_label : is_label name ≡ true → IsNamedAfter name r → ⊥
    no_label label (constructor_after named) = label_no_constructor name r label named
    no_label label (method_after k) = label_no_method name r label k
    no_label label (static_after k) = label_no_static name r label k

    same : (s : Text) → IsOf t known q name f s → IsNamedAfter name r → r ≡ s
    same s (constructor_of named sync made) (constructor_after other) = one_constructed name r s other named
    same s (constructor_of named sync made) (method_after k) = absurd (constructor_no_method name s r named k)
    same s (constructor_of named sync made) (static_after k) = absurd (constructor_no_static name s r named k)
    same s (method_of k self) (constructor_after other) = absurd (constructor_no_method name r s other k)
    same s (method_of k self) (method_after other) = one_resource method_mark name r s other k
    same s (method_of k self) (static_after other) = absurd (method_no_static name s r k other)
    same s (static_of k) (constructor_after other) = absurd (constructor_no_static name r s other k)
    same s (static_of k) (method_after other) = absurd (method_no_static name r s other k)
    same s (static_of k) (static_after other) = one_resource static_mark name r s other k

    by : (is_label name ≡ true) ⊎ (list_any (is_function_of t known q name f) resources ≡ true) → list_any (text_eq r) resources ≡ true
    by (inl label) = absurd (no_label label after)
    by (inr any) =
        let at = any_get (is_function_of t known q name f) resources any in
        get_any (text_eq r) resources at.0 at.1 at.2 ((bytes_eq-Decides r at.1).1 (same at.1 (is_of t known q name f at.1 at.3) after))

free_of_none : (b : Bool) → resource_of (free_kind b) ≡ None
free_of_none x = search std_rules

free_waits : (b : Bool) → is_async (free_kind b) ≡ b
free_waits x = search std_rules

method_waits : (id : TypeId) (b : Bool) → is_async (method_kind id b) ≡ b
method_waits id x = search std_rules

static_waits : (id : TypeId) (b : Bool) → is_async (static_kind id b) ≡ b
static_waits id x = search std_rules

nothing_found : {A : Type 0} (o : Option A) (x : A) → o ≡ None → o ≡ Some x → ⊥
nothing_found o x e f = let wrong : None ≡ Some x = sym e ∙ f in absurd cc

module _ (t : Tables) (known : ℕ → Fact) (kept : List ℕ) (p : Plan) (o : TypeOwner) (q : ℕ) (find : Text → Option TypeId) (is_res : (r : Text) (id : TypeId) → find r ≡ Some id → IsResource t known kept p o q r id.0) (name : Text) (f : FunctionShape) (kind : FunctionKind) where
  abbrev Answer : Type 0
  Answer = IsKindOf t known kept p o q name f kind × (is_async kind ≡ f.is_async)

  a_method_is : (r : Text) (id : TypeId) → is_behind method_mark name r → find r ≡ Some id → begins_with_self t known q r f.params ≡ true → (b : Bool) → f.is_async ≡ b → kind ≡ method_kind id b
      → IsKindOf t known kept p o q name f kind
  a_method_is r id h found self true waits e = kinds.an_async_method id r e (is_res r id found) h self
  a_method_is r id h found self false waits e = kinds.a_method id r e (is_res r id found) h self

  a_static_is : (r : Text) (id : TypeId) → is_behind static_mark name r → find r ≡ Some id → (b : Bool) → f.is_async ≡ b → kind ≡ static_kind id b → IsKindOf t known kept p o q name f kind
  a_static_is r id h found true waits e = kinds.an_async_static id r e (is_res r id found) h
  a_static_is r id h found false waits e = kinds.a_static id r e (is_res r id found) h

  labelled : is_label name ≡ true → NamesKind find name f.is_async kind → Answer
  labelled label x = search (std_rules, label_no_constructor, label_no_method, label_no_static, free_of_none, free_waits)

  of_resource : (s : Text) (there : (id : TypeId) × (find s ≡ Some id)) → IsOf t known q name f s → NamesKind find name f.is_async kind → Answer
  of_resource s there (constructor_of named sync made) (a_constructor r id other found e) =
      let same = one_constructed name s r named other in
      (kinds.a_constructor id r e (is_res r id found) other (subst (λ (x : Text). constructs t known q x f.result ≡ true) same made), ap is_async e ∙ sym sync)
  of_resource s there (constructor_of named sync made) (a_method r id h found e) = absurd (constructor_no_method name s r named h)
  of_resource s there (constructor_of named sync made) (a_static r id h found e) = absurd (constructor_no_static name s r named h)
  of_resource s there (constructor_of named sync made) (of_none c m st e) = absurd (nothing_found (find s) there.0 (c s named) there.1)
  of_resource s there (method_of h self) (a_constructor r id other found e) = absurd (constructor_no_method name r s other h)
  of_resource s there (method_of h self) (a_method r id k found e) =
      let same = one_resource method_mark name s r h k in
      (a_method_is r id k found (subst (λ (x : Text). begins_with_self t known q x f.params ≡ true) same self) f.is_async refl e, ap is_async e ∙ method_waits id f.is_async)
  of_resource s there (method_of h self) (a_static r id k found e) = absurd (method_no_static name s r h k)
  of_resource s there (method_of h self) (of_none c m st e) = absurd (nothing_found (find s) there.0 (m s h) there.1)
  of_resource s there (static_of h) (a_constructor r id other found e) = absurd (constructor_no_static name r s other h)
  of_resource s there (static_of h) (a_method r id k found e) = absurd (method_no_static name r s k h)
  of_resource s there (static_of h) (a_static r id k found e) = (a_static_is r id k found f.is_async refl e, ap is_async e ∙ static_waits id f.is_async)
  of_resource s there (static_of h) (of_none c m st e) = absurd (nothing_found (find s) there.0 (st s h) there.1)

pub kinds_are_named : KindsAreNamed
kinds_are_named t known kept p o q find resources finds is_res name f kind h names =
    by (either_true (is_label name) (list_any (is_function_of t known q name f) resources) (second_true (is_signature t known q f) _ h))
  where
    by : (is_label name ≡ true) ⊎ (list_any (is_function_of t known q name f) resources ≡ true) → IsKindOf t known kept p o q name f kind × (is_async kind ≡ f.is_async)
    by (inl label) = labelled t known kept p o q find is_res name f kind label names
    by (inr any) =
        let at = any_get (is_function_of t known q name f) resources any in
        let there = finds at.1 (get_any (text_eq at.1) resources at.0 at.1 at.2 ((bytes_eq-Decides at.1 at.1).1 refl)) in
        of_resource t known kept p o q find is_res name f kind at.1 there (is_of t known q name f at.1 at.3) names

-- ---- types

-- the parts of parameters, without where their names lie in memory
pub plain_params : (P : ℕ → Type 0) (xs : List (Bor Text × ℕ)) → AllByRecursion (λ (x : Text × ℕ). P x.1) (map param_of xs) → AllByRecursion (λ (x : Bor Text × ℕ). P x.1) xs
plain_params P [] h = tt
plain_params P (x ∷ xs) h = (h.0, plain_params P xs h.1)

pub param_at : (P : ℕ → Type 0) (xs : List (Bor Text × ℕ)) (i : ℕ) (d : Bor Text × ℕ) → i < length xs → AllByRecursion (λ (x : Bor Text × ℕ). P x.1) xs → P (get_or xs i d).1
param_at P [] i d h all = absurd (omega (arith, h))
param_at P (x ∷ xs) zero d h all = all.0
param_at P (x ∷ xs) (suc i) d h all = param_at P xs i d (omega (arith, h)) all.1

-- one parameter more
pub params_more : (kept : List ℕ) (xs : List (Bor Text × ℕ)) (i : ℕ) (d : Bor Text × ℕ) (ty : ValueType) (old new : List (Bor Text × ValueType)) → i < length xs
    → new ≡ old ++ ((get_or xs i d).0, ty) ∷ [] → IsPart kept (get_or xs i d).1 (part_of ty)
    → AllZip (KeptParam kept) (map param_of (take i xs)) (stated_params old) → AllZip (KeptParam kept) (map param_of (take (i + 1) xs)) (stated_params new)
params_more kept xs i d ty old new within added is before =
    let x = get_or xs i d in
    let olds : map param_of (take (i + 1) xs) ≡ map param_of (take i xs) ++ param_of x ∷ [] = ap (map param_of) (take_more xs i d within) ∙ map-append param_of (take i xs) (x ∷ []) in
    let news : stated_params new ≡ stated_params old ++ (x.0.now, part_of ty) ∷ [] = ap stated_params added ∙ map-append (λ e. (e.0.now, part_of e.1)) old ((x.0, ty) ∷ []) in
    subst (λ (xs : List (Text × ℕ)). AllZip (KeptParam kept) xs (stated_params new)) (sym olds)
    (subst (λ (ys : List (Text × ℕ)). AllZip (KeptParam kept) (map param_of (take i xs) ++ param_of x ∷ []) ys) (sym news)
    (zip-push (KeptParam kept) (map param_of (take i xs)) (stated_params old) (param_of x) (x.0.now, part_of ty) before (refl, is)))

module _ (t : Tables) (kept : List ℕ) (p : Plan) (many : length p.types ≡ length kept) where
  pub part_becomes : (old new : ℕ) → IsPart kept old new → Becomes t kept p old new
  part_becomes old new is = record { part = is; range = in_range is }
    where
      in_range : IsPart kept old new → new < 14 + length p.types
      in_range (a_primitive low same) = omega (arith, low, same)
      in_range (a_shape n j from there to) = omega (arith, to, many, slice_get_within kept j n there)

  params_become : (xs ys : List (Text × ℕ)) → AllZip (KeptParam kept) xs ys → AllZip (ParamBecomes t kept p) xs ys
  params_become [] [] h = tt
  params_become [] (y ∷ ys) h = h
  params_become (x ∷ xs) [] h = h
  params_become (x ∷ xs) (y ∷ ys) h = ((h.0.0, part_becomes x.1 y.1 h.0.1), params_become xs ys h.1)

  result_becomes : (a b : Option ℕ) → KeptIfGiven kept a b → BecomesIfGiven t kept p a b
  result_becomes None None h = tt
  result_becomes None (Some y) h = h
  result_becomes (Some x) None h = h
  result_becomes (Some x) (Some y) h = part_becomes x y h

pub functions_become : FunctionsBecome
functions_become t kept p many f external_id g gives waits id = search (std_rules, params_become, result_becomes)
