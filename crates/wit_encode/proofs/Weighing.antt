-- An interface that has no room in an instance type weighs more than the largest number of 32 bits.
use Rattle.std.proofs.Common.{rules as std_rules, ◌≡◌, refl, sym, subst, ap, ◌∙◌, ℕ, zero, suc, ◌+◌, ◌*◌, ◌<◌, ◌≤◌, ◌^◌, ◌||◌, inl, inr, Bool, true, false, not, ◌&&◌, ◌==◌, nat_eq, List, [], ◌∷◌, ◌++◌, map, filter, flat_map, length, Option, Some, None, option_to_list, option_map, is_some, String, arith}
use Rattle.std.proofs.lemmas.{Bool.cases_Bool, Bool.cases_lt, Bool.lt-ltb, Bool.and_from as both-true, Map.Made.distinct_count-le}
use Rattle.std.proofs.{lemmas.List.Sums.sum_by-cons, lemmas.List.Sums.sum_by-append, lemmas.List.Sums.get_or-le-sum_by, Math.ListN.length-map}
use Rattle.std.proofs.lemmas.List.{Elements.Contains-append_left, Elements.Contains-append_right, Elements.Contains-append_cases, Filters.sum_by-filter_both}
use Rattle.std.specs.{Prelude.sum_by, Prelude.AllPairs, Prelude.if◌then◌else◌, List.Contains, List.list_all, Option.option_map_or}
use Rattle.std.specs.declared.alloc.Global.{Global}
use Rattle.indexmap.specs.IndexMap.{values}
use Rattle.wit_model.specs.{Text.Text, Text.text_of, Text.optional_text, Text.text_eq, Tree.Tree, Tree.is_given, Tree.children, Tree.child_list, Tree.Place, Lookup.type_at, Lookup.interface_at, Lookup.place_of, Parts.same_owner, Parts.kind_numbers, Types.trees_of, Types.tree_of, Types.number_tree, Types.declared_by, Types.tree_of_declaration, Uses.once, Uses.alias_target, Meant.signature_of, Valid.IsValid, Valid.as_interface, Valid.functions_of_interface, Valid.named_kinds, Valid.function_names}
use Rattle.wit_model.specs.Rules.{passes, is_named_number, is_named_kind, interface_type_numbers, is_member}
use Rattle.wit_model.specs.Weight.{unit_of, members_of, name_texts, definition_weight, is_brought, number_weight, function_weight, numbers_of, instance_numbers, instance_weight, whole_instance_weight}
use Rattle.wit_model.specs.declared.model.{Resolve.Resolve, Param.Param, TypeDef.TypeDef, TypeId.TypeId, TypeOwner.TypeOwner, Interface.Interface, Function.Function, TypeDefKind.TypeDefKind, InterfaceId.InterfaceId, «Type».«Type» as ValueType}
use Rattle.comp_bytes.specs.Fits.{fits_length, fits_names, fits_given, fits_name}
use Rattle.encode_types.specs.{Kinds.kind_tree, KeyLaws.text_same, Plan.foreign_owner, Table.interface_of_owner, MetKinds.ReachedFrom, MetKinds.referred, Distinct.are_same, Distinct.key_of}
use Rattle.encode_types.specs.Room.{Request, IsUnfit, LacksPart, its_definition, its_name, its_import, LacksOne, a_type, a_request, fits_tree, fits_request, limit, function_type, function_name, function_requests}
use Rattle.wit_encode.specs.{Order.is_function_of, Order.by_resource, Order.functions_in_order, Encoders.InterfaceLacksRoom, RoomLaws.LackingInterfacesAreHeavy}
use Rattle.wit_encode.proofs.{Validity.valid-layered, Mapped.contains-filter, Mapped.from-filter}
use Rattle.wit_encode.proofs.Reached.{part-at, IsOwner, IsCounted, Stays, met-counted, counted-in, named-own, all-numbers, interface-owner}
use Rattle.encode_types.proofs.{Encoding.tabled, Lists.none-in, Rooms.are-different, Rooms.counts-few, Pairs.pairs-head, Pairs.pairs-tail}
use Rattle.base_lemmas.proofs.{Bools.left_of as first_true, Bools.right_of as second_true, Lists.map_of_map as map-twice, Numbers.equal, Numbers.same-number}
use Rattle.base_lemmas.proofs.Elements.{all-contained, contains-later, contains-map, contains-one, map_from as from-map}
use Rattle.wit_model.proofs.{OnePath.interface-passes as interface_passes, TreeLemmas.child_list_of_children as listed, ValidLemmas.type_passes}
use Rattle.encode_shown.proofs.Used.{contains-flat-from as from-flat}
use Rattle.wit_model.specs.declared.model.TypeDefKind.TheVariants as kind
use Rattle.wit_model.specs.declared.model.«Type».TheVariants as ty
use Rattle.wit_model.specs.declared.model.Handle.TheVariants as handle
use Rattle.wit_model.specs.declared.model.TypeOwner.TheVariants as owner

-- ---- texts that don't fit are long

abbrev pub named-unit : Text → ℕ
named-unit t = unit_of (t ∷ [])

next-text : (t : Text) (ts : List Text) → sum_by named-unit (t ∷ ts) ≡ (64 + length t) + sum_by named-unit ts
next-text t ts = omega (arith, sum_by-cons named-unit t ts, sum_by-cons length t [])

-- what doesn't fit is larger than the limit
pub over : (total : ℕ) (fits : Bool) → (total ≤ limit → fits ≡ true) → fits ≡ false → limit < total
over total fits h e = search std_rules

pub fits-text : {A : Type 0} (t : List A) → length t ≤ limit → fits_length t ≡ true
fits-text t h = lt-ltb (length t) (2 ^ 32) (omega arith)

each-fits : (ts : List Text) → sum_by named-unit ts ≤ limit → list_all fits_length ts ≡ true
each-fits [] h = refl
each-fits (t ∷ ts) h = let next = next-text t ts in both-true _ _ (fits-text t (omega arith)) (each-fits ts (omega arith))

pub as-many : (ts : List Text) → 64 * length ts ≤ sum_by named-unit ts
as-many [] = omega arith
as-many (t ∷ ts) = omega (arith, as-many ts, next-text t ts)

names-fit : (ts : List Text) → sum_by named-unit ts ≤ limit → fits_names ts ≡ true
names-fit ts h = let many = as-many ts in both-true _ _ (fits-text ts (omega arith)) (each-fits ts h)

names-heavy : (ts : List Text) → fits_names ts ≡ false → limit < sum_by named-unit ts
names-heavy ts e = over (sum_by named-unit ts) (fits_names ts) (names-fit ts) e

pub given-fits : (t : Option Text) → sum_by length (option_to_list t) ≤ limit → fits_given t ≡ true
given-fits x h = search std_rules

-- a name with its external id
export-fits : (text : Text) (id : Option Text) → length text + sum_by length (option_to_list id) ≤ limit
    → fits_name (record { text = text; implements = None; version_suffix = None; external_id = id }) ≡ true
export-fits text id h = both-true _ _ (fits-text text (omega arith)) (given-fits id (omega arith))

-- ---- definitions that don't fit are heavy

abbrev pub members-weight : TypeDefKind → ℕ
members-weight k = sum_by named-unit (members_of k)

heavy : (ts : List Tree) (k : TypeDefKind) → ((t : ValueType) → k ≡ kind.Type_ t → fits_tree (tree_of ts t) ≡ true) → fits_tree (tree_of_declaration (declared_by ts k)) ≡ false
    → limit < members-weight k
heavy ts (kind.Record x) alias e = names-heavy (map (λ f. text_of f.name) x.fields.items)
    (ap fits_names (sym (map-twice (λ (f : Text × Tree). f.0) (λ f. (text_of f.name, tree_of ts f.ty)) x.fields.items)) ∙ e)
heavy ts (kind.Variant x) alias e = names-heavy (map (λ c. text_of c.name) x.cases.items)
    (ap fits_names (sym (map-twice (λ (c : Text × Bool). c.0) (λ (c : Text × Option Tree). (c.0, is_given c.1)) (map (λ c. (text_of c.name, option_map (tree_of ts) c.ty)) x.cases.items)
    ∙ map-twice (λ (c : Text × Option Tree). c.0) (λ c. (text_of c.name, option_map (tree_of ts) c.ty)) x.cases.items)) ∙ e)
heavy ts (kind.Flags x) alias e = names-heavy (map (λ f. text_of f.name) x.flags.items) e
heavy ts (kind.Enum x) alias e = names-heavy (map (λ c. text_of c.name) x.cases.items) e
heavy ts (kind.Tuple x) alias e = over (members-weight (kind.Tuple x)) _ (λ low. fits-text (child_list (children (map (tree_of ts) x.types.items))) (let many = as-many (members_of (kind.Tuple x)) in
    let b : length (members_of (kind.Tuple x)) ≡ length x.types.items = length-map x.types.items (λ t. []) in
    omega (arith, ap length (listed (map (tree_of ts) x.types.items)), length-map x.types.items (tree_of ts), b))) e
heavy ts (kind.Handle (handle.Own id)) alias e = absurd cc
heavy ts (kind.Type_ t) alias e = let h = alias t refl in absurd cc
heavy ts _ alias e = absurd cc

-- what another name stands for is a primitive or a name: what holds of each name holds of it
module _ (r : Resolve) (v : IsValid r) {A : Type 0} (f : Tree → A) (x : A) (of_name : (p : Place) (name : Text) → f (Rattle.wit_model.specs.Tree.named p name) ≡ x) where
  number-is : (m : ℕ) (d : TypeDef) → type_at r m ≡ Some d → is_some d.name ≡ true → f (number_tree r m) ≡ x
  number-is m d at named = ap f (tabled r (valid-layered r v) m d at) ∙ go d.name named
    where
      go : (name : Option (String Global)) → is_some name ≡ true
          → f (option_map_or (λ name. Rattle.wit_model.specs.Tree.named (place_of r d.owner) (text_of name)) name (tree_of_declaration (declared_by (trees_of r) d.kind))) ≡ x
      go None e = absurd cc
      go (Some name) e = of_name (place_of r d.owner) (text_of name)

  pub alias-is : (n : ℕ) (def : TypeDef) → type_at r n ≡ Some def → (id : TypeId) → def.kind ≡ kind.Type_ (ty.Id id) → f (number_tree r id.0) ≡ x
  unfolding named_kinds
  alias-is n def at id e =
      let rule = second_true (not (is_named_kind def.kind) || is_some def.name) (passes (is_named_number r) (alias_target def.kind)) (type_passes named_kinds r v.rules.named_kinds n def at) in
      let target : is_named_number r id.0 ≡ true = ap (λ k. passes (is_named_number r) (alias_target k)) (sym e) ∙ rule in
      let part = part-at r v n def at id.0 (subst (λ (k : TypeDefKind). Contains (kind_numbers k) id.0) (sym e) (contains-one id.0)) in
      number-is id.0 part.0 part.1 (ap (passes (λ (d : TypeDef). is_some d.name)) (sym part.1) ∙ target)

module _ (r : Resolve) (v : IsValid r) where
  alias-fits : (n : ℕ) (def : TypeDef) → type_at r n ≡ Some def → (t : ValueType) → def.kind ≡ kind.Type_ t → fits_tree (tree_of (trees_of r) t) ≡ true
  alias-fits n def at (ty.Id id) e = alias-is r v fits_tree true (λ p name. refl) n def at id e
  alias-fits n def at _ e = refl

  kind-heavy : (n : ℕ) (def : TypeDef) → type_at r n ≡ Some def → fits_tree (kind_tree r def.kind) ≡ false → limit < members-weight def.kind
  kind-heavy n def at e = heavy (trees_of r) def.kind (alias-fits n def at) e

-- ---- numbers once

split : (ys : List ℕ) (x : ℕ) → Contains ys x → (front : List ℕ) × (back : List ℕ) × (ys ≡ front ++ x ∷ back)
split [] x c = none-in x c
split (y ∷ ys) x (zero, l, e) = ([], ys, ap (λ z. z ∷ ys) e)
split (y ∷ ys) x (suc i, l, e) = let s = split ys x (i, omega (arith, l), e) in (y ∷ s.0, s.1, ap (λ zs. y ∷ zs) s.2)

abbrev pub Differ : ℕ → ℕ → Type 0
Differ x y = nat_eq x y ≡ false

pub sum-among : (g : ℕ → ℕ) (xs ys : List ℕ) → AllPairs Differ xs → ((n : ℕ) → Contains xs n → Contains ys n) → sum_by g xs ≤ sum_by g ys
sum-among g [] ys apart among = omega arith
sum-among g (x ∷ xs) ys apart among =
    let s = split ys x (among x (0, omega arith, refl)) in
    let rest = sum-among g xs (s.0 ++ s.1) (pairs-tail Differ x xs apart)
    (λ n c. without s.0 s.1 n (pairs-head Differ x xs n apart c) (subst (λ (zs : List ℕ). Contains zs n) s.2 (among n (contains-later x xs n c)))) in
    omega (arith, rest, ap (sum_by g) s.2 ∙ sum_by-append g s.0 (x ∷ s.1), sum_by-append g s.0 s.1, sum_by-cons g x xs, sum_by-cons g x s.1)
  where
    without : (xs ys : List ℕ) (n : ℕ) → Differ x n → Contains (xs ++ x ∷ ys) n → Contains (xs ++ ys) n
    without front back n d c = elim (Contains-append_cases front (x ∷ back) n c) [ inl a ↦ Contains-append_left front back n a | inr b ↦ Contains-append_right front back n (behind n d back b) ]
      where
        behind : (n : ℕ) → Differ x n → (zs : List ℕ) → Contains (x ∷ zs) n → Contains zs n
        behind n d zs (zero, l, e) = let same : nat_eq x n ≡ true = subst (λ (m : ℕ). nat_eq x m ≡ true) e (same-number x) in absurd cc
        behind n d zs (suc i, l, e) = (i, omega (arith, l), e)

pub contains-once : (ns : List ℕ) (n : ℕ) → Contains ns n → Contains (once ns) n
contains-once [] n c = none-in n c
contains-once (m ∷ ns) n (zero, l, e) = (0, omega arith, e)
contains-once (m ∷ ns) n (suc i, l, e) = elim (cases_Bool (n == m)) [
  | inl q ↦ (0, omega arith, sym (equal n m q))
  | inr q ↦ contains-later m _ n (contains-filter (λ k. not (k == m)) (once ns) n (ap not q) (contains-once ns n (i, omega (arith, l), e)))
]

pub at-least : {X : Type 0} (g : X → ℕ) (xs : List X) → ((x : X) → Contains xs x → 64 ≤ g x) → 64 * length xs ≤ sum_by g xs
at-least g [] h = omega arith
at-least g (x ∷ xs) h = omega (arith, at-least g xs (λ y c. h y (contains-later x xs y c)), h x (0, omega arith, refl), sum_by-cons g x xs)

pub one-of : {X : Type 0} (g : X → ℕ) (xs : List X) (x : X) → Contains xs x → g x ≤ sum_by g xs
one-of g xs x (i, l, e) = subst (λ y. g y ≤ sum_by g xs) e (get_or-le-sum_by g xs i x l)

-- ---- the functions of an interface, in any order

abbrev pub Named : Type 0
Named = Text × Function

abbrev pub keyed-weight : Named → ℕ
keyed-weight f = function_weight f.1

ordered-sum : (ts : List TypeId) (fs : List Named) → sum_by keyed-weight (by_resource ts fs) ≡ sum_by keyed-weight fs
ordered-sum [] fs = refl
ordered-sum (t ∷ ts) fs =
    let both = sum_by-append keyed-weight (filter (is_function_of t) fs) (by_resource ts (filter (λ f. not (is_function_of t f)) fs)) in
    let rest = ordered-sum ts (filter (λ f. not (is_function_of t f)) fs) in
    omega (arith, both, rest, sum_by-filter_both (is_function_of t) (λ f. not (is_function_of t f)) (λ f. refl) keyed-weight fs)

ordered-among : (ts : List TypeId) (fs : List Named) (f : Named) → Contains (by_resource ts fs) f → Contains fs f
ordered-among [] fs f c = c
ordered-among (t ∷ ts) fs f c = elim (Contains-append_cases (filter (is_function_of t) fs) (by_resource ts (filter (λ g. not (is_function_of t g)) fs)) f c) [
  | inl a ↦ from-filter (is_function_of t) fs f a
  | inr b ↦ from-filter (λ g. not (is_function_of t g)) fs f (ordered-among ts (filter (λ g. not (is_function_of t g)) fs) f b)
]

abbrev with-key : String Global × Function → Named
with-key e = (text_of e.0, e.1)

entries-sum : (es : List (String Global × Function)) → sum_by keyed-weight (map with-key es) ≡ sum_by function_weight (map (λ e. e.1) es)
entries-sum [] = refl
entries-sum (e ∷ es) = sum_by-cons keyed-weight (with-key e) (map with-key es) ∙ (ap (λ n. function_weight e.1 + n) (entries-sum es) ∙ sym (sum_by-cons function_weight e.1 (map (λ e. e.1) es)))

-- ---- functions that don't fit are heavy

params-sum : (ps : List Param) → sum_by (λ p. unit_of (text_of p.name ∷ [])) ps ≡ sum_by named-unit (map (λ p. text_of p.name) ps)
params-sum [] = refl
params-sum (p ∷ ps) = sum_by-cons (λ p. unit_of (text_of p.name ∷ [])) p ps
    ∙ (ap (λ n. named-unit (text_of p.name) + n) (params-sum ps) ∙ sym (sum_by-cons named-unit (text_of p.name) (map (λ p. text_of p.name) ps)))

pub type-heavy : (r : Resolve) (f : Function) → fits_request r (function_type (signature_of r f)) ≡ false → limit < function_weight f
type-heavy r f e =
    let names = names-heavy (map (λ p. text_of p.name) f.params.items) (ap fits_names
    (sym (map-twice (λ (p : Text × Tree). p.0) (λ p. (text_of p.name, tree_of (trees_of r) p.ty)) f.params.items)) ∙ e) in
    omega (arith, names, params-sum f.params.items)

name-heavy : (f : Function) → fits_name (function_name (text_of f.name, f)) ≡ false → limit < function_weight f
name-heavy f e = search std_rules

-- ---- what is met from some types and functions of an interface or a world

module _ (r : Resolve) (v : IsValid r) (o : TypeOwner) (ns : List ℕ) (all : List Function) (h : IsOwner r v o ns all) (ts : List TypeId) (fs : List Function)
    (listed : (t : TypeId) → Contains ts t → Contains ns t.0) (among : (f : Function) → Contains fs f → Contains all f) where
  abbrev weighs : ℕ → ℕ
  weighs n = number_weight r o n

  abbrev MetBy : ℕ → Type 0
  MetBy n = ReachedFrom r (interface_of_owner o) (referred ts fs) n

  pub counted : (n : ℕ) → MetBy n → IsCounted r v o ns all h n × Stays r v o ns all h n
  counted n m = met-counted r v o ns all h ts fs listed among n m

  pub counted-once : (n : ℕ) → MetBy n → Contains (numbers_of r ns all) n
  counted-once n m = contains-once (all-numbers r v o ns all h) n (counted-in r v o ns all h n (counted n m).0)

  -- a number of the owner itself weighs its definition
  pub own-weight : (n : ℕ) (d : TypeDef) → MetBy n → type_at r n ≡ Some d → foreign_owner (interface_of_owner o) d.owner ≡ None → weighs n ≡ definition_weight d
  own-weight n d m at f = ap (λ t. option_map_or (λ d. if is_brought r o n then unit_of (name_texts d) else definition_weight d) t 0) at
      ∙ ap (λ b. if b then unit_of (name_texts d) else definition_weight d)
      (ap (λ t. option_map_or (λ d. if is_some d.name then not (same_owner d.owner o) else false) t false) at ∙ go (is_some d.name) refl)
    where
      go : (b : Bool) → is_some d.name ≡ b → (if b then not (same_owner d.owner o) else false) ≡ false
      go false e = refl
      go true e = ap not (named-own r v o ns all h n d at (counted n m).1 f e)

  pub counted-least : (n : ℕ) → MetBy n → 64 ≤ weighs n
  counted-least n m =
      let c = (counted n m).0 in
      let at = ap (λ t. option_map_or (λ d. if is_brought r o n then unit_of (name_texts d) else definition_weight d) t 0) c.own_there in
      omega (arith, at, heavy-either (is_brought r o n) c.own_def)
    where
      heavy-either : (b : Bool) (d : TypeDef) → 64 ≤ (if b then unit_of (name_texts d) else definition_weight d)
      heavy-either true d = omega arith
      heavy-either false d = omega arith

  pub part-heavy-of : (n : ℕ) (d : TypeDef) → MetBy n → type_at r n ≡ Some d → LacksPart r (interface_of_owner o) (IsUnfit r) n d → limit < weighs n
  part-heavy-of n d m at (its_definition f u) = omega (arith, own-weight n d m at f, kind-heavy r v n d at u)
  part-heavy-of n d m at (its_name f name is u) =
      let long = over (length (text_of name) + sum_by length (option_to_list (optional_text d.external_id))) _ (export-fits (text_of name) (optional_text d.external_id)) u in
      let first : sum_by length (name_texts d) ≡ length (text_of name) = ap (λ x. sum_by length (option_to_list (optional_text x))) is
      ∙ (sum_by-cons length (text_of name) [] ∙ (let z : length (text_of name) + 0 ≡ length (text_of name) = omega arith in z)) in
      omega (arith, own-weight n d m at f, long, sum_by-append length (name_texts d) (option_to_list (optional_text d.external_id)), first)
  part-heavy-of n d m at (its_import j f u) = long-name d.name refl (sym (ap (λ (o : Option TypeDef). option_map_or (λ x. fits_given (optional_text x.name)) o true) at) ∙ u)
    where
      weighs-is : weighs n ≡ (if is_brought r o n then unit_of (name_texts d) else definition_weight d)
      weighs-is = ap (λ t. option_map_or (λ d. if is_brought r o n then unit_of (name_texts d) else definition_weight d) t 0) at

      either : (b : Bool) → sum_by length (name_texts d) ≤ (if b then unit_of (name_texts d) else definition_weight d)
      either true = omega arith
      either false = omega (arith, sum_by-append length (name_texts d) (option_to_list (optional_text d.external_id)))

      long-name : (name : Option (String Global)) → d.name ≡ name → fits_given (optional_text d.name) ≡ false → limit < weighs n
      long-name None is e = let none : fits_given (optional_text d.name) ≡ true = ap (λ x. fits_given (optional_text x)) is in absurd cc
      long-name (Some name) is e =
          let long = over (length (text_of name)) (fits_length (text_of name)) (fits-text (text_of name)) (sym (ap (λ x. fits_given (optional_text x)) is) ∙ e) in
          let first : sum_by length (name_texts d) ≡ length (text_of name) = ap (λ x. sum_by length (option_to_list (optional_text x))) is
          ∙ (sum_by-cons length (text_of name) [] ∙ (let z : length (text_of name) + 0 ≡ length (text_of name) = omega arith in z)) in
          omega (arith, weighs-is, long, either (is_brought r o n), first)

module _ (r : Resolve) (v : IsValid r) (i : InterfaceId) (def : Interface) (home : interface_at r i.0 ≡ Some def) where
  abbrev o : TypeOwner
  o = as_interface i.0

  abbrev fs : List Named
  fs = functions_in_order def

  abbrev weigh : ℕ → ℕ
  weigh n = number_weight r o n

  -- a function in order is one of the map, under its name
  entry-of : (f : Named) → Contains fs f → (e : String Global × Function) × Contains def.functions.entries e × (with-key e ≡ f)
  entry-of f c = from-map with-key def.functions.entries f (ordered-among (values def.types) (map with-key def.functions.entries) f c)

  pub in-map : (f : Function) → Contains (map (λ f. f.1) fs) f → Contains (functions_of_interface def) f
  in-map f c =
      let g = from-map (λ (f : Named). f.1) fs f c in
      let e = entry-of g.0 g.1 in
      subst (λ (x : Function). Contains (functions_of_interface def) x) (ap (λ (x : Named). x.1) e.2 ∙ g.2) (contains-map (λ (x : String Global × Function). x.1) def.functions.entries e.0 e.1)

  key-is : (e : String Global × Function) → Contains def.functions.entries e → text_of e.0 ≡ text_of e.1.name
  unfolding function_names
  key-is e c = text_same (text_of e.0) (text_of e.1.name) (first_true (text_eq (text_of e.0) (text_of e.1.name)) _
      (all-contained (λ (e : String Global × Function). text_eq (text_of e.0) (text_of e.1.name) && is_member r (as_interface i.0) e.1) def.functions.entries e
      (interface_passes function_names r v.rules.function_names i.0 def home) c))

  pub named-so : (f : Named) → Contains fs f → f.0 ≡ text_of f.1.name
  named-so f c = let e = entry-of f c in subst (λ (x : Named). x.0 ≡ text_of x.1.name) e.2 (key-is e.0 e.1)

  -- ---- the whole

  pub functions-sum : sum_by keyed-weight fs ≡ sum_by function_weight (functions_of_interface def)
  functions-sum = ordered-sum (values def.types) (map with-key def.functions.entries) ∙ entries-sum def.functions.entries

  pub weight-is : whole_instance_weight r i.0 ≡ 64 + (sum_by weigh (instance_numbers r def (functions_of_interface def)) + sum_by function_weight (functions_of_interface def))
  weight-is = ap (λ t. option_map_or (λ x. instance_weight r i.0 x (functions_of_interface x)) t 0) home

  function-within : (f : Named) → Contains fs f → function_weight f.1 ≤ whole_instance_weight r i.0
  function-within f c = omega (arith, one-of keyed-weight fs f c, functions-sum, weight-is)

  abbrev Met : ℕ → Type 0
  Met n = ReachedFrom r (Some i) (referred (values def.types) (map (λ f. f.1) fs)) n

  pub listed-here : (t : TypeId) → Contains (values def.types) t → Contains (interface_type_numbers def) t.0
  listed-here t c = contains-map (λ (id : TypeId). id.0) (values def.types) t c

  pub home-owner : IsOwner r v (owner.Interface i) (interface_type_numbers def) (functions_of_interface def)
  home-owner = interface-owner r v i def home

  pub in-numbers : (n : ℕ) → Met n → Contains (instance_numbers r def (functions_of_interface def)) n
  in-numbers n m = counted-once r v (owner.Interface i) (interface_type_numbers def) (functions_of_interface def) home-owner (values def.types) (map (λ f. f.1) fs) listed-here in-map n m

  number-within : (n : ℕ) → Met n → weigh n ≤ whole_instance_weight r i.0
  number-within n m = omega (arith, one-of weigh (instance_numbers r def (functions_of_interface def)) n (in-numbers n m), weight-is)

  at-least-one : (n : ℕ) → Met n → 64 ≤ weigh n
  at-least-one n m = counted-least r v (owner.Interface i) (interface_type_numbers def) (functions_of_interface def) home-owner (values def.types) (map (λ f. f.1) fs) listed-here in-map n m

  part-heavy : (n : ℕ) (d : TypeDef) → Met n → type_at r n ≡ Some d → LacksPart r (Some i) (IsUnfit r) n d → limit < weigh n
  part-heavy n d m at lacks = part-heavy-of r v (owner.Interface i) (interface_type_numbers def) (functions_of_interface def) home-owner (values def.types) (map (λ f. f.1) fs) listed-here in-map n
      d m at lacks

  request-heavy : (f : Named) → Contains fs f → (q : Request) → Contains (function_requests r f) q → IsUnfit r q → limit < function_weight f.1
  request-heavy f c q (zero, l, e) u = type-heavy r f.1 (ap (fits_request r) e ∙ u)
  request-heavy f c q (suc zero, l, e) u = name-heavy f.1 (ap (λ (t : Text). fits_name (function_name (t, f.1))) (sym (named-so f c)) ∙ (ap (fits_request r) e ∙ u))
  request-heavy f c q (suc (suc k), l, e) u = absurd (omega (arith, l))

  no-lack : whole_instance_weight r i.0 ≤ limit → InterfaceLacksRoom r i def → ⊥
  no-lack light h = elim h.lacks [
    | inl one ↦ lacks one
    | inr many ↦ (
        let numbers = sum-among weigh h.numbers (instance_numbers r def (functions_of_interface def)) (are-different r (Some i) h.numbers h.apart) (λ n c. in-numbers n (h.met n c)) in
        let each = at-least weigh h.numbers (λ n c. at-least-one n (h.met n c)) in
        let fun = at-least keyed-weight fs (λ f c. function-least f) in
        let sum = functions-sum in
        let keys = distinct_count-le are_same (map (λ (f : Named). key_of f.1) fs) in
        omega (arith, numbers, each, fun, sum, weight-is, counts-few r (Some i) h.numbers, keys, length-map fs (λ (f : Named). key_of f.1), many, light)
        )
  ]
    where
      function-least : (f : Named) → 64 ≤ keyed-weight f
      function-least f = omega arith

      lacks : LacksOne r (Some i) (IsUnfit r) h.numbers (flat_map (function_requests r) fs) → ⊥
      lacks (a_type n d c at part) = let a = part-heavy n d (h.met n c) at part in let b = number-within n (h.met n c) in absurd (omega (arith, a, b, light))
      lacks (a_request q c u) = let f = from-flat (function_requests r) fs q c in let a = request-heavy f.0 f.1 q f.2 u in let b = function-within f.0 f.1 in absurd (omega (arith, a, b, light))

pub lacking-heavy : LackingInterfacesAreHeavy
lacking-heavy r i def v home lacks = elim (cases_lt limit (whole_instance_weight r i.0)) [ inl f ↦ f | inr f ↦ absurd (no-lack r v i def home f lacks) ]
