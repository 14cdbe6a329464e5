-- Views of one path declare the same under the same names, none of which stands twice.
use Rattle.std.proofs.Common.{rules as std_rules, ◌≡◌, inl, inr, refl, sym, ap, subst, ◌∙◌, ℕ, zero, suc, Bool, true, false, not, ◌&&◌, ◌||◌, List, [], ◌∷◌, ◌++◌, map, flat_map, Option, Some, None, slice_get}
use Rattle.std.proofs.lemmas.List.Elements.{Contains-append_left, Contains-append_right}
use Rattle.std.specs.{List.Contains, List.list_all, List.list_any, Cmp.Lexicographic.pointwise}
use Rattle.wit_model.specs.{Text.Text, Names.PackageIdentity, Names.path_in, Meaning.TypeMeaning, Tree.Place}
use Rattle.wit_model.proofs.{Elements.contains-flat, Elements.contains-get, VersionLaws.same_text}
use Rattle.comp_meaning.specs.{Follow.View, Follow.ShownType, Follow.Instance, Rules.distinct, Rules.is_interface, SameLaws.named_meaning}
use Rattle.comp_meaning.specs.Reads.{Part, Member, Sight, agree, all_agree, are_interfaces, of_instance, same_functions, same_shown, sights}
use Rattle.comp_meaning.proofs.SameLaws.{shown_types_decide}
use Rattle.read_shown.specs.Parts.{named_instance, instances_of}
use Rattle.read_shown.proofs.Lists.{at_end, one_place}
use Rattle.base_lemmas.proofs.{Bools.left_of as first_true, Bools.right_of as second_true, Lists.get_back as unmapped_get, Lists.mapped_get}
use Rattle.base_lemmas.proofs.{Elements.all-contained, Elements.contains-map, Elements.contains-one, Elements.get-contains, Options.some_is}

-- ---- two views

abbrev pub Alike : View → View → Type 0
Alike v w = map named_meaning v.types ≡ map named_meaning w.types

-- no type has another's name
abbrev pub NamesDiffer : View → Type 0
NamesDiffer v = distinct (map (λ (t : ShownType). t.name) v.types) ≡ true

-- what stands at the same number in a view that is alike
pub alike_at : (v w : View) → Alike v w → (n : ℕ) (t : ShownType) → slice_get v.types n ≡ Some t → (u : ShownType) × (slice_get w.types n ≡ Some u) × (u.name ≡ t.name) × (u.meaning ≡ t.meaning)
alike_at v w same n t at =
    let u = unmapped_get named_meaning w.types n (named_meaning t) (ap (λ (xs : List (Text × TypeMeaning)). slice_get xs n) (sym same) ∙ mapped_get named_meaning v.types n t at) in
    (u.0, u.1, ap (λ (x : Text × TypeMeaning). x.0) u.2, ap (λ (x : Text × TypeMeaning). x.1) u.2)

-- a name stands at one number
pub one_number : (v : View) → NamesDiffer v → (m n : ℕ) (t u : ShownType) → slice_get v.types m ≡ Some t → slice_get v.types n ≡ Some u → t.name ≡ u.name → m ≡ n
one_number v apart m n t u at there same = one_place (map (λ (x : ShownType). x.name) v.types) apart m n u.name (mapped_get (λ (x : ShownType). x.name) v.types m t at ∙ ap Some same)
    (mapped_get (λ (x : ShownType). x.name) v.types n u there)

any_front : {A : Type 0} (test : A → Bool) (xs ys : List A) → list_any test (xs ++ ys) ≡ false → list_any test xs ≡ false
any_front test [] ys e = refl
any_front test (x ∷ xs) ys e = search (std_rules, any_front test xs ys)

pub distinct_front : (xs ys : List Text) → distinct (xs ++ ys) ≡ true → distinct xs ≡ true
distinct_front [] ys e = refl
distinct_front (x ∷ xs) ys e = search (std_rules, any_front, distinct_front xs ys)

-- the names of an interface differ
pub names_differ : (place : Place) (v : View) → is_interface place v ≡ true → NamesDiffer v
names_differ place v e = search (std_rules, distinct_front)

-- ---- all views of one path

all_at : (s : Sight) (rest : List Sight) (n : ℕ) (t : Sight) → list_all (agree s) rest ≡ true → slice_get rest n ≡ Some t → s.path ≡ t.path → Alike s.view t.view
all_at s _ n t e at same =
    let types = pointwise same_shown s.view.types t.view.types in
    let functions = not (s.whole && t.whole) || same_functions s.view.functions t.view.functions in
    (shown_types_decide s.view.types t.view.types).0 (first_true _ _ (sym (ap (λ b. not b || (types && functions)) (same_text _ _ same)) ∙ all-contained _ _ t e (get-contains _ n t at)))

pub sights_alike : (seen : List Sight) → all_agree seen ≡ true → (m n : ℕ) (s t : Sight) → slice_get seen m ≡ Some s → slice_get seen n ≡ Some t → s.path ≡ t.path → Alike s.view t.view
sights_alike [] e m n s t at there same = absurd cc
sights_alike (x ∷ seen) e zero zero s t at there same = ap (λ (y : Sight). map named_meaning y.view.types) (sym (some_is x s at) ∙ some_is x t there)
sights_alike (x ∷ seen) e zero (suc n) s t at there same = search (std_rules, some_is, all_at, first_true)
sights_alike (x ∷ seen) e (suc m) zero s t at there same = search (std_rules, some_is, all_at, first_true)
sights_alike (x ∷ seen) e (suc m) (suc n) s t at there same = sights_alike seen (second_true (list_all (agree x) seen) (all_agree seen) e) m n s t at there same

-- ---- the sights of a part are its instances

-- among these is a view, with this path
pub record IsSeenIn (seen : List Sight) (path : Text) (v : View) : Type 0 where
  pub sight : Sight
  pub there : Contains seen sight
  pub of_path : sight.path ≡ path
  pub view : sight.view ≡ v

of_scope : (xs : List Instance) (n : ℕ) (x : Instance) (path : Text) → slice_get xs n ≡ Some x → x.interface ≡ Some path → IsSeenIn (flat_map of_instance xs) path x.view
of_scope xs n x path at is = record { sight = s; there = contains-flat of_instance xs x s (get-contains xs n x at) (by x.interface is); of_path = refl; view = refl }
  where
    s : Sight
    s = record { path = path; view = x.view; whole = true }

    by : (o : Option Text) → o ≡ Some path → Contains (of_instance (record { interface = o; view = x.view })) (record { path = path; view = x.view; whole = true })
    by None e = absurd cc
    by (Some p) e = subst (λ (q : Text). Contains {X = Sight} (record { path = q; view = x.view; whole = true } ∷ []) s) (sym (some_is p path e)) (contains-one s)

seen_in_part : (label : Text) (package_ : PackageIdentity) (p : Part) (n : ℕ) (x : Instance) (path : Text)
    → slice_get (instances_of (record { label = label; package_ = package_; part = p })) n ≡ Some x → x.interface ≡ Some path
    → IsSeenIn (sights (record { label = label; package_ = package_; part = p })) path x.view
seen_in_part label package_ (Part.world scope) n x path at is = of_scope scope.instances n x path at is
seen_in_part label package_ (Part.interface exported imports) n x path at is = elim (at_end (map named_instance imports) itself x n at) [
  | inl before ↦ (let i = unmapped_get named_instance imports n x before in
      let s : Sight = record { path = i.0.0; view = i.0.1; whole = false } in
      let seen = contains-map (λ (y : Text × View). record { path = y.0; view = y.1; whole = false }) imports i.0 (get-contains imports n i.0 i.1) in
      let of_path = some_is i.0.0 path (ap (λ (y : Instance). y.interface) i.2 ∙ is) in
      record { sight = s; there = Contains-append_left front (last ∷ []) s seen; of_path = of_path; view = ap (λ (y : Instance). y.view) i.2 })
  | inr end ↦ (let of_path = some_is (path_in package_ label) path (ap (λ (y : Instance). y.interface) end.1 ∙ is) in
      record { sight = last; there = Contains-append_right front (last ∷ []) last (contains-one last); of_path = of_path; view = ap (λ (y : Instance). y.view) end.1 })
]
  where
    itself : Instance
    itself = named_instance (path_in package_ label, exported)

    front : List Sight
    front = map (λ (i : Text × View). record { path = i.0; view = i.1; whole = false }) imports

    last : Sight
    last = record { path = path_in package_ label; view = exported; whole = true }

-- each instance of a part with a path is a sight of it
pub seen_in_member : (m : Member) (n : ℕ) (x : Instance) (path : Text) → slice_get (instances_of m) n ≡ Some x → x.interface ≡ Some path → IsSeenIn (sights m) path x.view
seen_in_member m n x path at is = seen_in_part m.label m.package_ m.part n x path at is

-- and one of those of all parts
pub seen_in_all : (members : List Member) (k : ℕ) (m : Member) → slice_get members k ≡ Some m → (path : Text) (v : View) → IsSeenIn (sights m) path v → IsSeenIn (flat_map sights members) path v
seen_in_all members k m at path v s = record { sight = s.sight; there = contains-flat sights members m s.sight (get-contains members k m at) s.there; of_path = s.of_path; view = s.view }

-- two sights of one path are alike
pub paths_alike : (seen : List Sight) → all_agree seen ≡ true → (path : Text) (v w : View) → IsSeenIn seen path v → IsSeenIn seen path w → Alike v w
paths_alike seen e path v w s t =
    let m = contains-get seen s.sight s.there in
    let n = contains-get seen t.sight t.there in
    ap (λ (x : View). map named_meaning x.types) (sym s.view) ∙ (sights_alike seen e m.0 n.0 s.sight t.sight m.1 n.1 (s.of_path ∙ sym t.of_path) ∙ ap (λ (x : View). map named_meaning x.types) t.view)

-- and each may be an interface
pub paths_differ : (seen : List Sight) → are_interfaces seen ≡ true → (path : Text) (v : View) → IsSeenIn seen path v → NamesDiffer v
paths_differ seen e path v s = subst NamesDiffer s.view (names_differ (Place.of_interface s.sight.path) s.sight.view (all-contained _ _ s.sight e s.there))
