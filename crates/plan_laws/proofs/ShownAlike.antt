-- A type is declared as one and the same wherever it is shown, and views of a place that show functions show the same ones.
use Rattle.plan_type_laws.proofs.PartPlaces.{slot_number}
use Rattle.std.proofs.Common.{◌≡◌, sym, ap, subst, ◌∙◌, ℕ, ◌+◌, arith, true, List, map, Option, Some, slice_get, refl, zero, suc, ◌<◌, ◌⊎◌, inl, inr, Bool, false, ◌==◌, cond, [], ◌∷◌, ◌++◌, length, None, rules as std_rules, ◌&&◌}
use Rattle.std.proofs.lemmas.{Bool.eq-eqb, Bool.eqb-true, Bool.false_from_ne_true, Bool.and_from as both, List.append-nil, List.append_assoc}
use Rattle.std.proofs.lemmas.{Option.slice_get_within, Option.same_Some as same-some, Slice.Eq.bytes_eq-Decides}
use Rattle.std.{specs.List.Contains, specs.List.find, specs.Bool.Decides, specs.List.list_all}
use Rattle.wit_model.specs.{Text.Text, Text.text_eq, Uses.has}
use Rattle.comp_meaning.specs.{Rules.distinct, Same.stand_in}
use Rattle.plan_meaning.specs.{FollowedNumbers.IsShownIn, FollowedNumbers.IsViewIn, NumberedMembers.Homes, NumberedMembers.sights_of_members}
use Rattle.plan_meaning.specs.{NumberedWorlds.are_once, Shapes.named_shape, NumberedRules.Fact}
use Rattle.plan_meaning.specs.NumberedViews.{NumberedSight, NumberedType, Tables, agree_in_numbers, first_at, NumberedFunction, agree, same_function, same_functions, same_id, NumberedView, path_at}
use Rattle.read_exports.specs.Members.{numbered_members}
use Rattle.read_exports.specs.declared.members.Member.{Member}
use Rattle.plan_types.specs.{Showings.NumberedShowing, Showings.showings_of_members, Orders.joined, Orders.joined_all, PlannedTypes.number_in}
use Rattle.plan_package.specs.Views.{views_of_members}
use Rattle.plan_type_laws.specs.ShownMarks.{own_places}
use Rattle.plan_laws.proofs.{MetNames.name_same, OwnPlaces.Owned, OwnPlaces.a_view, OwnPlaces.a_world, OwnPlaces.frames, OwnPlaces.one_owned}
use Rattle.plan_laws.proofs.{Sources.one_under, Sources.all_joined, Sources.all_once, Sources.from_joined, Sources.none_twice, ShownRules.import_named}
use Rattle.plan_laws.proofs.{WorldKeys.view_apart, WorldKeys.by_imports, WholeTypes.packages_are_ruled, WholeTypes.tests_hold}
use Rattle.plan_laws.proofs.ViewsAgree.{IsFrom, of_import, of_view, shown_from, views_tell, option_same, same_of_option, sight_there, view_names, view_frame}
use Rattle.plan_laws.specs.FirstViews.{told}
use Rattle.plan_laws.specs.{ShownNames.IsInput, ShownAlike.WholeIsShownAlike, ShownRules.ViewObeys, Whole.IsPackageInput, WholeTypes.IsRuledInput}
use Rattle.base_lemmas.proofs.Elements.{all_at, contains-map, map_from as from_map, all-contained, get-contains}
use Rattle.base_lemmas.proofs.{Lists.front_at as at_front, Lists.middle_get, Bools.left_of as first_true, Bools.right_of as second_true}
use Rattle.wit_model.proofs.{Elements.contains-get, Elements.has-contains, Elements.none-in, TextLemmas.text_same}
use Rattle.plan_types.proofs.OrderLaws.{joined_both}
use Rattle.plan_package.proofs.ReadPackageLaws.{number_at as number_there}
use Rattle.comp_meaning.proofs.{FunctionLists.both_ways, AgreementLaws.distinct_behind}
use Rattle.plan_meaning.proofs.Lists.{any_get}
use Rattle.plan_parts.specs.Interfaces.{slot_part}
use Rattle.comp_meaning.specs.Reads as reads

-- ---- What stands before the first view of a place has a smaller number.

-- ---- A type that a view shows is first shown as the view declares it.

module _ (t : Tables) (h : Homes) (ms : List Member) (members : List reads.Member) (input : IsInput t h ms members) (apart : are_once (own_places t (numbered_members ms)) ≡ true) (agrees : agree_in_numbers (sights_of_members t (numbered_members ms)) ≡ true) where
  -- each showing of the number declares what the view does, whose names differ
  pub shown_alike : (s : NumberedSight) → Contains (views_of_members (numbered_members ms)) s → distinct (map (λ (x : NumberedType). x.name) s.view.types) ≡ true → (x : NumberedType)
      → Contains s.view.types x
      → (n : ℕ) → slice_get t.shapes n ≡ Some (named_shape s.place x.name) → (y : NumberedShowing) → Contains (showings_of_members ms) y → y.part ≡ 14 + n → y.declared ≡ x.declared
  shown_alike s in_views names x in_types n at y shown part = by (shown_from t h ms members input apart y shown)
    where
      same_name : (q : ℕ) (name : Text) (k : ℕ) → slice_get t.shapes k ≡ Some (named_shape q name) → k ≡ n → (q ≡ s.place) × (name ≡ x.name)
      same_name q name k there one = name_same t.shapes q s.place name x.name k n there at one

      by : IsFrom t h ms members input apart y → y.declared ≡ x.declared
      by (of_view other in_it good z in_other shows) =
          let stands = all_at (IsShownIn t other.place) other.view.types good.types z in_other in
          let same = same_name other.place z.name stands.number stands.name.named (omega (arith, slot_number t z.slot stands.number stands.slot, ap (λ (v : NumberedShowing). v.part) shows, part)) in
          let from = from_map told s.view.types (told z) (subst (λ es. Contains es (told z)) (views_tell t h ms members input apart agrees other s in_it in_views same.0)
          (contains-map told other.view.types z in_other)) in
          sym (ap (λ (v : NumberedShowing). v.declared) shows) ∙ (sym (ap (λ (e : Text × (Option ℕ × Option Text)). e.1.0) from.2)
          ∙ ap (λ (v : NumberedType). v.declared) (one_under (λ (v : NumberedType). v.name) s.view.types names from.0 x from.1 in_types
          (ap (λ (e : Text × (Option ℕ × Option Text)). e.0) from.2 ∙ same.1)))
      by (of_import m c w is_world seen among e) =
          let named = import_named t input.tables h ms members input m c w is_world seen among y.part y.declared e in
          absurd (view_apart t h ms members input apart s in_views m c w is_world (sym (same_name w.home seen.key.now named.0 named.2.named (let a = named.1 in omega (arith, a, part))).0))

-- ---- lists that are split

pub record Split {A : Type 0} (xs : List A) (y : A) : Type 0 where
  pub front : List A
  pub back : List A
  pub is : xs ≡ front ++ y ∷ back

-- ---- the first view of a place

pub record IsFirst (q : ℕ) (all : List NumberedSight) (s : NumberedSight) : Type 0 where
  pub split : Split all s
  pub place : s.place ≡ q
  pub none : (u : NumberedSight) → Contains split.front u → u.place ≡ q → ⊥

pub first_split : (q : ℕ) (all : List NumberedSight) (s : NumberedSight) → first_at q all ≡ Some s → IsFirst q all s
first_split q [] s e = let wrong : None ≡ Some s = e in absurd cc
first_split q (x ∷ xs) s e = by (q == x.place) refl e (first_split q xs s)
  where
    by : (b : Bool) → (q == x.place) ≡ b → cond b (Some x) (find (λ (y : NumberedSight). q == y.place) xs) ≡ Some s → (first_at q xs ≡ Some s → IsFirst q xs s) → IsFirst q (x ∷ xs) s
    by true here e later =
        let same : x ≡ s = same-some x s e in
        record {
          split = record { front = []; back = xs; is = ap (λ y. y ∷ xs) same };
          place = sym (eqb-true q s.place (ap (λ (y : NumberedSight). q == y.place) (sym same) ∙ here));
          none = λ u c p. none-in u c;
        }
    by false other e later =
        let found = later e in
        record { split = record { front = x ∷ found.split.front; back = found.split.back; is = ap (λ ys. x ∷ ys) found.split.is }; place = found.place; none = λ u c p. none_here found u c p }
      where
        none_here : (found : IsFirst q xs s) (u : NumberedSight) → Contains (x ∷ found.split.front) u → u.place ≡ q → ⊥
        none_here found u (zero, low, same) p = let wrong : false ≡ true = sym other ∙ eq-eqb q x.place (sym p ∙ ap (λ (y : NumberedSight). y.place) (sym same)) in cc
        none_here found u (suc i, low, same) p = found.none u (i, omega (arith, low), same) p

-- ---- numbers

pub joined_more : (met ps : List ℕ) → (more : List ℕ) × (joined_all met ps ≡ met ++ more)
joined_more met [] = ([], sym (append-nil met))
joined_more met (p ∷ ps) = by (has met p) refl (joined_more met ps) (joined_more (met ++ p ∷ []) ps)
  where
    by : (b : Bool) → has met p ≡ b → (more : List ℕ) × (joined_all met ps ≡ met ++ more) → (more : List ℕ) × (joined_all (met ++ p ∷ []) ps ≡ (met ++ p ∷ []) ++ more) → (more : List ℕ)
        × (joined_all (joined met p) ps ≡ met ++ more)
    by true there here later = (here.0, ap (λ b. joined_all (cond b met (met ++ p ∷ [])) ps) there ∙ here.1)
    by false none here later = (p ∷ later.0, ap (λ b. joined_all (cond b met (met ++ p ∷ [])) ps) none ∙ (later.1 ∙ append_assoc met (p ∷ []) later.0))

module _ (front back : List ℕ) (q : ℕ) (new : Contains front q → ⊥) where
  abbrev all : List ℕ
  all = joined_all [] (front ++ q ∷ back)

  abbrev before : List ℕ
  before = joined_all [] front

  not_before : has before q ≡ false
  not_before = false_from_ne_true (has before q) (λ e. absent (from_joined [] front q (has-contains before q e)))
    where
      absent : Contains [] q ⊎ Contains front q → ⊥
      absent (inl none) = none-in q none
      absent (inr among) = new among

  all_is : (more : List ℕ) × (all ≡ before ++ q ∷ more)
  all_is =
      let rest = joined_more (before ++ q ∷ []) back in
      (rest.0, joined_both [] front (q ∷ back) ∙ (ap (λ b. joined_all (cond b before (before ++ q ∷ [])) back) not_before ∙ (rest.1 ∙ append_assoc before (q ∷ []) rest.0)))

  -- a place that stands before has a smaller number
  pub number_before : (r u w : ℕ) → Contains front r → number_in all r ≡ Some u → number_in all q ≡ Some w → u < w
  number_before r u w c r_at q_at =
      let once = all_once [] (front ++ q ∷ back) none_twice in
      let is = all_is in
      let there = contains-get before r (all_joined [] front r (inr c)) in
      omega (
        arith,
        once u there.0 r (number_there all r u r_at) (ap (λ xs. slice_get xs there.0) is.1 ∙ at_front before (q ∷ is.0) there.0 r there.1),
        once w (length before) q (number_there all q w q_at) (ap (λ xs. slice_get xs (length before)) is.1 ∙ middle_get before q is.0),
        slice_get_within before there.0 r there.1,
      )

-- ---- what the page is for

-- ---- Views of one place that show functions show the same ones.

same_decides : (a b : NumberedFunction) → Decides (same_function a b) (a ≡ b)
same_decides a b = (
  (λ h.
      let signature = eqb-true a.signature b.signature (first_true (a.signature == b.signature) (same_id a.external_id b.external_id) h) in
      let id = option_same text_eq text_same a.external_id b.external_id (second_true (a.signature == b.signature) (same_id a.external_id b.external_id) h) in
      λ i. record { signature = signature i; external_id = id i }),
  back,
)
  where
    back : a ≡ b → same_function a b ≡ true
    back e = both (a.signature == b.signature) (same_id a.external_id b.external_id) (eq-eqb a.signature b.signature (ap (λ (f : NumberedFunction). f.signature) e))
        (ap (same_id a.external_id) (sym (ap (λ (f : NumberedFunction). f.external_id) e)) ∙ same_of_option text_eq (λ x. (bytes_eq-Decides x x).1 refl) a.external_id)

-- no function stands twice
abbrev pub IsOnce : NumberedSight → Type 0
IsOnce s = distinct (map (λ (f : Text × NumberedFunction). f.0) s.view.functions) ≡ true

stands_there : (fs gs : List (Text × NumberedFunction)) → stand_in same_function fs gs ≡ true → (f : Text × NumberedFunction) → Contains fs f → Contains gs f
stands_there fs gs h f c =
    let at = any_get (λ (y : Text × NumberedFunction). text_eq f.0 y.0 && same_function f.1 y.1) gs (all-contained _ _ f h c) in
    subst (Contains gs) (λ i. (sym (text_same f.0 at.1.0 (first_true _ _ at.3)) i, sym ((same_decides f.1 at.1.1).0 (second_true _ _ at.3)) i)) (get-contains _ _ _ at.2)

-- what agreement says of functions
whole_same : (a b : NumberedSight) → agree a b ≡ true → a.place ≡ b.place → a.whole ≡ true → b.whole ≡ true → same_functions a.view.functions b.view.functions ≡ true
whole_same a b h e p q = search std_rules

module _ (a b : NumberedSight) (agrees : agree a b ≡ true) (place : a.place ≡ b.place) (a_whole : a.whole ≡ true) (b_whole : b.whole ≡ true) (f : Text × NumberedFunction) where
  forth : Contains a.view.functions f → Contains b.view.functions f
  forth c = stands_there a.view.functions b.view.functions (second_true _ _ (whole_same a b agrees place a_whole b_whole)) f c

  back : IsOnce a → IsOnce b → Contains b.view.functions f → Contains a.view.functions f
  back one two c = stands_there b.view.functions a.view.functions (second_true (stand_in same_function a.view.functions b.view.functions) (stand_in same_function b.view.functions a.view.functions)
      (sym (both_ways same_function same_decides a.view.functions b.view.functions one two) ∙ whole_same a b agrees place a_whole b_whole)) f c

-- so a function of one is one of each other
pub function_shared : (all : List NumberedSight) → agree_in_numbers all ≡ true → ((s : NumberedSight) → Contains all s → IsOnce s) → (a b : NumberedSight) → Contains all a → Contains all b
    → a.place ≡ b.place → a.whole ≡ true → b.whole ≡ true → (f : Text × NumberedFunction) → Contains a.view.functions f → Contains b.view.functions f
function_shared [] h once a b c d place p q f there = none-in a c
function_shared (x ∷ xs) h once a b (zero, l, e) (zero, k, g) place p q f there = subst (λ (s : NumberedSight). Contains s.view.functions f) (sym e ∙ g) there
function_shared (x ∷ xs) h once a b (zero, l, e) (suc j, k, g) place p q f there =
    forth a b (ap (λ y. agree y b) (sym e) ∙ all-contained (agree x) xs b (first_true (list_all (agree x) xs) (agree_in_numbers xs) h) (j, omega (arith, k), g)) place p q f there
function_shared (x ∷ xs) h once a b (suc i, l, e) (zero, k, g) place p q f there =
    back b a (ap (λ y. agree y a) (sym g) ∙ all-contained _ _ a (first_true _ _ h) (i, omega (arith, l), e)) (sym place) q p f (once b (zero, k, g)) (once a (suc i, l, e)) there
function_shared (x ∷ xs) h once a b (suc i, l, e) (suc j, k, g) place p q f there =
    function_shared xs (second_true _ _ h) (λ s c. once s (suc c.0, (let low = c.1 in omega (arith, low)), c.2)) a b (i, omega (arith, l), e) (j, omega (arith, k), g) place p q f there

-- ---- a type is declared as one and the same wherever it is shown, and views of a place that show functions show the same ones

abbrev pub view_owned : NumberedView → Owned → NumberedView
view_owned default (a_view v) = v
view_owned default (a_world w) = default

module _ (t : Tables) (h : Homes) (known : ℕ → Fact) (n : ℕ) (ms : List Member) (members : List reads.Member) (given : IsPackageInput t h known n ms members) where
  abbrev views : List NumberedSight
  views = views_of_members (numbered_members ms)

  ruled : IsRuledInput t h ms members
  ruled = packages_are_ruled t h known n ms members given

  -- ---- the views that are shown

  functions_once : (s : NumberedSight) → Contains (sights_of_members t (numbered_members ms)) s → IsOnce s
  functions_once s c =
      let v = s.view in
      distinct_behind (map (λ (x : NumberedType). x.name) v.types) (map (λ (f : Text × NumberedFunction). f.0) v.functions)
      (second_true _ _ (all-contained _ _ s (tests_hold t h known n ms members given).3 c))

  pub functions_alike : (r s : NumberedSight) → Contains views r → Contains views s → r.place ≡ s.place → r.whole ≡ true → s.whole ≡ true → (f : Text × NumberedFunction) → Contains r.view.functions f
      → Contains s.view.functions f
  functions_alike r s c d same r_whole s_whole f there = by (path_at t s.place) refl
    where
      by : (o : Option Text) → path_at t s.place ≡ o → Contains s.view.functions f
      by (Some path) e = function_shared (sights_of_members t (numbered_members ms)) ruled.agree functions_once r s (sight_there t (numbered_members ms) r c (path, ap (path_at t) same ∙ e))
          (sight_there t (numbered_members ms) s d (path, e)) same r_whole s_whole f there
      by None e = subst (λ (v : NumberedView). Contains v.functions f) (ap (view_owned s.view)
          (one_owned t (numbered_members ms) given.placed.apart s.place e (a_view r.view) (a_view s.view)
          (subst (λ q. Contains (frames (numbered_members ms)) (q, a_view r.view)) same (view_frame t h ms members given.input given.placed.apart r c (ap (path_at t) same ∙ e)))
          (view_frame t h ms members given.input given.placed.apart s d e))) there

  -- ---- types

  -- what a view shows of a type is what is shown of it
  by_view : (s : NumberedSight) → Contains views s → IsViewIn t s.place s.view → (x : NumberedType) → Contains s.view.types x → (y z : NumberedShowing) → y.part ≡ z.part → x.declared ≡ y.declared
      → slot_part x.slot ≡ y.part → Contains (showings_of_members ms) z → z.declared ≡ y.declared
  by_view s in_views good x in_types y z same declared part z_shown =
      let is = all_at (IsShownIn t s.place) _ good.types x in_types in
      shown_alike t h _ _ given.input given.placed.apart ruled.agree s in_views
      (view_names t s (all_at (ViewObeys t) _ ruled.rules.views s in_views)) x in_types _ is.name.named z z_shown (omega (arith, slot_number t _ _ is.slot, part, same)) ∙ declared

  pub types_alike : (y z : NumberedShowing) → Contains (showings_of_members ms) y → Contains (showings_of_members ms) z → y.part ≡ z.part → y.declared ≡ z.declared
  types_alike y z c d same = by (shown_from t h ms members given.input given.placed.apart y c) (shown_from t h ms members given.input given.placed.apart z d)
    where
      by : (IsFrom t h ms members given.input given.placed.apart) y → (IsFrom t h ms members given.input given.placed.apart) z → y.declared ≡ z.declared
      by (of_view s in_views good x in_types shows) from_z =
          sym (by_view s in_views good x in_types y z same (ap (λ (v : NumberedShowing). v.declared) shows) (ap (λ (v : NumberedShowing). v.part) shows) d)
      by (of_import m m_in w is_w a a_in a_shows) (of_view s in_views good x in_types shows) =
          by_view s in_views good x in_types z y (sym same) (ap (λ (v : NumberedShowing). v.declared) shows) (ap (λ (v : NumberedShowing). v.part) shows) c
      by (of_import m m_in w is_w a a_in a_shows) (of_import k k_in v is_v b b_in b_shows) =
          by_imports t h ms members given.input given.placed.apart m m_in w is_w a a_in y.part y.declared a_shows k k_in v is_v b b_in z.part z.declared b_shows same

pub whole_is_shown_alike : WholeIsShownAlike
whole_is_shown_alike t h known n ms members given = record {
  types = types_alike t h known n ms members given;
  functions = λ r s c d same r_whole s_whole f there. (f, functions_alike t h known n ms members given r s c d same r_whole s_whole f there, refl);
}
