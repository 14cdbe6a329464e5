-- The views that the component type of an interface gives are those of its instances.
use Rattle.std.proofs.Common.{rules as std_rules, ◌≡◌, ap, ◌∙◌, true, List, Some, ◌⊎◌, inl, inr, refl, sym, ℕ, Bool, false, cond, [], ◌∷◌, ◌++◌, map, append-nil, subst, Option, None}
use Rattle.std.proofs.lemmas.{Bool.eq-eqb, Bool.eqb-true, List.map-append, Option.same_Some as same-some}
use Rattle.std.proofs.lemmas.List.Elements.{filter-append, Contains-append_cases, Contains-append_left, Contains-append_right}
use Rattle.wit_model.specs.{Text.Text, Uses.has, Uses.once}
use Rattle.comp_bytes.specs.{Levels.PartType, Levels.Piece, Reading.◌>>=◌}
use Rattle.comp_bytes.proofs.Readers.{bind_some}
use Rattle.comp_meaning.specs.{ByLevels.exported_parts, ByLevels.member_by_levels, Follow.each, Follow.is_filled, Reads.Member}
use Rattle.read_parts.specs.Followed.{PartScope, labelled_scope, member_of_scope, scopes_of}
use Rattle.read_parts.proofs.ScopeMeaning.{each_both, member_law}
use Rattle.std.specs.List.{Contains, filter, AllByRecursion, AllZip}
use Rattle.plan_meaning.specs.NumberedWorlds.{NumberedInstance, NumberedKey, NumberedScope, NumberedSeen, instance, place_of_key, HasPath, NumberedShown, are_once, are_reached, path}
use Rattle.plan_meaning.specs.FollowedNumbers.{IsOneOf}
use Rattle.plan_meaning.specs.{NumberedViews.NumberedSight, NumberedViews.Tables, NumberedMembers.exported_view, NumberedMembers.imported_view}
use Rattle.base_lemmas.proofs.Elements.{get-contains, all_at, contains-map, contains-one, last_of as one-contained, map_from as from_map, zip_at as zip_there, zip_at_right as zip_at, zip-kept}
use Rattle.wit_model.proofs.{Chains.has_once, Elements.contains-get}
use Rattle.read_exports.specs.Interfaces.{Placed, shown_interface}
use Rattle.plan_package.specs.Views.{types_alone}
use Rattle.read_numbers.specs.PlacedNumbers.{IsPlacedItem}
use Rattle.read_numbers.specs.PlacedNumbers as placed

-- ---- Numbers, each once, where it stands first.

-- ---- What the rules of reading make of the parts at the top is what they make of the scopes that were followed.

-- the scopes of these parts are the items of the sections' parts
pub scopes_found : (pieces : List Piece) (parts : List (Text × PartType)) → exported_parts pieces ≡ Some parts → (scopes : List (Text × PartScope)) → scopes_of pieces ≡ Some scopes
    → each labelled_scope parts ≡ Some scopes
unfolding scopes_of
scopes_found pieces parts found scopes e = search std_rules

-- there is a part
pub parts_filled : (pieces : List Piece) (parts : List (Text × PartType)) → exported_parts pieces ≡ Some parts → (scopes : List (Text × PartScope)) → scopes_of pieces ≡ Some scopes
    → is_filled parts ≡ true
unfolding scopes_of
parts_filled pieces parts found scopes e = search std_rules

pub members_by_scopes : (pieces : List Piece) (parts : List (Text × PartType)) → exported_parts pieces ≡ Some parts → (members : List Member)
    → (scopes_of pieces >>= each member_of_scope) ≡ Some members → each member_by_levels parts ≡ Some members
members_by_scopes pieces parts found members reads =
    let scopes = bind_some (scopes_of pieces) (each member_of_scope) members reads in
    each_both labelled_scope member_of_scope member_by_levels member_law parts ∙ (ap (λ o. o >>= each member_of_scope) (scopes_found pieces parts found scopes.0 scopes.1) ∙ scopes.2)

-- ---- The instances of a scope are its imports and its exports that are instances.

-- an import or an export is the instance
pub record IsSeenAs (i : NumberedInstance) (s : NumberedSeen) : Type 0 where
  pub key : NumberedKey
  pub shown : s.shown ≡ instance key i.view
  pub place : place_of_key key ≡ i.place

pub record IsSeen (w : NumberedScope) (i : NumberedInstance) : Type 0 where
  pub seen : NumberedSeen
  pub among : Contains w.imports seen ⊎ Contains w.exports seen
  pub is : IsSeenAs i seen

pub either_seen : (w : NumberedScope) (i : NumberedInstance) → placed.IsSeenAs w i → IsSeen w i
either_seen w i (placed.as_import n s key there is place) = record { seen = s; among = inl (get-contains w.imports n s there); is = record { key = key; shown = is; place = place } }
either_seen w i (placed.as_export n s key there is place) = record { seen = s; among = inr (get-contains w.exports n s there); is = record { key = key; shown = is; place = place } }

-- ---- what the page is for

-- one more stands behind the others, unless it is there
pub once_more : (xs : List ℕ) (x : ℕ) → once (xs ++ x ∷ []) ≡ cond (has xs x) (once xs) (once xs ++ x ∷ [])
once_more [] x = refl
once_more (y ∷ xs) x = search (std_rules, eq-eqb, eqb-true, filter-append, append-nil, once_more xs x)

-- those that pass a test, behind which one more stands
module _ {A : Type 0} (P : ℕ → Bool) (f : A → ℕ) (xs : List A) (x : A) where
  filter_more : filter P (map f (xs ++ x ∷ [])) ≡ filter P (map f xs) ++ cond (P (f x)) (f x ∷ []) []
  filter_more = ap (filter P) (map-append f xs (x ∷ [])) ∙ filter-append P (map f xs) (f x ∷ [])

  pub filter_other : P (f x) ≡ false → once (filter P (map f (xs ++ x ∷ []))) ≡ once (filter P (map f xs))
  filter_other fails = ap once (filter_more ∙ (ap (λ b. filter P (map f xs) ++ cond b (f x ∷ []) []) fails ∙ append-nil (filter P (map f xs))))

  passes_too : P (f x) ≡ true → once (filter P (map f (xs ++ x ∷ []))) ≡ cond (has (filter P (map f xs)) (f x)) (once (filter P (map f xs))) (once (filter P (map f xs)) ++ f x ∷ [])
  passes_too passes = ap once (filter_more ∙ ap (λ b. filter P (map f xs) ++ cond b (f x ∷ []) []) passes) ∙ once_more (filter P (map f xs)) (f x)

  pub filter_known : P (f x) ≡ true → has (once (filter P (map f xs))) (f x) ≡ true → once (filter P (map f (xs ++ x ∷ []))) ≡ once (filter P (map f xs))
  filter_known passes there = passes_too passes ∙ ap (λ b. cond b (once (filter P (map f xs))) (once (filter P (map f xs)) ++ f x ∷ [])) (sym (has_once (f x) (filter P (map f xs))) ∙ there)

  pub filter_new : P (f x) ≡ true → has (once (filter P (map f xs))) (f x) ≡ false → once (filter P (map f (xs ++ x ∷ []))) ≡ once (filter P (map f xs)) ++ f x ∷ []
  filter_new passes none = passes_too passes ∙ ap (λ b. cond b (once (filter P (map f xs))) (once (filter P (map f xs)) ++ f x ∷ [])) (sym (has_once (f x) (filter P (map f xs))) ∙ none)

-- ---- what the page is for

no_some : {A B : Type 0} (x : A) → None ≡ Some x → B
no_some x e = let wrong : ⊥ = cc in absurd wrong

-- what each item gives stands beside it
pub each_beside : {A B : Type 0} (f : A → Option B) (xs : List A) (ys : List B) → each f xs ≡ Some ys → AllZip (λ x y. f x ≡ Some y) xs ys
each_beside f [] [] e = tt
each_beside {B = B} f [] (y ∷ ys) e = let none : ◌≡◌ {A = List B} [] (y ∷ ys) = same-some [] (y ∷ ys) e in let wrong : ⊥ = cc in absurd wrong
each_beside {A = A} {B = B} f (x ∷ xs) ys e = by (f x) refl (each f xs) (each_beside f xs) ys e
  where
    by : (o : Option B) → f x ≡ o → (rest : Option (List B)) → ((zs : List B) → rest ≡ Some zs → AllZip (λ x y. f x ≡ Some y) xs zs) → (zs : List B)
        → (o >>= λ z. rest >>= λ more. Some (z ∷ more)) ≡ Some zs → AllZip (λ x y. f x ≡ Some y) (x ∷ xs) zs
    by None is rest later zs g = no_some zs g
    by (Some z) is None later zs g = no_some zs g
    by (Some z) is (Some more) later zs g = subst (AllZip (λ x y. f x ≡ Some y) (x ∷ xs)) (same-some (z ∷ more) zs g) (is, later more refl)

-- ---- imports and exports that are views

-- the import or the export is the view
abbrev pub IsPlacedAs : NumberedSeen → Placed → Type 0
IsPlacedAs s i = s.shown ≡ instance (path i.0) i.1

export_is : (ss : List NumberedSeen) (e : Placed) → exported_view ss ≡ Some e → (s : NumberedSeen) × (ss ≡ s ∷ []) × IsPlacedAs s e
export_is y e h = search std_rules

-- ---- the component type

-- its imports are views, and its one export is
pub record IsOfViews (w : NumberedScope) (e : Placed) (is : List Placed) : Type 0 where
  pub imports : AllZip IsPlacedAs w.imports is
  pub one : NumberedSeen
  pub alone : w.exports ≡ one ∷ []
  pub exported : IsPlacedAs one e

-- What its component type shows is an interface: its export and its imports are views, no place stands twice, and each import is reached.
pub record IsShownAs (t : Tables) (w : NumberedScope) (e : Placed) (is : List Placed) : Type 0 where
  pub export_found : exported_view w.exports ≡ Some e
  pub imports_found : each imported_view w.imports ≡ Some is
  pub once : are_once (e.0 ∷ map (λ (i : Placed). i.0) is) ≡ true
  pub reached : are_reached t is e.1 ≡ true

pub shown_as : (t : Tables) (w : NumberedScope) (e : Placed) (is : List Placed) → shown_interface t w ≡ Some (e, is) → IsShownAs t w e is
shown_as t w e is h = search std_rules

pub of_views : (t : Tables) (w : NumberedScope) (e : Placed) (is : List Placed) → shown_interface t w ≡ Some (e, is) → IsOfViews w e is
of_views t w e is h =
    let all = shown_as t w e is h in
    let one = export_is w.exports e all.export_found in
    record {
      imports = zip-kept (λ s i. imported_view s ≡ Some i) IsPlacedAs (λ s i e. search std_rules) w.imports is (each_beside imported_view w.imports is all.imports_found);
      one = one.0;
      alone = one.1;
      exported = one.2;
    }

-- ---- instances and views

-- one of these is the instance's view
pub record IsViewed (views : List NumberedSight) (i : NumberedInstance) : Type 0 where
  pub whole : Bool
  pub there : Contains views (record { place = i.place; view = i.view; whole = whole })

module _ (t : Tables) (w : NumberedScope) (e : Placed) (is : List Placed) (of : IsOfViews w e is) where
  abbrev own : NumberedSight
  own = record { place = e.0; view = e.1; whole = true }

  abbrev views : List NumberedSight
  views = map types_alone is ++ own ∷ []

  -- what the instance is seen as is the view
  seen_place : (i : NumberedInstance) (s : NumberedSeen) → IsSeenAs i s → (y : Placed) → IsPlacedAs s y → (y.0 ≡ i.place) × (y.1 ≡ i.view)
  seen_place i s seen y placed = search std_rules

  -- each instance that is seen is viewed
  pub seen_viewed : (i : NumberedInstance) → IsSeen w i → IsViewed views i
  seen_viewed i seen = by seen.among
    where
      by : Contains w.imports seen.seen ⊎ Contains w.exports seen.seen → IsViewed views i
      by (inl among) =
          let at = contains-get _ _ among in
          let y = zip_there _ _ _ of.imports at.0 seen.seen at.1 in
          let same = seen_place i seen.seen seen.is y.0 y.2 in
          record {
            whole = false;
            there = Contains-append_left _ _ _ (subst (Contains (map types_alone is)) (λ j. record { place = same.0 j; view = same.1 j; whole = false }) (contains-map _ _ _ (get-contains _ _ _ y.1)));
          }
      by (inr among) = search (std_rules, seen_place, one-contained, Contains-append_right, contains-one)

  -- ---- back

  -- the view has a path, and is that of an instance
  pub record IsInstanceView (s : NumberedSight) : Type 0 where
    pub path_there : HasPath t s.place
    pub there : Contains w.instances (record { place = s.place; view = s.view })

  module _ (imports_placed : AllByRecursion (λ (s : NumberedSeen). IsPlacedItem t w.home s.shown) w.imports)
      (exports_placed : AllByRecursion (λ (s : NumberedSeen). IsPlacedItem t w.home s.shown) w.exports) (imports_one : AllByRecursion (λ (s : NumberedSeen). IsOneOf t w.instances s.shown) w.imports)
      (exports_one : AllByRecursion (λ (s : NumberedSeen). IsOneOf t w.instances s.shown) w.exports) where
    placed_view : (y : Placed) (x : NumberedShown) → x ≡ instance (path y.0) y.1 → IsPlacedItem t w.home x → IsOneOf t w.instances x → HasPath t y.0
        × Contains w.instances (record { place = y.0; view = y.1 })
    placed_view y x f item one = ((subst (IsPlacedItem t w.home) f item).0, subst (IsOneOf t w.instances) f one)

    import_view : (y : Placed) → Contains is y → HasPath t y.0 × Contains w.instances (record { place = y.0; view = y.1 })
    import_view y c =
        let at = contains-get _ y c in
        let s = zip_at IsPlacedAs w.imports is of.imports at.0 y at.1 in
        let among = get-contains _ _ _ s.1 in
        placed_view y s.0.shown s.2 (all_at _ _ imports_placed s.0 among) (all_at _ _ imports_one s.0 among)

    export_view : HasPath t e.0 × Contains w.instances (record { place = e.0; view = e.1 })
    export_view = search (std_rules, contains-one, placed_view, all_at)

    pub instance_viewed : (s : NumberedSight) → Contains views s → IsInstanceView s
    instance_viewed s c = by (Contains-append_cases (map types_alone is) (own ∷ []) s c)
      where
        by : Contains (map types_alone is) s ⊎ Contains (own ∷ []) s → IsInstanceView s
        by (inl among) = let from = from_map types_alone is s among in let found = import_view from.0 from.1 in subst IsInstanceView from.2 (record { path_there = found.0; there = found.1 })
        by (inr here) = subst IsInstanceView (one-contained own s here) (record { path_there = export_view.0; there = export_view.1 })
