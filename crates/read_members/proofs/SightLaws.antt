-- The views that members give are over places whose names are known.
use Rattle.std.proofs.Common.{rules as std_rules, ◌≡◌, refl, sym, subst, ℕ, zero, suc, true, false, List, [], ◌∷◌, map, slice_get, Option, Some, None}
use Rattle.std.proofs.lemmas.Option.{same_Some as same-some}
use Rattle.std.specs.List.{AllByRecursion}
use Rattle.wit_model.specs.Text.{Text}
use Rattle.comp_bytes.specs.{Levels.Piece, Reading.◌>>=◌}
use Rattle.comp_meaning.specs.Follow.{each}
use Rattle.plan_meaning.specs.NumberedMembers.{Homes, IsKnownSight, NumberedMember, NumberedPart, exported_view, imported_view, interface, sights_of_members, sights_of_part, world}
use Rattle.plan_meaning.specs.{NumberedRules.Fact, NumberedViews.NumberedSight, NumberedViews.Tables}
use Rattle.plan_meaning.specs.NumberedWorlds.{HasPath, NumberedScope, NumberedSeen, sights_of_scope}
use Rattle.read_parts.specs.declared.{following.Followed.Followed, members.FollowedPart.FollowedPart, members.Member.Member as FollowedMember}
use Rattle.read_parts.specs.{Input.IsFollowed, Members.scope_of}
use Rattle.read_exports.specs.Interfaces.{Placed, shown_interface}
use Rattle.read_rules.specs.declared.tables.Fact.{Fact as KeptFact}
use Rattle.read_numbers.specs.{FactLaws.known_by, NumberedInput.tables_of, PlacedNumbers.IsPlacedItem, PlacedNumbers.IsPlacedScope, PlacedNumbers.IsPlacedView}
use Rattle.read_numbers.specs.{KnownScopes.AreKnown, NumberedParts.numbered_scope as followed_scope}
use Rattle.read_numbers.proofs.{KnownScopes.scopes_are_known, KnownScopes.views_are_known, PlacedMembers.places_are_kept}
use Rattle.read_members.specs.{Decided.MembersAreKnown, ReadMembers.AreRead, ReadMembers.IsPartRead}
use Rattle.base_lemmas.proofs.Elements.{all_both}
use Rattle.read_parts.specs.declared.members.FollowedPart.TheVariants as followed

-- ---- what is shown as an interface

-- its export, and its imports
pub placed_views : (t : Tables) (w : NumberedScope) (e : Placed) (is : List Placed) → shown_interface t w ≡ Some (e, is) → (exported_view w.exports ≡ Some e) × (each imported_view w.imports ≡ Some is)
placed_views t w e is shown = search std_rules

-- ---- views in their places

module _ (t : Tables) (home : ℕ) where
  abbrev Stands : Placed → Type 0
  Stands i = HasPath t i.0 × IsPlacedView t i.0 i.1

  import_placed : (s : NumberedSeen) → IsPlacedItem t home s.shown → (i : Placed) → imported_view s ≡ Some i → Stands i
  import_placed s = search std_rules

  imports_placed : (ss : List NumberedSeen) → AllByRecursion (λ (s : NumberedSeen). IsPlacedItem t home s.shown) ss → (is : List Placed) → each imported_view ss ≡ Some is → AllByRecursion Stands is
  imports_placed [] h is e = subst (AllByRecursion Stands) (same-some [] is e) tt
  imports_placed (s ∷ ss) h is e = by (imported_view s) refl (each imported_view ss) (imports_placed ss h.1) e
    where
      by : (o : Option Placed) → imported_view s ≡ o → (os : Option (List Placed)) → ((ys : List Placed) → os ≡ Some ys → AllByRecursion Stands ys) → (o >>= λ y. os >>= λ ys. Some (y ∷ ys)) ≡ Some is
          → AllByRecursion Stands is
      by None f os rest e = absurd cc
      by (Some y) f None rest e = absurd cc
      by (Some y) f (Some ys) rest e = subst (AllByRecursion Stands) (same-some (y ∷ ys) is e) (import_placed s h.0 y f, rest ys refl)

  export_placed : (ss : List NumberedSeen) → AllByRecursion (λ (s : NumberedSeen). IsPlacedItem t home s.shown) ss → (i : Placed) → exported_view ss ≡ Some i → Stands i
  export_placed y h i e = search std_rules

-- ---- members

module _ (pieces : List Piece) (x : Followed) (f : IsFollowed pieces x) (facts : List KeptFact) (are : AreKnown x facts) where
  abbrev t : Tables
  t = tables_of x

  abbrev known : ℕ → Fact
  known = known_by facts

  abbrev IsKnownOne : NumberedSight → Type 0
  IsKnownOne s = IsKnownSight t known s

  imports_known : (home : ℕ) (is : List Placed) → AllByRecursion (Stands t home) is → AllByRecursion IsKnownOne (map (λ (i : Placed). record { place = i.0; view = i.1; whole = false }) is)
  imports_known home [] h = tt
  imports_known home (i ∷ is) h = (views_are_known pieces x f facts are i.0 h.0.0 i.1 h.0.1 false, imports_known home is h.1)

  interface_known : (w : NumberedScope) → IsPlacedScope t w → (e : Placed) (is : List Placed) → shown_interface t w ≡ Some (e, is) → AllByRecursion IsKnownOne (sights_of_part t (interface e.0 e.1 is))
  interface_known w placed e is shown =
      let views = placed_views t w e is shown in
      let export = export_placed t w.home w.exports placed.exports e views.0 in
      all_both IsKnownOne (map (λ (i : Placed). record { place = i.0; view = i.1; whole = false }) is) (record { place = e.0; view = e.1; whole = true } ∷ [])
      (imports_known w.home is (imports_placed t w.home w.imports placed.imports is views.1)) (views_are_known pieces x f facts are e.0 export.0 e.1 export.1 true, tt)

  part_known : (h : Homes) (text : Text) (p : FollowedPart) (n : ℕ) (q : NumberedPart) → IsPlacedScope t (followed_scope x.places (scope_of p))
      → AllByRecursion IsKnownOne (sights_of_scope t (followed_scope x.places (scope_of p))) → IsPartRead t known h text p n q → AllByRecursion IsKnownOne (sights_of_part t q)
  part_known h text (followed.World named s) n (world w) placed sights read = subst (λ (v : NumberedScope). AllByRecursion IsKnownOne (sights_of_scope t v)) (sym read.0) sights
  part_known h text (followed.World named s) n (interface p v is) placed sights read = absurd read
  part_known h text (followed.Interface s) n (world w) placed sights read = absurd read
  part_known h text (followed.Interface s) n (interface p v is) placed sights read = interface_known (followed_scope x.places s) placed (p, v) is read.0

  -- each scope, by its number
  record IsScopeKnown (w : NumberedScope) : Type 0 where
    placed : IsPlacedScope t w
    sights : AllByRecursion IsKnownOne (sights_of_scope t w)

  all_known : (h : Homes) (xs : List FollowedMember)
      → ((n : ℕ) (w : NumberedScope) → slice_get (map (λ (y : FollowedMember). followed_scope x.places (scope_of y.part)) xs) n ≡ Some w → IsScopeKnown w)
      → (ms : List (NumberedMember × List (Option ℕ))) → AreRead t known h xs ms → AllByRecursion IsKnownOne (sights_of_members t (map (λ m. m.0) ms))
  all_known h [] scopes [] read = tt
  all_known h [] scopes (m ∷ ms) read = absurd read
  all_known h (y ∷ xs) scopes [] read = absurd read
  all_known h (y ∷ xs) scopes (m ∷ ms) read =
      let scope = scopes zero (followed_scope x.places (scope_of y.part)) refl in
      all_both IsKnownOne (sights_of_part t m.0.part) (sights_of_members t (map (λ k. k.0) ms)) (part_known h y.label.now y.part m.0.package_ m.0.part scope.placed scope.sights read.0.part_is)
      (all_known h xs (λ n w e. scopes (suc n) w e) ms read.1)

pub members_are_known : MembersAreKnown
members_are_known pieces x f facts are h ms read =
    all_known pieces x f facts are h x.members.items (λ n w at. record { placed = (places_are_kept pieces x f).each n w at; sights = (scopes_are_known pieces x f facts are n w at).1 }) ms read
