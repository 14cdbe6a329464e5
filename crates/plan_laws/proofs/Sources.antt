-- Where what is shown stands: a type in a view or as an import of a world, and a function in a whole view or in a world.
use Rattle.std.proofs.Common.{rules as std_rules, ◌≡◌, refl, sym, ap, subst, ◌∙◌, ℕ, zero, suc, ◌+◌, ◌<◌, ◌⊎◌, inl, inr, arith, Bool, true, false, ◌==◌, nat_lt, cond, List, [], ◌∷◌, ◌++◌, length, Option, Some, None, slice_get, map}
use Rattle.std.proofs.lemmas.{Bool.eqb-true, Bool.ltb-false, Option.slice_get_within, Option.same_Some as same-some}
use Rattle.std.proofs.lemmas.List.{Elements.Contains-append_cases, Elements.Contains-append_left, Elements.Contains-append_right, Sums.fails_before_first}
use Rattle.std.specs.{List.Contains, List.flat_map, List.position_or_len, List.AllByRecursion, List.AllZip, Option.option_map_or, Borrow.Bor}
use Rattle.wit_model.specs.declared.model.TypeOwner.{TypeOwner}
use Rattle.wit_model.specs.{Parts.same_owner, Uses.has, Valid.as_interface, Valid.as_world, Text.Text}
use Rattle.wit_model.proofs.Elements.{contains-has, has-contains, none-in, contains-flat, contains-get}
use Rattle.wit_model.proofs.PartsLemmas.{owner_itself}
use Rattle.read_shown.proofs.Lists.{at_end, one_place}
use Rattle.plan_meaning.specs.{NumberedMembers.NumberedMember, NumberedMembers.Homes, NumberedMembers.IsMember, NumberedMembers.ShowsPart, ReadFunctions.Beside}
use Rattle.plan_meaning.specs.FollowedNumbers.{AreMembersIn, IsOneOf, IsPartIn, IsScopeIn, IsSeenIn, IsViewIn}
use Rattle.plan_meaning.specs.NumberedViews.{AllOf, NumberedFunction, NumberedSight, NumberedType, Tables, NumberedView}
use Rattle.plan_meaning.specs.NumberedWorlds.{NumberedInstance, NumberedSeen, Shows, place_of_key, seen_of, shown_of, HasPath}
use Rattle.plan_meaning.specs.ReadWorlds.{is_type_seen}
use Rattle.read_exports.specs.Members.{numbered_members, numbered_member, numbered_part}
use Rattle.read_exports.specs.declared.members.{Member.Member, Part.Part}
use Rattle.plan_types.specs.{Orders.joined, Orders.joined_all, Orders.places_of_part, PlannedTypes.number_in, PlannedTypes.owner_in}
use Rattle.plan_types.specs.Showings.{NumberedShowing, showing_of, showings_of_import, showings_of_members, showings_of_part, showings_of_seen, showings_of_shown, showings_of_view, signatures_of_members, signatures_of_part, signatures_of_seen, signatures_of_shown}
use Rattle.plan_package.specs.{PlanWhole.places_in, Views.types_alone, Views.views_of_members, Views.views_of_part, Views.whole_view}
use Rattle.plan_laws.specs.{Owners.homes_in, Owners.owner_of, Owners.owners_of, ShownNames.DeclaresName, ShownNames.IsInput, ShownNames.PartDeclaresNames}
use Rattle.base_lemmas.proofs.Elements.{contains-one, get-contains, last_of as one-contained, all_at, contains-map, map_from as from_map, zip_at, zip_at_right}
use Rattle.base_lemmas.proofs.{Numbers.same-number, Lists.mapped_get}
use Rattle.plan_package.proofs.ReadPackageLaws.{number_at as number_there}
use Rattle.comp_meaning.specs.Rules.{distinct}
use Rattle.read_shown.specs.Parts.{PartStands, WorldStands}
use Rattle.read_rules.specs.declared.{reached.ImportedView.ImportedView, scopes.InstanceKey.InstanceKey, scopes.Scope.Scope, scopes.Shown.Shown}
use Rattle.read_rules.specs.declared.{scopes.Seen.Seen, views.View.View}
use Rattle.read_rules.specs.{Reached.numbered_import, Tables.given_text, Views.numbered_view}
use Rattle.read_rules.specs.Scopes.{numbered_instance, numbered_key, numbered_scope, numbered_seen, numbered_shown}
use Rattle.plan_laws.proofs.MetNames.{flat_cases}
use Rattle.wit_model.specs.declared.model.TypeOwner.TheVariants as owner
use Rattle.comp_meaning.specs.Follow as follow
use Rattle.comp_meaning.specs.Reads as reads
use Rattle.read_shown.specs.Scopes as scopes
use Rattle.read_rules.specs.declared.scopes.Shown.TheVariants as shown
use Rattle.read_exports.specs.declared.members.Part.TheVariants as parts

-- ---- Places by their numbers, and the owner of each.

-- ---- numbers

no_true : {A : Type 0} → false ≡ true → A
no_true e = absurd cc

module _ (ps : List ℕ) (q : ℕ) where
  given_by : (b : Bool) → nat_lt (position_or_len (λ x. q == x) ps) (length ps) ≡ b → Contains ps q → (m : ℕ) × (cond b (Some (position_or_len (λ x. q == x) ps)) None ≡ Some m)
  given_by true low c = (position_or_len (λ x. q == x) ps, refl)
  given_by false high (k, low, e) = search (std_rules, ltb-false, fails_before_first, no_true, same-number)

  -- each place has one
  pub number_given : Contains ps q → (m : ℕ) × (number_in ps q ≡ Some m)
  number_given c = given_by (nat_lt (position_or_len (λ x. q == x) ps) (length ps)) refl c

-- ---- places that are met

-- none stands twice
abbrev pub IsOnce : List ℕ → Type 0
IsOnce ps = (i j q : ℕ) → slice_get ps i ≡ Some q → slice_get ps j ≡ Some q → i ≡ j

module _ (met : List ℕ) (p : ℕ) where
  joined_by : (b : Bool) → has met p ≡ b → (x : ℕ) → Contains met x ⊎ (p ≡ x) → Contains (cond b met (met ++ p ∷ [])) x
  joined_by true there x (inl among) = among
  joined_by true there x (inr same) = subst (Contains met) same (has-contains met p there)
  joined_by false none x (inl among) = Contains-append_left met (p ∷ []) x among
  joined_by false none x (inr same) = Contains-append_right met (p ∷ []) x (subst (Contains (p ∷ [])) same (contains-one p))

  joins : (x : ℕ) → Contains met x ⊎ (p ≡ x) → Contains (joined met p) x
  joins x c = joined_by (has met p) refl x c

  from_by : (b : Bool) → (x : ℕ) → Contains (cond b met (met ++ p ∷ [])) x → Contains met x ⊎ (p ≡ x)
  from_by true x c = inl c
  from_by false x c = elim (Contains-append_cases met (p ∷ []) x c) [ inl among ↦ inl among | inr last ↦ inr (one-contained p x last) ]

  joined_from : (x : ℕ) → Contains (joined met p) x → Contains met x ⊎ (p ≡ x)
  joined_from x c = from_by (has met p) x c

  joined_once : IsOnce met → IsOnce (joined met p)
  joined_once once = λ i j q at_i at_j. search (std_rules, at_end, no_true, contains-has, get-contains)

-- each that is met is among them
pub all_joined : (met ps : List ℕ) (x : ℕ) → Contains met x ⊎ Contains ps x → Contains (joined_all met ps) x
all_joined met [] x (inl among) = among
all_joined met [] x (inr c) = none-in x c
all_joined met (p ∷ ps) x (inl among) = all_joined (joined met p) ps x (inl (joins met p x (inl among)))
all_joined met (p ∷ ps) x (inr (zero, low, e)) = all_joined (joined met p) ps x (inl (joins met p x (inr e)))
all_joined met (p ∷ ps) x (inr (suc i, low, e)) = all_joined (joined met p) ps x (inr (i, omega (arith, low), e))

-- nothing else is
pub from_joined : (met ps : List ℕ) (x : ℕ) → Contains (joined_all met ps) x → Contains met x ⊎ Contains ps x
from_joined met [] x c = inl c
from_joined met (p ∷ ps) x c = elim (from_joined (joined met p) ps x c) [ inl among ↦ here (joined_from met p x among) | inr after ↦ inr (later after) ]
  where
    here : Contains met x ⊎ (p ≡ x) → Contains met x ⊎ Contains (p ∷ ps) x
    here (inl among) = inl among
    here (inr same) = inr (0, omega arith, same)

    later : Contains ps x → Contains (p ∷ ps) x
    later (k, low, e) = (suc k, omega (arith, low), e)

pub all_once : (met ps : List ℕ) → IsOnce met → IsOnce (joined_all met ps)
all_once met [] once = once
all_once met (p ∷ ps) once = all_once (joined met p) ps (joined_once met p once)

pub none_twice : IsOnce []
none_twice i j q at_i at_j = let wrong : None ≡ Some q = at_i in absurd cc

-- a place that is met has its own number
pub place_number : (ms : List Member) (m q : ℕ) → slice_get (places_in ms) m ≡ Some q → number_in (places_in ms) q ≡ Some m
place_number ms m q e =
    let given = number_given (places_in ms) q (get-contains (places_in ms) m q e) in
    given.1 ∙ ap Some ((all_once [] (flat_map (λ (x : NumberedMember). places_of_part x.part) (numbered_members ms)) none_twice) given.0 m q (number_there (places_in ms) q given.0 given.1) e)

-- ---- owners

module _ (places homes : List ℕ) where
  abbrev owner_by : Option ℕ → Option ℕ → ℕ → TypeOwner
  owner_by place home q = option_map_or as_interface place (option_map_or as_world home (as_interface (length places + q)))

  within : (q m : ℕ) → number_in places q ≡ Some m → m < length places
  within q m e = slice_get_within places m q (number_there places q m e)

  apart_by : (a c : ℕ) (pa : Option ℕ) → number_in places a ≡ pa → (ha : Option ℕ) → number_in homes a ≡ ha → (pc : Option ℕ) → number_in places c ≡ pc → (hc : Option ℕ) → number_in homes c ≡ hc
      → same_owner (owner_by pa ha a) (owner_by pc hc c) ≡ true → a ≡ c
  apart_by a c (Some m) ea ha fa (Some k) ec hc fc h = search (std_rules, eqb-true m k h, number_there places a m ea, number_there places c k ec)
  apart_by a c (Some m) ea ha fa None ec None fc h = let one = eqb-true m (length places + c) h in let low = within a m ea in absurd (omega (arith, one, low))
  apart_by a c None ea (Some m) fa None ec (Some k) fc h = search (std_rules, eqb-true m k h, number_there homes a m fa, number_there homes c k fc)
  apart_by a c None ea None fa (Some k) ec hc fc h = let one = eqb-true (length places + a) k h in let low = within c k ec in absurd (omega (arith, one, low))
  apart_by a c None ea None fa None ec None fc h = let one = eqb-true (length places + a) (length places + c) h in omega (arith, one)
  apart_by a c _ ea _ fa _ ec _ fc h = no_true h

  -- each place has an owner of its own
  pub owners_apart : (a c : ℕ) → same_owner (owner_of places homes a) (owner_of places homes c) ≡ true → a ≡ c
  owners_apart a c h = apart_by a c (number_in places a) refl (number_in homes a) refl (number_in places c) refl (number_in homes c) refl h

  -- the owner of a place that is met
  pub owner_met : (q : ℕ) → Contains places q ⊎ Contains homes q → owner_in places homes q ≡ owner_of places homes q
  owner_met q (inl among) = search (std_rules, number_given places q among)
  owner_met q (inr among) = search (std_rules, number_given homes q among)

-- ---- owners of places that are met

-- the owner of a place of this number
pub owner_numbered : (ms : List Member) (q m : ℕ) → number_in (places_in ms) q ≡ Some m → owners_of ms q ≡ as_interface m
owner_numbered ms q m e = ap (λ o. option_map_or as_interface o (option_map_or as_world (number_in (homes_in ms) q) (as_interface (length (places_in ms) + q)))) e

-- one place has an owner
pub one_owner : (ms : List Member) (b : Beside) → b.owners ≡ owners_of ms → (a c : ℕ) (o : TypeOwner) → b.owners a ≡ o → b.owners c ≡ o → a ≡ c
one_owner ms b is a c o at_a at_c =
    let owner : (q : ℕ) → b.owners q ≡ o → owners_of ms q ≡ o = λ q at. sym (ap (λ (f : ℕ → TypeOwner). f q) is) ∙ at in
    owners_apart (places_in ms) (homes_in ms) a c ((λ i. same_owner (owner a at_a i) (owner c at_c i)) ∙ owner_itself o)

-- ---- what the page is for

-- ---- lists

pub all_given : {A : Type 0} (P : A → Type 0) (xs : List A) → ((n : ℕ) (x : A) → slice_get xs n ≡ Some x → P x) → AllByRecursion P xs
all_given P [] each = tt
all_given P (x ∷ xs) each = (each 0 x refl, all_given P xs (λ n y e. each (suc n) y e))

pub all_of : {A : Type 0} (P : A → Type 0) (xs : List A) → ((x : A) → Contains xs x → P x) → AllByRecursion P xs
all_of P xs each = all_given P xs (λ n x e. each x (get-contains xs n x e))

pub at_mapped : {A B : Type 0} (P : B → Type 0) (g : A → B) (xs : List A) → AllByRecursion P (map g xs) → (x : A) → Contains xs x → P (g x)
at_mapped P g xs all x c = all_at P (map g xs) all (g x) (contains-map g xs x c)

pub mapped_cases : {A B C : Type 0} (f : B → List C) (g : A → B) (xs : List A) (y : C) → Contains (flat_map f (map g xs)) y → (x : A) × Contains xs x × Contains (f (g x)) y
mapped_cases f g xs y c =
    let from = flat_cases f (map g xs) y c in
    let one = from_map g xs from.0 from.1 in
    (one.0, one.1, subst (λ z. Contains (f z) y) (sym one.2) from.2)

pub among_mapped : {A B C : Type 0} (f : B → List C) (g : A → B) (xs : List A) (x : A) (y : C) → Contains xs x → Contains (f (g x)) y → Contains (flat_map f (map g xs)) y
among_mapped f g xs x y c there = contains-flat f (map g xs) (g x) y (contains-map g xs x c) there

-- what stands under a text, where none stands twice
pub one_under : {A : Type 0} (key : A → Text) (xs : List A) → distinct (map key xs) ≡ true → (a b : A) → Contains xs a → Contains xs b → key a ≡ key b → a ≡ b
one_under key xs apart a b c d e =
    let i = contains-get xs a c in
    let j = contains-get xs b d in
    same-some a b (sym i.1 ∙ (ap (slice_get xs) (one_place (map key xs) apart i.0 j.0 (key b) (mapped_get key xs i.0 a i.1 ∙ ap Some e) (mapped_get key xs j.0 b j.1)) ∙ j.1))

pub if_given : (P Q : ℕ → Type 0) → ((k : ℕ) → P k → Q k) → (d : Option ℕ) → AllOf P d → AllOf Q d
if_given x y one z given = search std_rules

-- what stands beside an element
pub partner : {A B : Type 0} (P : A → B → Type 0) (xs : List A) (ys : List B) → AllZip P xs ys → (x : A) → Contains xs x → (y : B) × Contains ys y × P x y
partner P xs ys all x c =
    let at = contains-get xs x c in
    let y = zip_at P xs ys all at.0 x at.1 in
    (y.0, get-contains ys at.0 y.0 y.1, y.2)

pub partner_back : {A B : Type 0} (P : A → B → Type 0) (xs : List A) (ys : List B) → AllZip P xs ys → (y : B) → Contains ys y → (x : A) × Contains xs x × P x y
partner_back P xs ys all y c =
    let at = contains-get ys y c in
    let x = zip_at_right P xs ys all at.0 y at.1 in
    (x.0, get-contains xs at.0 x.0 x.1, x.2)

pub beside : {A B C : Type 0} (R : B → C → Type 0) (f : A → B) (xs : List A) (ys : List C) → AllZip R (map f xs) ys → (x : A) → Contains xs x → (y : C) × Contains ys y × R (f x) y
beside R f xs ys all x c = partner R (map f xs) ys all (f x) (contains-map f xs x c)

-- ---- what a world imports and exports

abbrev pub Side : Scope → Seen → Type 0
Side w s = Contains w.imports.now s ⊎ Contains w.exports.now s

abbrev pub sight_of : InstanceKey → View → NumberedSight
sight_of key v = record { place = place_of_key (numbered_key key); view = numbered_view v; whole = true }

module _ (w : Scope) where
  pub side_shows : {A : Type 0} (f : Seen → List A) (s : Seen) (y : A) → Side w s → Contains (f s) y → Contains (flat_map f w.imports.now ++ flat_map f w.exports.now) y
  side_shows f s y (inl c) there = Contains-append_left (flat_map f w.imports.now) (flat_map f w.exports.now) y (contains-flat f w.imports.now s y c there)
  side_shows f s y (inr c) there = Contains-append_right (flat_map f w.imports.now) (flat_map f w.exports.now) y (contains-flat f w.exports.now s y c there)

  pub side_of : {A : Type 0} (f : Seen → List A) (y : A) → Contains (flat_map f w.imports.now ++ flat_map f w.exports.now) y → (s : Seen) × Side w s × Contains (f s) y
  side_of f y c = elim (Contains-append_cases (flat_map f w.imports.now) (flat_map f w.exports.now) y c) [
    | inl there ↦ (let from = flat_cases f w.imports.now y there in (from.0, inl from.1, from.2))
    | inr there ↦ (let from = flat_cases f w.exports.now y there in (from.0, inr from.1, from.2))
  ]

  -- what holds of all holds of one
  pub side_is : (P : NumberedSeen → Type 0) → AllByRecursion P (map numbered_seen w.imports.now) → AllByRecursion P (map numbered_seen w.exports.now) → (s : Seen) → Side w s → P (numbered_seen s)
  side_is P imports exports s (inl c) = at_mapped P numbered_seen w.imports.now imports s c
  side_is P imports exports s (inr c) = at_mapped P numbered_seen w.exports.now exports s c

  module _ (t : Tables) (good : IsScopeIn t (numbered_scope w)) (s : Seen) (side : Side w s) where
    pub side_good : (x : Shown) → s.shown ≡ x → IsSeenIn t w.home (record { key = s.key.now; shown = numbered_shown x; external_id = given_text s.external_id })
    side_good x e = subst (λ z. IsSeenIn t w.home (record { key = s.key.now; shown = numbered_shown z; external_id = given_text s.external_id })) e
        (side_is (IsSeenIn t w.home) good.imports good.exports s side)

    pub side_one : (x : Shown) → s.shown ≡ x → IsOneOf t (map numbered_instance w.instances.now) (numbered_shown x)
    side_one x e = subst (λ z. IsOneOf t (map numbered_instance w.instances.now) (numbered_shown z)) e
        (side_is (λ (z : NumberedSeen). IsOneOf t (map numbered_instance w.instances.now) z.shown) good.imported good.exported s side)

    pub side_view : (key : InstanceKey) (v : View) → s.shown ≡ shown.Instance key v → Contains (views_of_part (numbered_part (parts.World w))) (sight_of key v)
    side_view key v e = contains-map whole_view (map numbered_instance w.instances.now) (record { place = place_of_key (numbered_key key); view = numbered_view v }) (side_one (shown.Instance key v) e)

-- ---- the views of an interface

module _ (p : ℕ) (v : View) (imports : Bor (List ImportedView)) where
  abbrev pub own_sight : NumberedSight
  own_sight = record { place = p; view = numbered_view v; whole = true }

  abbrev pub import_sights : List NumberedSight
  import_sights = map types_alone (map numbered_import imports.now)

  pub own_there : Contains (views_of_part (numbered_part (parts.Interface p v imports))) own_sight
  own_there = Contains-append_right import_sights (own_sight ∷ []) own_sight (contains-one own_sight)

  pub import_there : (i : ImportedView) → Contains imports.now i → Contains (views_of_part (numbered_part (parts.Interface p v imports))) (types_alone (numbered_import i))
  import_there i c = Contains-append_left _ _ _ (contains-map _ _ _ (contains-map _ _ i c))

  pub interface_views : (s : NumberedSight) → Contains (views_of_part (numbered_part (parts.Interface p v imports))) s
      → ((i : ImportedView) × Contains imports.now i × (types_alone (numbered_import i) ≡ s)) ⊎ (own_sight ≡ s)
  interface_views s c = elim (Contains-append_cases import_sights (own_sight ∷ []) s c) [
    | inl there ↦ (let outer = from_map types_alone (map numbered_import imports.now) s there in let i = from_map numbered_import imports.now outer.0 outer.1 in
        inl (i.0, i.1, ap types_alone i.2 ∙ outer.2))
    | inr own ↦ inr (one-contained own_sight s own)
  ]

-- ---- views of a part, and of all

-- a view of a part is one of all
pub view_among : (ms : List Member) (m : Member) → Contains ms m → (s : NumberedSight) → Contains (views_of_part (numbered_part m.part)) s → Contains (views_of_members (numbered_members ms)) s
view_among ms m c s among = among_mapped (λ (x : NumberedMember). views_of_part x.part) numbered_member ms m s c among

-- the view of an instance is one of all
pub seen_sight : (t : Tables) (ms : List Member) (m : Member) → Contains ms m → (w : Scope) → m.part ≡ parts.World w → IsScopeIn t (numbered_scope w) → (s : Seen) → Side w s
    → (key : InstanceKey) (v : View) → s.shown ≡ shown.Instance key v → Contains (views_of_members (numbered_members ms)) (sight_of key v)
seen_sight t ms m c w is good s side key v e =
    view_among ms m c (sight_of key v) (subst (λ a. Contains (views_of_part (numbered_part a)) (sight_of key v)) (sym is) (side_view w t good s side key v e))

module _ (t : Tables) where
  pub part_at : (ms : List Member) → AreMembersIn t (numbered_members ms) → (m : Member) → Contains ms m → IsPartIn t (numbered_part m.part)
  part_at ms good m c = at_mapped (λ (x : NumberedMember). IsPartIn t x.part) numbered_member ms good m c

  pub view_in : (a : Part) → IsPartIn t (numbered_part a) → (s : NumberedSight) → Contains (views_of_part (numbered_part a)) s → IsViewIn t s.place s.view
  view_in (parts.World w) good s c =
      let i = from_map whole_view (map numbered_instance w.instances.now) s c in
      subst (λ (x : NumberedSight). IsViewIn t x.place x.view) i.2 (all_at (λ (x : NumberedInstance). IsViewIn t x.place x.view) (map numbered_instance w.instances.now) good.instances i.0 i.1)
  view_in (parts.Interface p v imports) good s c = elim (interface_views p v imports s c) [
    | inl i ↦ subst (λ (x : NumberedSight). IsViewIn t x.place x.view) i.2 (at_mapped (λ (x : ℕ × NumberedView). HasPath t x.0 × IsViewIn t x.0 x.1) numbered_import imports.now good.1 i.0 i.1).1
    | inr own ↦ subst (λ (x : NumberedSight). IsViewIn t x.place x.view) own good.0.1
  ]

  pub member_view_in : (ms : List Member) → AreMembersIn t (numbered_members ms) → (s : NumberedSight) → Contains (views_of_members (numbered_members ms)) s → IsViewIn t s.place s.view
  member_view_in ms good s c =
      let m = mapped_cases (λ (x : NumberedMember). views_of_part x.part) numbered_member ms s c in
      view_in m.0.part (part_at ms good m.0 m.1) s m.2

-- ---- no world exports a type

abbrev pub ExportsNoType : Part → Type 0
ExportsNoType (parts.World w) = AllByRecursion (λ (s : Seen). is_type_seen (numbered_shown s.shown) ≡ false) w.exports.now
ExportsNoType (parts.Interface p v imports) = Unit {0}

module _ (t : Tables) (h : Homes) where
  pub exports_no_type : (a : Part) (b : reads.Part) (m : NumberedMember) → ShowsPart t h m (numbered_part a) b → PartStands b → ExportsNoType a
  exports_no_type (parts.World w) (reads.Part.world scope) m shows stands = all_given (λ (s : Seen). is_type_seen (numbered_shown s.shown) ≡ false) w.exports.now one
    where
      same_type : (x : Shown) → scopes.is_type (shown_of t (numbered_shown x)) ≡ false → is_type_seen (numbered_shown x) ≡ false
      same_type (shown.Declares part d) none = none
      same_type _ _ = refl

      one : (n : ℕ) (s : Seen) → slice_get w.exports.now n ≡ Some s → is_type_seen (numbered_shown s.shown) ≡ false
      one n s there = same_type _ (stands.stands.no_types n (seen_of t (numbered_seen s))
          (subst (λ ss. slice_get ss n ≡ Some (seen_of t (numbered_seen s))) (sym shows.exports) (mapped_get (seen_of t) _ n _ (mapped_get numbered_seen _ n s there))))
  exports_no_type (parts.Interface p v imports) b m shows stands = tt
  exports_no_type (parts.World w) (reads.Part.interface view views) m shows stands = absurd shows

-- ---- where it stands

-- what an import of a type shows
abbrev pub imported_showing : ℕ → Option ℕ → Option Text → NumberedShowing
imported_showing part d id = record { part = part; declared = d; external_id = id }

-- a part shows this: one of its views does, or an import of the world
pub data IsShownIn (a : Part) (y : NumberedShowing) : Type 0 where
  in_view : (s : NumberedSight) → Contains (views_of_part (numbered_part a)) s → (x : NumberedType) → Contains s.view.types x → showing_of x ≡ y → IsShownIn a y
  of_world : (w : Scope) → a ≡ parts.World w → (c : Seen) → Contains w.imports.now c → (part : ℕ) (d : Option ℕ) → c.shown ≡ shown.Declares part d
      → imported_showing part d (given_text c.external_id) ≡ y → IsShownIn a y

-- a part shows a function of this type: a whole view of it does, or the world imports or exports it
pub data IsSignedIn (a : Part) (f : ℕ) : Type 0 where
  by_whole : (s : NumberedSight) → Contains (views_of_part (numbered_part a)) s → s.whole ≡ true → (g : Text × NumberedFunction) → Contains s.view.functions g → g.1.signature ≡ f → IsSignedIn a f
  by_world : (w : Scope) → a ≡ parts.World w → (c : Seen) → Side w c → c.shown ≡ shown.Function f → IsSignedIn a f

module _ (t : Tables) where
  view_origin : (a : Part) (s : NumberedSight) → Contains (views_of_part (numbered_part a)) s → (y : NumberedShowing) → Contains (showings_of_view s.view) y → IsShownIn a y
  view_origin a s c y among = let from = from_map showing_of s.view.types y among in in_view s c from.0 from.1 from.2

  view_signed : (a : Part) (s : NumberedSight) → Contains (views_of_part (numbered_part a)) s → s.whole ≡ true → (f : ℕ)
      → Contains (map (λ (g : Text × NumberedFunction). g.1.signature) s.view.functions) f → IsSignedIn a f
  view_signed a s c whole f among = let from = from_map (λ (g : Text × NumberedFunction). g.1.signature) s.view.functions f among in by_whole s c whole from.0 from.1 from.2

  pub part_origin : (a : Part) → IsPartIn t (numbered_part a) → ExportsNoType a → (y : NumberedShowing) → Contains (showings_of_part a) y → IsShownIn a y
  part_origin (parts.World w) good none y c = let from = side_of w showings_of_seen y c in by from.0 from.1 from.0.shown refl from.2
    where
      by : (s : Seen) → Side w s → (x : Shown) → s.shown ≡ x → Contains (showings_of_shown x (given_text s.external_id)) y → IsShownIn (parts.World w) y
      by s side (shown.Instance k v) e among = view_origin (parts.World w) (sight_of k v) (side_view w t good s side k v e) y among
      by s side (shown.Function f) e among = none-in y among
      by s (inl there) (shown.Declares part d) e among = of_world w refl s there part d e (one-contained (imported_showing part d (given_text s.external_id)) y among)
      by s (inr there) (shown.Declares part d) e among =
          let wrong : true ≡ false = ap (λ x. is_type_seen (numbered_shown x)) (sym e) ∙ all_at (λ (x : Seen). is_type_seen (numbered_shown x.shown) ≡ false) w.exports.now none s there in
          absurd cc
  part_origin (parts.Interface p v imports) good none y c = elim (Contains-append_cases (flat_map showings_of_import imports.now) (showings_of_view (numbered_view v)) y c) [
    | inl among ↦ (let i = flat_cases showings_of_import imports.now y among in view_origin (parts.Interface p v imports) (types_alone (numbered_import i.0)) (import_there p v imports i.0 i.1) y i.2)
    | inr among ↦ view_origin (parts.Interface p v imports) (own_sight p v imports) (own_there p v imports) y among
  ]

  pub part_signed : (a : Part) → IsPartIn t (numbered_part a) → (f : ℕ) → Contains (signatures_of_part a) f → IsSignedIn a f
  part_signed (parts.World w) good f c = let from = side_of w signatures_of_seen f c in by from.0 from.1 from.0.shown refl from.2
    where
      by : (s : Seen) → Side w s → (x : Shown) → s.shown ≡ x → Contains (signatures_of_shown x) f → IsSignedIn (parts.World w) f
      by s side (shown.Instance k v) e among = view_signed (parts.World w) (sight_of k v) (side_view w t good s side k v e) refl f among
      by s side (shown.Function g) e among = by_world w refl s side (e ∙ ap shown.Function (one-contained g f among))
      by s side (shown.Declares part d) e among = none-in f among
  part_signed (parts.Interface p v imports) good f c = view_signed (parts.Interface p v imports) (own_sight p v imports) (own_there p v imports) refl f c

-- ---- all members

module _ (t : Tables) (h : Homes) (ms : List Member) (members : List reads.Member) (input : IsInput t h ms members) where
  -- a member, as it was followed
  pub member_there : (m : Member) → Contains ms m → (y : reads.Member) × Contains members y × IsMember t h (numbered_member m) y × PartStands y.part
  member_there m c =
      let there = beside (IsMember t h) numbered_member ms members input.shown m c in
      (there.0, there.1, there.2, all_at (λ (x : reads.Member). PartStands x.part) members input.stand.parts there.0 there.1)

  -- each type that is shown is shown by a part
  pub origin : (y : NumberedShowing) → Contains (showings_of_members ms) y → (m : Member) × Contains ms m × IsShownIn m.part y
  origin y c =
      let m = flat_cases (λ (m : Member). showings_of_part m.part) ms y c in
      let there = member_there m.0 m.1 in
      (m.0, m.1, part_origin t m.0.part (part_at t ms input.numbers m.0 m.1) (exports_no_type t h m.0.part there.0.part (numbered_member m.0) there.2.part there.3) y m.2)

  -- and so is each function's type
  pub signed : (f : ℕ) → Contains (signatures_of_members ms) f → (m : Member) × Contains ms m × IsSignedIn m.part f
  signed f c = let m = flat_cases (λ (m : Member). signatures_of_part m.part) ms f c in (m.0, m.1, part_signed t m.0.part (part_at t ms input.numbers m.0 m.1) f m.2)

  -- a world that is exported, and what it stands for
  pub record IsWorldIn (w : Scope) : Type 0 where
    pub scope : follow.Scope
    pub shows : Shows t (numbered_scope w) scope
    pub stands : WorldStands scope
    pub good : IsScopeIn t (numbered_scope w)
    pub declares : AllByRecursion (DeclaresName t w.home) w.imports.now
    pub none : AllByRecursion (λ (s : Seen). is_type_seen (numbered_shown s.shown) ≡ false) w.exports.now

  pub world_in : (m : Member) → Contains ms m → (w : Scope) → m.part ≡ parts.World w → IsWorldIn w
  world_in m c w is =
      let there = member_there m c in
      by there.0.part (subst (λ a. ShowsPart t h (numbered_member m) (numbered_part a) there.0.part) is there.2.part) there.3
    where
      by : (b : reads.Part) → ShowsPart t h (numbered_member m) (numbered_part (parts.World w)) b → PartStands b → IsWorldIn w
      by (reads.Part.world scope) shows stands = record {
        scope = scope;
        shows = shows;
        stands = stands;
        good = subst (λ a. IsPartIn t (numbered_part a)) is (part_at t ms input.numbers m c);
        declares = subst (PartDeclaresNames t) is (all_at (λ (x : Member). PartDeclaresNames t x.part) ms input.declared m c);
        none = exports_no_type t h (parts.World w) (reads.Part.world scope) (numbered_member m) shows stands;
      }
      by (reads.Part.interface view others) shows stands = absurd shows
