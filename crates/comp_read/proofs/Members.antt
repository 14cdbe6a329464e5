-- The members of an input, beside what was followed and what the rules of reading make of it.
use Rattle.std.proofs.Common.{◌≡◌, ap, subst, ◌∙◌, ℕ, true, List, map, Some, slice_get, rules as std_rules, refl, sym, ◌+◌, ◌<◌, Bool, ◌==◌, [], ◌∷◌, length, Option, None}
use Rattle.std.proofs.{lemmas.Bool.eq-eqb, lemmas.Bool.eqb-true, ByRecursion.All-weaker as recursion_weaker, lemmas.Map.Keys.any_passes_from_place as get_any}
use Rattle.std.specs.List.{AllByRecursion, Contains, AllZip, list_any}
use Rattle.wit_model.proofs.Elements.{contains-flat, contains-get}
use Rattle.comp_bytes.specs.Levels.{Piece}
use Rattle.read_shown.specs.Parts.{MemberStands, PartStands, WorldStands}
use Rattle.read_shown.proofs.{ByLevels.members_by_levels_stand, Agreement.distinct_front}
use Rattle.plan_meaning.specs.NumberedMembers.{Homes, IsMember, NumberedMember, ShowsPart, interface, world, sights_of_members}
use Rattle.plan_meaning.specs.NumberedViews.{AreTables, NumberedSight, NumberedView, Tables, AllOf, NumberedSlot, NumberedType, PartsOf, TypePasses, function_at, path_at, view_of}
use Rattle.plan_meaning.specs.NumberedWorlds.{HasPath, NumberedInstance, NumberedScope, Shows, instance_of}
use Rattle.plan_meaning.specs.FollowedNumbers.{IsCalledIn, IsMetFrom, IsShownIn, IsSlotOf, IsViewIn}
use Rattle.plan_meaning.specs.{Shapes.named_shape, NumberedRules.Fact, NumberedRules.is_interface}
use Rattle.read_parts.specs.declared.{following.Followed.Followed, members.FollowedPart.FollowedPart, members.Member.Member as FollowedMember}
use Rattle.read_parts.specs.Members.{scope_of}
use Rattle.comp_read.proofs.InterfaceViews.{members_by_scopes, IsSeen, either_seen, IsViewed, instance_viewed, of_views, seen_viewed}
use Rattle.comp_read.proofs.Lists.{IsFirstPassing, first_passing}
use Rattle.read_members.specs.PartMembers.{IsMemberOf, IsPartOf, IsScopeOf}
use Rattle.read_numbers.specs.{NumberedInput.tables_of, NumberedParts.numbered_scope as followed_scope}
use Rattle.read_numbers.specs.PlacedNumbers.{ArePlacedScopes, IsInstanceAt, IsPlacedScope, scopes_in as numbered_scopes, part_of, IsFirstSeen, IsMetPart, IsNumbered, IsPlacedView, IsRisingView, scopes_in}
use Rattle.read_numbers.proofs.{InputNumbers.input_in_numbers, PlacedMembers.places_are_kept}
use Rattle.read_exports.specs.Members.{numbered_member, numbered_members, numbered_part}
use Rattle.read_exports.specs.declared.members.{Member.Member, Part.Part}
use Rattle.read_rules.specs.declared.scopes.Scope.{Scope}
use Rattle.read_rules.specs.{Reached.numbered_import, Scopes.numbered_scope, Views.numbered_view}
use Rattle.plan_package.specs.Views.{views_of_members, views_of_part, whole_view}
use Rattle.plan_laws.proofs.{Sources.beside, ViewsAgree.one_told, ViewsAgree.sight_there, ShownRules.instances_obey}
use Rattle.comp_read.specs.ReadInput.{IsReadInput, ViewsObey}
use Rattle.base_lemmas.proofs.Elements.{all_at, contains-map, get-contains, map_from as from_map, zip_at as zip_there, zip_at_right as zip_at, all-contained}
use Rattle.base_lemmas.proofs.{Lists.get_back as at_mapped, Lists.mapped_get, Lists.map_of_map, Lists.one_item, Bools.right_of as second_true}
use Rattle.base_lemmas.proofs.Numbers.{same-number}
use Rattle.wit_model.specs.{Text.Text, Tree.Place}
use Rattle.comp_meaning.specs.Rules.{distinct}
use Rattle.plan_meaning.proofs.Lists.{any_get}
use Rattle.plan_type_laws.proofs.PartPlaces.{parts_weaker}
use Rattle.plan_laws.specs.FirstViews.{told}
use Rattle.comp_meaning.specs.Follow as follow
use Rattle.comp_meaning.specs.Reads as reads
use Rattle.read_parts.specs.declared.members.FollowedPart.TheVariants as followed
use Rattle.read_exports.specs.declared.members.Part.TheVariants as parts
use Rattle.comp_meaning.specs.Rules as rules

-- ---- names of types

abbrev pub names_of : List NumberedType → List Text
names_of xs = map (λ (x : NumberedType). x.name) xs

-- what an interface may have has names that differ: as it is seen from a place
tree_names : (t : Tables) (place : Place) (v : NumberedView) → rules.is_interface place (view_of t v) ≡ true → distinct (names_of v.types) ≡ true
tree_names t place v h = search (std_rules, map_of_map, distinct_front, second_true)

-- and in numbers
number_names : (t : Tables) (known : ℕ → Fact) (p : ℕ) (v : NumberedView) → is_interface t known p v ≡ true → distinct (names_of v.types) ≡ true
number_names t known p v h = search (std_rules, distinct_front, second_true)

-- ---- views that tell the same of types

module _ (t : Tables) (tables : AreTables t) (p : ℕ) where
  -- one name has one number
  pub same_numbers : (xs ys : List NumberedType) → map told xs ≡ map told ys → (ms ns : List ℕ) → AllZip (IsNumbered t p) xs ms → AllZip (IsNumbered t p) ys ns → ms ≡ ns
  same_numbers [] [] e [] [] a b = refl
  same_numbers [] [] e [] (n ∷ ns) a b = absurd b
  same_numbers [] (y ∷ ys) e ms ns a b = let wrong : ⊥ = cc in absurd wrong
  same_numbers (x ∷ xs) [] e ms ns a b = let wrong : ⊥ = cc in absurd wrong
  same_numbers (x ∷ xs) (y ∷ ys) e (m ∷ ms) (n ∷ ns) a b =
      let first : told x ≡ told y = cc in
      let more : map told xs ≡ map told ys = cc in
      let name : x.name ≡ y.name = ap (λ (z : Text × (Option ℕ × Option Text)). z.0) first in
      let one : m ≡ n = tables.shapes.apart m n (named_shape p x.name) a.0.1 (b.0.1 ∙ ap (λ z. Some (named_shape p z)) (sym name)) in
      let rest = same_numbers xs ys more ms ns a.1 b.1 in
      λ i. one i ∷ rest i
  same_numbers (x ∷ xs) (y ∷ ys) e (m ∷ ms) [] a b = absurd b
  same_numbers _ _ e _ ns a b = absurd a

  same_behind : (xs ys : List NumberedType) → map told xs ≡ map told ys → (ns : List ℕ) → AllZip (λ (x : NumberedType) n. AllOf (λ k. k < 14 + n) x.declared) ys ns
      → AllZip (λ (x : NumberedType) n. AllOf (λ k. k < 14 + n) x.declared) xs ns
  same_behind [] [] e ns a = a
  same_behind [] (y ∷ ys) e ns a = let wrong : ⊥ = cc in absurd wrong
  same_behind (x ∷ xs) [] e ns a = let wrong : ⊥ = cc in absurd wrong
  same_behind (x ∷ xs) (y ∷ ys) e [] a = absurd a
  same_behind (x ∷ xs) (y ∷ ys) e (n ∷ ns) a =
      let first : told x ≡ told y = cc in
      let more : map told xs ≡ map told ys = cc in
      (subst (AllOf (λ k. k < 14 + n)) (sym (ap (λ (z : Text × (Option ℕ × Option Text)). z.1.0) first)) a.0, same_behind xs ys more ns a.1)

  -- the names of a view rise where those of another do
  rises_too : (v u : NumberedView) → map told v.types ≡ map told u.types → IsPlacedView t p v → IsRisingView t p u → IsRisingView t p v
  rises_too v u e placed rising = search (std_rules, same_numbers, same_behind)

  -- ---- what is shown in a place

  pub met_in : (k : ℕ) → IsMetPart t p k → IsMetFrom t p k
  met_in k met = record { range = met.0; names = met.1 }

  pub all_met : (d : Option ℕ) → AllOf (IsMetPart t p) d → AllOf (IsMetFrom t p) d
  all_met x met = search std_rules

  slot_of : (s : NumberedSlot) (n : ℕ) → part_of s ≡ 14 + n → IsSlotOf t s n
  slot_of x n e = search std_rules

  types_in : (xs : List NumberedType) (ns : List ℕ) → AllZip (IsNumbered t p) xs ns → AllZip (λ (x : NumberedType) n. AllOf (λ k. k < 14 + n) x.declared) xs ns
      → AllByRecursion (TypePasses (IsMetPart t p)) xs → AllByRecursion (IsShownIn t p) xs
  types_in [] ns named behind met = tt
  types_in (x ∷ xs) [] named behind met = absurd named
  types_in (x ∷ xs) (n ∷ ns) named behind met = search (std_rules, all_met, slot_of, types_in xs ns named.1 behind.1 met.1)

  pub function_in : (n : ℕ) → (n < length t.functions) × PartsOf (IsMetPart t p) (function_at t n) → IsCalledIn t p n
  function_in n h = record { range = h.0; parts = parts_weaker (IsMetPart t p) (IsMetFrom t p) met_in (function_at t n) h.1 }

  view_is_in : (v : NumberedView) → IsPlacedView t p v → IsRisingView t p v → IsViewIn t p v
  view_is_in v placed rising = search (std_rules, types_in, recursion_weaker, function_in)

-- ---- the first instance of a place

abbrev is_of : ℕ → NumberedInstance → Bool
is_of q i = i.place == q

abbrev shows_place : ℕ → NumberedScope → Bool
shows_place q w = list_any (is_of q) w.instances

-- one of the place, before which none is
pub record IsFirstOf (ws : List NumberedScope) (q : ℕ) : Type 0 where
  pub scope_number : ℕ
  pub number : ℕ
  pub one : NumberedInstance
  pub at : IsInstanceAt ws scope_number number one
  pub place : one.place ≡ q
  pub first : IsFirstSeen ws scope_number number q

pub first_of_place : (ws : List NumberedScope) (m j : ℕ) (i : NumberedInstance) → IsInstanceAt ws m j i → IsFirstOf ws i.place
first_of_place ws m j i h = with_scope (first_passing (shows_place i.place) ws m h.scope h.at (get_any (is_of i.place) h.scope.instances j i h.instance_at (same-number i.place)))
  where
    with_instance : (w : IsFirstPassing (shows_place i.place) ws) → IsFirstPassing (is_of i.place) w.one.instances → IsFirstOf ws i.place
    with_instance w f = record {
      scope_number = w.number;
      number = f.number;
      one = f.one;
      at = record { scope = w.one; at = w.at; instance_at = f.at };
      place = eqb-true f.one.place i.place f.passes;
      first = record {
        scopes = λ k l u low there same. w.before k there.scope low there.at (get_any (is_of i.place) there.scope.instances l u there.instance_at (eq-eqb u.place i.place same));
        instances = λ l u low there same.
            f.before l u low (subst (λ (z : NumberedScope). slice_get z.instances l ≡ Some u) (one_item ws w.number there.scope w.one there.at w.at) there.instance_at) (eq-eqb u.place i.place same);
      };
    }

    with_scope : IsFirstPassing (shows_place i.place) ws → IsFirstOf ws i.place
    with_scope w = let found = any_get (is_of i.place) w.one.instances w.passes in with_instance w (first_passing (is_of i.place) w.one.instances found.0 found.1 found.2 found.3)

-- ---- members

-- the instance of which a view is
abbrev pub instance_shown : NumberedSight → NumberedInstance
instance_shown s = record { place = s.place; view = s.view }

module _ (pieces : List Piece) (x : Followed) (h : Homes) (ms : List Member) (members : List reads.Member) (input : IsReadInput pieces x h ms members) where
  abbrev t : Tables
  t = tables_of x

  abbrev ws : List NumberedScope
  ws = numbered_scopes x

  pub placed : ArePlacedScopes t ws
  placed = places_are_kept pieces x input.followed

  pub tables : AreTables t
  tables = (input_in_numbers pieces x input.followed).tables

  abbrev followed_members : List FollowedMember
  followed_members = x.members.items

  -- ---- what is well-formed

  pub members_stand : AllByRecursion MemberStands members
  members_stand = members_by_levels_stand input.followed.parts members (members_by_scopes pieces input.followed.parts input.followed.exported members input.reads)

  -- a world that is exported, and what it stands for
  pub record IsWorldRead (w : Scope) : Type 0 where
    pub scope : follow.Scope
    pub shows : Shows t (numbered_scope w) scope
    pub stands : WorldStands scope

  pub world_read : (m : Member) → Contains ms m → (w : Scope) → m.part ≡ parts.World w → IsWorldRead w
  world_read m c w is =
      let there = beside (IsMember t h) numbered_member ms members input.shown m c in
      by there.0.part (numbered_member m) (subst (λ a. ShowsPart t h (numbered_member m) (numbered_part a) there.0.part) is there.2.part) (all_at _ _ members_stand there.0 there.1).part
    where
      by : (b : reads.Part) (n : NumberedMember) → ShowsPart t h n (world (numbered_scope w)) b → PartStands b → IsWorldRead w
      by (reads.Part.world scope) n shows stands = record { scope = scope; shows = shows; stands = stands }
      by (reads.Part.interface view others) n shows stands = absurd shows

  -- ---- a member and what was followed

  abbrev part_in : FollowedPart → NumberedScope
  part_in a = followed_scope x.places (scope_of a)

  abbrev pub scope_in : FollowedMember → NumberedScope
  scope_in y = part_in y.part

  pub record IsBoth (m : ℕ) (member : Member) : Type 0 where
    pub one : FollowedMember
    pub there : slice_get followed_members m ≡ Some one
    pub at : slice_get ms m ≡ Some member
    pub part : IsPartOf t one.part member.part

  pub both_at : (m : ℕ) (member : Member) → slice_get ms m ≡ Some member → IsBoth m member
  both_at m member e = let y = zip_at (IsMemberOf t) followed_members ms input.are m member e in record { one = y.0; there = y.1; at = e; part = y.2.1 }

  pub both_there : (m : ℕ) (w : NumberedScope) → slice_get ws m ≡ Some w → (member : Member) × (b : IsBoth m member) × (scope_in b.one ≡ w)
  both_there m w e =
      let y = at_mapped scope_in followed_members m w e in
      let z = zip_there (IsMemberOf t) followed_members ms input.are m y.0 y.1 in
      (z.0, record { one = y.0; there = y.1; at = z.1; part = z.2.1 }, y.2)

  -- what is placed of the member of this number
  module _ (m : ℕ) (member : Member) (b : IsBoth m member) where
    pub scope_at : slice_get ws m ≡ Some (scope_in b.one)
    scope_at = mapped_get scope_in followed_members m b.one b.there

    pub scope_placed : IsPlacedScope t (scope_in b.one)
    scope_placed = placed.each m (scope_in b.one) scope_at

    pub seen_at : (j : ℕ) (i : NumberedInstance) → slice_get (scope_in b.one).instances j ≡ Some i → IsSeen (scope_in b.one) i
    seen_at j i e = either_seen (scope_in b.one) i (scope_placed.seen j i e)

    -- ---- views

    -- each instance is viewed
    pub part_viewed : (j : ℕ) (i : NumberedInstance) → slice_get (scope_in b.one).instances j ≡ Some i → IsViewed (views_of_part (numbered_part member.part)) i
    part_viewed j i e = by b.one.part member.part b.part e (seen_at j i e)
      where
        by : (a : FollowedPart) (c : Part) → IsPartOf t a c → slice_get (part_in a).instances j ≡ Some i → IsSeen (part_in a) i → IsViewed (views_of_part (numbered_part c)) i
        by (followed.World path s) (parts.World w) is there seen = record {
          whole = true;
          there = contains-map whole_view (numbered_scope w).instances i (get-contains (numbered_scope w).instances j i (ap (λ (z : NumberedScope). slice_get z.instances j) is.shows ∙ there));
        }
        by (followed.Interface s) (parts.Interface p v imports) is there seen = seen_viewed t (followed_scope x.places s) (p, numbered_view v) (map numbered_import imports.now)
            (of_views t (followed_scope x.places s) (p, numbered_view v) (map numbered_import imports.now) is) i seen
        by _ _ is there seen = absurd is

    -- a view is that of an instance
    pub record IsOfInstance (s : NumberedSight) : Type 0 where
      pub number : ℕ
      pub at : slice_get (scope_in b.one).instances number ≡ Some (instance_shown s)

    pub part_view : (s : NumberedSight) → Contains (views_of_part (numbered_part member.part)) s → IsOfInstance s
    part_view s c = let at = contains-get (scope_in b.one).instances (instance_shown s) (by b.one.part member.part b.part scope_placed c) in record { number = at.0; at = at.1 }
      where
        by : (a : FollowedPart) (p : Part) → IsPartOf t a p → IsPlacedScope t (part_in a) → Contains (views_of_part (numbered_part p)) s → Contains (part_in a).instances (instance_shown s)
        by (followed.World path f) (parts.World w) is good among =
            let from = from_map whole_view (numbered_scope w).instances s among in
            subst (λ (z : NumberedScope). Contains z.instances (instance_shown s)) is.shows (subst (Contains (numbered_scope w).instances) (ap instance_shown from.2) from.1)
        by (followed.Interface f) (parts.Interface p v imports) is good among = (instance_viewed t (followed_scope x.places f) (p, numbered_view v) (map numbered_import imports.now)
            (of_views t (followed_scope x.places f) (p, numbered_view v) (map numbered_import imports.now) is)
            good.imports good.exports good.imported good.exported s among).there
        by _ _ is good among = absurd is

    -- the views of an interface have paths
    pub interface_path : (p : ℕ) (v : NumberedView) (imports : List (ℕ × NumberedView)) → numbered_part member.part ≡ interface p v imports → (s : NumberedSight)
        → Contains (views_of_part (numbered_part member.part)) s → HasPath t s.place
    interface_path p v imports same s c = by b.one.part member.part b.part scope_placed same c
      where
        by : (a : FollowedPart) (q : Part) → IsPartOf t a q → IsPlacedScope t (part_in a) → numbered_part q ≡ interface p v imports → Contains (views_of_part (numbered_part q)) s → HasPath t s.place
        by (followed.World path f) (parts.World w) is good e among = let wrong : ⊥ = cc in absurd wrong
        by (followed.Interface f) (parts.Interface r u others) is good e among = (instance_viewed t (followed_scope x.places f) (r, numbered_view u) (map numbered_import others.now)
            (of_views t (followed_scope x.places f) (r, numbered_view u) (map numbered_import others.now) is)
            good.imports good.exports good.imported good.exported s among).path_there
        by _ _ is good e among = absurd is

    -- the scope of a world
    pub world_scope : (w : Scope) → member.part ≡ parts.World w → IsScopeOf t (scope_of b.one.part) w
    world_scope w e = by b.one.part (subst (IsPartOf t b.one.part) e b.part)
      where
        by : (a : FollowedPart) → IsPartOf t a (parts.World w) → IsScopeOf t (scope_of a) w
        by (followed.World path s) is = is
        by (followed.Interface s) is = absurd is

  -- ---- all views

  -- the view is in the list of all
  pub view_among : (m : ℕ) (member : Member) → slice_get ms m ≡ Some member → (s : NumberedSight) → Contains (views_of_part (numbered_part member.part)) s
      → Contains (views_of_members (numbered_members ms)) s
  view_among m member at s c = contains-flat (λ (y : NumberedMember). views_of_part y.part) (numbered_members ms) (numbered_member member) s (contains-map _ _ _ (get-contains _ m _ at)) c

  -- the member of this number, in numbers
  pub record IsNumberedAt (m : ℕ) (y : NumberedMember) : Type 0 where
    pub member : Member
    pub both : IsBoth m member
    pub is : numbered_member member ≡ y

  pub numbered_at : (m : ℕ) (y : NumberedMember) → slice_get (numbered_members ms) m ≡ Some y → IsNumberedAt m y
  numbered_at m y e = let from = at_mapped numbered_member ms m y e in record { member = from.0; both = both_at m from.0 from.1; is = from.2 }

  -- the instance of a view
  pub record IsInstance (m : ℕ) (s : NumberedSight) : Type 0 where
    pub number : ℕ
    pub at : IsInstanceAt ws m number (instance_shown s)

  pub instance_of_view : (m : ℕ) (member : Member) → IsBoth m member → (s : NumberedSight) → Contains (views_of_part (numbered_part member.part)) s → IsInstance m s
  instance_of_view m member b s c = let i = part_view m member b s c in record { number = i.number; at = record { scope = scope_in b.one; at = scope_at m member b; instance_at = i.at } }

  -- ---- instances of all views

  -- what an instance shows is over its own place and those with a path
  pub instance_placed : (m j : ℕ) (i : NumberedInstance) → IsInstanceAt (scopes_in x) m j i → IsPlacedView (tables_of x) i.place i.view
  instance_placed m j i there = (placed.each m there.scope there.at).instances j i there.instance_at

  module _ (known : ℕ → Fact) (obey : ViewsObey t known ms) where
    abbrev sights : List NumberedSight
    sights = sights_of_members t (numbered_members ms)

    -- the view of an instance
    record IsOfMember (m : ℕ) (i : NumberedInstance) : Type 0 where
      member : Member
      there : slice_get ms m ≡ Some member
      viewed : IsViewed (views_of_part (numbered_part member.part)) i

    of_member : (m j : ℕ) (i : NumberedInstance) → IsInstanceAt ws m j i → IsOfMember m i
    of_member m j i there =
        let b = both_there m there.scope there.at in
        record {
          member = b.0;
          there = b.1.at;
          viewed = part_viewed m b.0 b.1 j i (ap (λ (w : NumberedScope). slice_get w.instances j) b.2 ∙ there.instance_at);
        }

    abbrev sight : NumberedInstance → Bool → NumberedSight
    sight i whole = record { place = i.place; view = i.view; whole = whole }

    instance_sight : (m j : ℕ) (i : NumberedInstance) → IsInstanceAt ws m j i → HasPath t i.place → (whole : Bool) × Contains sights (sight i whole)
    instance_sight m j i there on_path =
        let of = of_member m j i there in
        (of.viewed.whole, sight_there t (numbered_members ms) (sight i of.viewed.whole) (view_among m of.member of.there (sight i of.viewed.whole) of.viewed.there) on_path)

    -- instances of one place tell the same of types
    pub told_same : (m j : ℕ) (i : NumberedInstance) → IsInstanceAt ws m j i → (n k : ℕ) (l : NumberedInstance) → IsInstanceAt ws n k l → i.place ≡ l.place
        → map told i.view.types ≡ map told l.view.types
    told_same m j i at n k l there same = by (path_at t i.place) refl
      where
        by : (o : Option Text) → path_at t i.place ≡ o → map told i.view.types ≡ map told l.view.types
        by (Some text) e =
            let a = instance_sight m j i at (text, e) in
            let b = instance_sight n k l there (text, ap (path_at t) (sym same) ∙ e) in
            one_told sights obey.agree (sight i a.0) (sight l b.0) a.1 b.1 same
        by None e =
            let one = placed.inline m n j k i l at there e same in
            ap (λ (z : NumberedInstance). map told z.view.types) (one_item there.scope.instances k i l
            (subst (λ (z : NumberedScope). slice_get z.instances k ≡ Some i) (one_item ws n at.scope there.scope (subst (λ a. slice_get ws a ≡ Some at.scope) one.0 at.at) there.at)
            (subst (λ a. slice_get at.scope.instances a ≡ Some i) one.1 at.instance_at)) there.instance_at)

    -- the names of its types differ
    names_apart : (m j : ℕ) (i : NumberedInstance) → IsInstanceAt ws m j i → distinct (names_of i.view.types) ≡ true
    names_apart m j i there = of_part b.0.part refl
      where
        b : (member : Member) × (b : IsBoth m member) × (scope_in b.one ≡ there.scope)
        b = both_there m there.scope there.at

        of_part : (a : Part) → b.0.part ≡ a → distinct (names_of i.view.types) ≡ true
        of_part (parts.World w) e =
            let read = world_read b.0 (get-contains _ m _ b.1.at) w e in
            tree_names t (follow.instance_place (path_at t i.place)) i.view (instances_obey read.scope read.stands (instance_of t i)
            (subst (λ is. Contains is (instance_of t i)) (sym read.shows.instances)
            (contains-map _ _ i (get-contains _ j i (ap (λ (z : NumberedScope). slice_get z.instances j) ((world_scope m b.0 b.1 w e).shows ∙ b.2) ∙ there.instance_at)))))
        of_part (parts.Interface p v imports) e =
            let of = of_member m j i there in
            (let s = instance_sight m j i there (interface_path m b.0 b.1 p (numbered_view v) (map numbered_import imports.now) (ap numbered_part e) (sight i of.viewed.whole)
            (subst (λ (y : Member). Contains (views_of_part (numbered_part y.part)) (sight i of.viewed.whole)) (one_item ms m of.member b.0 of.there b.1.at) of.viewed.there)) in
            number_names t known i.place i.view (all-contained (λ (y : NumberedSight). is_interface t known y.place y.view) sights (sight i s.0) obey.interfaces s.1))

    -- ---- all names rise

    pub instance_rises : (m j : ℕ) (i : NumberedInstance) → IsInstanceAt ws m j i → IsRisingView t i.place i.view
    instance_rises m j i there =
        let first = first_of_place ws m j i there in
        let rising = placed.firsts first.scope_number first.number first.one first.at (subst (IsFirstSeen ws first.scope_number first.number) (sym first.place) first.first)
        (names_apart first.scope_number first.number first.one first.at) in
        rises_too t tables i.place i.view first.one.view (told_same m j i there first.scope_number first.number first.one first.at (sym first.place))
        (instance_placed m j i there) (subst (λ q. IsRisingView t q first.one.view) first.place rising)

    pub instance_in : (m j : ℕ) (i : NumberedInstance) → IsInstanceAt ws m j i → IsViewIn t i.place i.view
    instance_in m j i there = view_is_in t tables i.place i.view (instance_placed m j i there) (instance_rises m j i there)
