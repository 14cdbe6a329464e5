-- The imports of a world stand under keys that differ, and a world has a place of its own.
use Rattle.std.proofs.lemmas.Bool.{false_from_ne_true}
use Rattle.std.proofs.Common.{rules as std_rules, ◌≡◌, refl, sym, ap, subst, ◌∙◌, ℕ, ◌+◌, arith, true, false, cond, List, [], ◌∷◌, ◌++◌, length, map, Option, Some, None, slice_get, Bool}
use Rattle.std.proofs.lemmas.{List.append-nil, List.append_assoc, Option.slice_get_within, Option.same_Some as same-some, Slice.Zip.AllZip-long as zip_length}
use Rattle.plan_type_laws.proofs.{PartPlaces.slot_number, FirstFound.firsts_found}
use Rattle.std.specs.{Cmp.Lexicographic.pointwise, List.Contains, List.flat_map, Option.option_map_or}
use Rattle.wit_model.specs.declared.model.TypeOwner.{TypeOwner}
use Rattle.wit_model.specs.{Text.Text, Uses.has, Valid.as_interface, Valid.as_world}
use Rattle.wit_model.proofs.Elements.{contains-flat, contains-get, has-contains, none-in}
use Rattle.plan_meaning.specs.{FollowedNumbers.IsShownIn, GatheredPlan.DeclaresKind, Shapes.named_shape, ReadFunctions.Beside}
use Rattle.plan_meaning.specs.{NumberedMembers.Homes, NumberedMembers.NumberedMember, NumberedMembers.home_at, NumberedMembers.sights_of_members, Plan.Plan}
use Rattle.plan_meaning.specs.NumberedWorlds.{place_of_key, NumberedScope, NumberedSeen, NumberedShown, are_once}
use Rattle.plan_meaning.specs.NumberedViews.{NumberedSight, Tables, agree_in_numbers, same_shown, path_at}
use Rattle.read_exports.specs.Members.{numbered_members, numbered_part}
use Rattle.read_exports.specs.declared.members.{Member.Member, Part.Part}
use Rattle.read_rules.specs.{Scopes.numbered_key, Scopes.numbered_scope, Scopes.numbered_seen, Scopes.numbered_shown, Tables.given_text, Views.numbered_view}
use Rattle.read_rules.specs.declared.scopes.{Scope.Scope, Seen.Seen, Shown.Shown}
use Rattle.plan_types.specs.Orders.{home_of_part, joined_all}
use Rattle.plan_types.specs.{PlannedTypes.PlansType, PlannedTypes.number_in, Showings.NumberedShowing, Showings.showings_of_members}
use Rattle.plan_package.specs.{PlanWhole.PlansWhole, PlanWhole.owners_in, PlanWhole.places_in, PlanWhole.shown_first, Views.views_of_members}
use Rattle.plan_package.specs.WholeWorlds.{world_in_part, worlds_in}
use Rattle.plan_laws.specs.{FirstViews.ViewsAreOrdered, Owners.homes_in, Owners.owners_of, ShownNames.IsInput}
use Rattle.plan_laws.specs.WorldItems.{InstancesAreRead, KeysAreApart, PlannedWorldsStand, TypesAreRead, WorldsAreApart}
use Rattle.plan_laws.proofs.ViewsAgree.{views_told, home_frame, view_frame, first_is, told_types}
use Rattle.plan_laws.proofs.{Sources.IsOnce, Sources.number_given, OwnPlaces.Owned, OwnPlaces.a_view, OwnPlaces.a_world, OwnPlaces.frames, OwnPlaces.one_owned}
use Rattle.plan_laws.proofs.{ShownRules.import_named, Owned.planned_name, Owned.first_there, Owned.interface_there, Owned.kept_number, Owned.place_seen}
use Rattle.plan_laws.proofs.MetNames.{flat_cases, name_same}
use Rattle.plan_laws.proofs.Sources.{origin, seen_sight, view_among, world_in, member_view_in, one_under, IsWorldIn, sight_of}
use Rattle.base_lemmas.proofs.Elements.{all_at, contains-one, get-contains, last_of as one-contained, contains-map}
use Rattle.base_lemmas.proofs.Lists.{front_at as at_front, get_back as unmapped_get, mapped_get, middle_get, within_there as slice_there, map_of_map}
use Rattle.base_lemmas.proofs.Bools.{third_of}
use Rattle.plan_package.proofs.ReadPackageLaws.{number_at as number_there}
use Rattle.read_shown.proofs.Lists.{one_place}
use Rattle.comp_meaning.specs.Rules.{distinct}
use Rattle.plan_type_laws.specs.ShownMarks.{own_places}
use Rattle.comp_meaning.specs.Reads as reads
use Rattle.read_exports.specs.declared.members.Part.TheVariants as parts
use Rattle.read_rules.specs.declared.scopes.Shown.TheVariants as shown
use Rattle.plan_laws.proofs.Sources as origins
use Rattle.plan_meaning.specs.NumberedWorlds as worlds

-- ---- What the worlds of a plan import and export, beside functions, is as it was followed.

declared_of : Shown → Option ℕ
declared_of (shown.Declares g o) = o
declared_of _ = None

same_declared : (k l : ℕ) (a c : Option ℕ) → shown.Declares k a ≡ shown.Declares l c → a ≡ c
unfolding declared_of
same_declared k l a c e = ap declared_of e

-- ---- places that are all new

once_front : (p : ℕ) (met ps : List ℕ) → IsOnce (met ++ p ∷ ps) → has met p ≡ false
once_front p met ps once = false_from_ne_true (has met p) (λ e.
    let there = contains-get met p (has-contains met p e) in
    omega (arith, slice_get_within met there.0 p there.1, (once there.0 (length met) p (at_front met (p ∷ ps) there.0 p there.1) (middle_get met p ps))))

all_new : (met ps : List ℕ) → IsOnce (met ++ ps) → joined_all met ps ≡ met ++ ps
all_new met [] once = sym (append-nil met)
all_new met (p ∷ ps) once =
    let same : (met ++ p ∷ []) ++ ps ≡ met ++ p ∷ ps = append_assoc met (p ∷ []) ps in
    ap (λ b. joined_all (cond b met (met ++ p ∷ [])) ps) (once_front p met ps once) ∙ (all_new (met ++ p ∷ []) ps (subst IsOnce (sym same) once) ∙ same)

abbrev pub home_of_world : Text × Scope → ℕ
home_of_world w = w.1.home

pub homes_of_worlds : (ms : List Member) → flat_map (λ (m : NumberedMember). home_of_part m.part) (numbered_members ms) ≡ map home_of_world (worlds_in ms)
homes_of_worlds [] = refl
homes_of_worlds (m ∷ ms) = by m.part (homes_of_worlds ms)
  where
    by : (a : Part) → flat_map (λ (x : NumberedMember). home_of_part x.part) (numbered_members ms) ≡ map home_of_world (worlds_in ms)
        → home_of_part (numbered_part a) ++ flat_map (λ (x : NumberedMember). home_of_part x.part) (numbered_members ms) ≡ map home_of_world (world_in_part m.label.now a ++ worlds_in ms)
    by (parts.World w) rest = ap (λ hs. w.home ∷ hs) rest
    by (parts.Interface p v imports) rest = rest

-- the member that a world is of
pub world_member : (ms : List Member) (w : Text × Scope) → Contains (worlds_in ms) w → (m : Member) × Contains ms m × (m.part ≡ parts.World w.1) × (m.label.now ≡ w.0)
world_member ms w c =
    let from = flat_cases (λ (m : Member). world_in_part m.label.now m.part) ms w c in
    let is = of_part from.0.label.now from.0.part from.2 in
    (from.0, from.1, is.0, is.1)
  where
    of_part : (l : Text) (a : Part) → Contains (world_in_part l a) w → (a ≡ parts.World w.1) × (l ≡ w.0)
    of_part l (parts.World x) among = let same = one-contained (l, x) w among in (ap (λ (y : Text × Scope). parts.World y.1) same, ap (λ (y : Text × Scope). y.0) same)
    of_part l (parts.Interface p v imports) among = none-in w among

module _ (t : Tables) (h : Homes) (ms : List Member) (members : List reads.Member) (input : IsInput t h ms members) (agreed : agree_in_numbers (sights_of_members t (numbered_members ms)) ≡ true)
    (ordered : ViewsAreOrdered t ms) (worlds_apart : WorldsAreApart ms)
    (n : ℕ) (p : Plan) (planned : PlansWhole t h.packages (home_at h) n ms p) (b : Beside) (beside_owners : b.owners ≡ owners_of ms) where
  -- ---- owners

  worlds_once : IsOnce (map home_of_world (worlds_in ms))
  worlds_once i j q at_i at_j = search (std_rules, unmapped_get)

  homes_are : homes_in ms ≡ map home_of_world (worlds_in ms)
  homes_are = ap (joined_all []) (homes_of_worlds ms) ∙ all_new [] (map home_of_world (worlds_in ms)) worlds_once

  no_place : (q : ℕ) → Contains (homes_in ms) q → number_in (places_in ms) q ≡ None
  no_place q c = by (number_in (places_in ms) q) refl
    where
      by : (o : Option ℕ) → number_in (places_in ms) q ≡ o → o ≡ None
      by None e = refl
      by (Some k) e =
          let seen = place_seen ms q (get-contains (places_in ms) k q (number_there (places_in ms) q k e)) in
          absurd (ordered.apart seen.0 seen.1 (subst (Contains (homes_in ms)) (sym seen.2) c))

  module _ (m : ℕ) (w : Text × Scope) (at : slice_get (worlds_in ms) m ≡ Some w) where
    home_there : slice_get (homes_in ms) m ≡ Some w.1.home
    home_there = ap (λ hs. slice_get hs m) homes_are ∙ mapped_get home_of_world (worlds_in ms) m w at

    home_number : number_in (homes_in ms) w.1.home ≡ Some m
    home_number =
        let given = number_given (homes_in ms) w.1.home (get-contains (homes_in ms) m w.1.home home_there) in
        given.1 ∙ ap Some (subst IsOnce (sym homes_are) worlds_once given.0 m w.1.home (number_there (homes_in ms) w.1.home given.0 given.1) home_there)

    owned : b.owners w.1.home ≡ as_world m
    owned = ap (λ (o : ℕ → TypeOwner). o w.1.home) beside_owners ∙ (ap (λ o. option_map_or as_interface o
        (option_map_or as_world (number_in (homes_in ms) w.1.home) (as_interface (length (places_in ms) + w.1.home))))
        (no_place w.1.home (get-contains (homes_in ms) m w.1.home home_there)) ∙ ap (λ o. option_map_or as_world o (as_interface (length (places_in ms) + w.1.home))) home_number)

    -- ---- the member

    member : (x : Member) × Contains ms x × (x.part ≡ parts.World w.1) × (x.label.now ≡ w.0)
    member = world_member ms w (get-contains (worlds_in ms) m w at)

    -- ---- instances

    instances_read : InstancesAreRead t ms planned.kept p b m w.1
    instances_read s c key v e u number =
        let q = place_of_key (numbered_key key) in
        let there = number_there (places_in ms) q u number in
        let found = interface_there t h ms members input n p planned u q there in
        let first = first_there t h ms members input n p planned u q there in
        let is = first_is q (views_of_members (numbered_members ms)) first.0 first.1 in
        record {
          owned = ap (λ (o : ℕ → TypeOwner). o q) beside_owners ∙ ap (λ o. option_map_or as_interface o
              (option_map_or as_world (number_in (homes_in ms) q) (as_interface (length (places_in ms) + q)))) number;
          interface = found.0;
          there = found.1;
          agrees = ap (λ o. pointwise same_shown (option_map_or (λ (x : NumberedSight). x.view.types) o []) (numbered_view v).types) first.1 ∙ told_types first.0.view.types
              (numbered_view v).types (views_told t h ms members input agreed ordered first.0 (sight_of key v) is.0
              (seen_sight t ms member.0 member.1 w.1 member.2 (world_in t h ms members input member.0 member.1 w.1 member.2).good s c key v e) is.1);
        }

    -- ---- types

    -- a world of this place is this one
    same_world : (x : Member) → Contains ms x → (v : Scope) → x.part ≡ parts.World v → v.home ≡ w.1.home → v ≡ w.1
    same_world x x_there v world home =
        let there = contains-get (worlds_in ms) (x.label.now, v) (contains-flat (λ (y : Member). world_in_part y.label.now y.part) ms x (x.label.now, v) x_there
        (subst (λ a. Contains (world_in_part x.label.now a) (x.label.now, v)) (sym world) (contains-one (x.label.now, v)))) in
        ap (λ (y : Text × Scope). y.1) (same-some (x.label.now, v) w (sym there.1 ∙ (ap (slice_get (worlds_in ms)) (worlds_apart there.0 m (x.label.now, v) w there.1 at home) ∙ at)))

    module _ (keys : KeysAreApart w.1) where
      -- what is shown of the type first is this import
      import_first : (s : Seen) → Contains w.1.imports.now s → (part : ℕ) (d : Option ℕ) → s.shown ≡ shown.Declares part d → (k : ℕ) → slice_get t.shapes k ≡ Some (named_shape w.1.home s.key.now)
          → (y : NumberedShowing) → shown_first ms k ≡ Some y → (y.declared ≡ d) × (y.external_id ≡ given_text s.external_id)
      import_first s c part d e k shape y first =
          let found = (firsts_found (showings_of_members ms)).0 k y first in
          let from = origin t h ms members input y found.0 in
          by from.0 from.1 from.2 found.1
        where
          by : (x : Member) → Contains ms x → origins.IsShownIn x.part y → y.part ≡ 14 + k → (y.declared ≡ d) × (y.external_id ≡ given_text s.external_id)
          by x x_there (origins.in_view u u_there z z_there same) number =
              let among = view_among ms x x_there u u_there in
              let is = all_at (IsShownIn t u.place) u.view.types (member_view_in t ms input.numbers u among).types z z_there in
              absurd (ordered.apart u among (subst (Contains (homes_in ms)) (sym (name_same t.shapes u.place w.1.home z.name s.key.now is.number k is.name.named shape
              (let a = ap (λ (g : NumberedShowing). g.part) same in omega (arith, a, number, slot_number t z.slot is.number is.slot))).0) (get-contains (homes_in ms) m w.1.home home_there)))
          by x x_there (origins.of_world v world other other_there kk dd declares same) number =
              let name = import_named t input.tables h ms members input x x_there v world other other_there kk dd declares in
              let equal : name.0 ≡ k = (let a = ap (λ (g : NumberedShowing). g.part) same in let u = name.1 in omega (arith, a, number, u)) in
              let here = name_same t.shapes v.home w.1.home other.key.now s.key.now name.0 k name.2.named shape equal in
              let at_s = contains-get w.1.imports.now s c in
              let at_other = contains-get w.1.imports.now other (subst (λ (g : Scope). Contains g.imports.now other) (same_world x x_there v world here.0) other_there) in
              let equal_seen : other ≡ s = same-some other s (sym at_other.1 ∙ (ap (slice_get w.1.imports.now) (keys at_other.0 at_s.0 other s at_other.1 at_s.1 here.1) ∙ at_s.1)) in (
                ap (λ (g : NumberedShowing). g.declared) (sym same) ∙ same_declared kk part dd d (sym declares ∙ (ap (λ (g : Seen). g.shown) equal_seen ∙ e)),
                ap (λ (g : NumberedShowing). g.external_id) (sym same) ∙ ap (λ (g : Seen). given_text g.external_id) equal_seen,
              )

      types_read : TypesAreRead t ms planned.kept p b w.1
      types_read s c part d e j is =
          let name = import_named t input.tables h ms members input member.0 member.1 w.1 member.2 s c part d e in
          let kept_there = kept_number planned.kept part name.0 j name.1 is in
          let type_ = slice_there p.types j (omega (
            arith,
            zip_length (PlansType t planned.kept (shown_first ms) (owners_in ms)) planned.kept p.types planned.types,
            slice_get_within planned.kept j name.0 kept_there,
          )) in
          let is_named = planned_name t h ms members input n p planned j name.0 type_.0 w.1.home s.key.now type_.1 kept_there name.2.named in
          let tells = import_first s c part d e name.0 name.2.named is_named.showing is_named.first in (
            name.0,
            kept_there,
            name.2.named,
            record { type_ = type_.0; stands = type_.1; kind = subst (λ o. DeclaresKind t planned.kept p o type_.0.kind) tells.0 is_named.kind; same_id = is_named.same_id ∙ tells.1 },
          )

pub planned_worlds_stand : PlannedWorldsStand
planned_worlds_stand t h ms members input agreed ordered apart n p planned b owners m w at = search (std_rules, owned, instances_read, types_read)

-- ---- the imports of a world stand under keys that differ, and a world has a place of its own

-- the import of a key is one
pub one_key : (ss : List NumberedSeen) → distinct (map (λ (s : NumberedSeen). s.key) ss) ≡ true → (a b : NumberedSeen) → Contains ss a → Contains ss b → a.key ≡ b.key → a ≡ b
one_key = one_under (λ (s : NumberedSeen). s.key)

abbrev pub declared_in : Option ℕ → NumberedShown → Option ℕ
declared_in default (worlds.declares d) = d
declared_in default _ = default

abbrev pub is_world_owned : Owned → Bool
is_world_owned (a_world w) = true
is_world_owned (a_view v) = false

abbrev pub world_owned : NumberedScope → Owned → NumberedScope
world_owned default (a_world w) = w
world_owned default (a_view v) = default

module _ (t : Tables) (h : Homes) (ms : List Member) (members : List reads.Member) (input : IsInput t h ms members) (apart : are_once (own_places t (numbered_members ms)) ≡ true) where
  pub keys_apart : (w : Scope) → IsWorldIn t h ms members input w → distinct (map (λ (s : NumberedSeen). s.key) (map numbered_seen w.imports.now)) ≡ true
  keys_apart w is = search (std_rules, map_of_map, third_of)

  -- the keys of its imports differ
  pub keys_differ : (w : Scope) → IsWorldIn t h ms members input w → KeysAreApart w
  keys_differ w is i j a c at_a at_c same =
      let key = λ (s : NumberedSeen). s.key in
      one_place (map key (map numbered_seen w.imports.now)) (keys_apart w is) i j c.key.now
      (mapped_get key (map numbered_seen w.imports.now) i (numbered_seen a) (mapped_get numbered_seen w.imports.now i a at_a) ∙ ap Some same)
      (mapped_get key (map numbered_seen w.imports.now) j (numbered_seen c) (mapped_get numbered_seen w.imports.now j c at_c))

  -- worlds of one place show the same
  pub one_world : (m n : Member) → Contains ms m → Contains ms n → (w v : Scope) → m.part ≡ parts.World w → n.part ≡ parts.World v → w.home ≡ v.home → numbered_scope w ≡ numbered_scope v
  one_world m n c d w v is_w is_v same =
      let scope = numbered_scope v in
      ap (world_owned scope) (one_owned t (numbered_members ms) apart v.home (world_in t h ms members input n d v is_v).good.home (a_world (numbered_scope w)) (a_world scope)
      (subst (λ q. Contains {X = ℕ × Owned} (frames (numbered_members ms)) (q, a_world (numbered_scope w))) same (home_frame t h ms members input apart m c w is_w))
      (home_frame t h ms members input apart n d v is_v))

  -- no view is of the place of a world
  pub view_apart : (s : NumberedSight) → Contains (views_of_members (numbered_members ms)) s → (m : Member) → Contains ms m → (w : Scope) → m.part ≡ parts.World w → s.place ≡ w.home → ⊥
  view_apart s in_views m c w is same =
      let none = (world_in t h ms members input m c w is).good.home in
      let there = subst (λ q. Contains {X = ℕ × Owned} (frames (numbered_members ms)) (q, a_view s.view)) same (view_frame t h ms members input apart s in_views (ap (path_at t) same ∙ none)) in
      let owned = one_owned t (numbered_members ms) apart w.home none (a_view s.view) (a_world (numbered_scope w)) there (home_frame t h ms members input apart m c w is) in
      let wrong : false ≡ true = ap is_world_owned owned in cc

  -- imports of worlds that are of one name are one
  pub by_imports : (m : Member) → Contains ms m → (w : Scope) → m.part ≡ parts.World w → (a : Seen) → Contains w.imports.now a → (part : ℕ) (d : Option ℕ) → a.shown ≡ shown.Declares part d
      → (k : Member) → Contains ms k → (v : Scope) → k.part ≡ parts.World v → (b : Seen) → Contains v.imports.now b → (other : ℕ) (e : Option ℕ) → b.shown ≡ shown.Declares other e
      → part ≡ other → d ≡ e
  by_imports m c w is_w a a_in part d a_shows k g v is_v b b_in other e b_shows same =
      let a_name = import_named t input.tables h _ _ input m c w is_w a a_in _ d a_shows in
      let b_name = import_named t input.tables h _ _ input k g v is_v b b_in _ e b_shows in
      let one : a_name.0 ≡ b_name.0 = (let p = a_name.1 in let q = b_name.1 in omega (arith, p, q, same)) in
      let name = name_same _ _ _ _ _ _ _ a_name.2.named b_name.2.named one in
      ap (declared_in e) (sym (ap numbered_shown a_shows) ∙ (ap (λ (x : NumberedSeen). x.shown)
      (one_key _ (keys_apart v (world_in t h _ _ input k g v is_v)) _ _ (subst (λ (x : NumberedScope). Contains x.imports (numbered_seen a)) (one_world m k c g w v is_w is_v name.0)
      (contains-map numbered_seen _ a a_in)) (contains-map numbered_seen _ b b_in) name.1) ∙ ap numbered_shown b_shows))
