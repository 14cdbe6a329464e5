-- Parts at the top that are followed into tables that grow.
use Rattle.std.proofs.Common.{rules as std_rules, ◌≡◌, inl, inr, refl, sym, ap, ◌∙◌, subst, ℕ, zero, suc, ◌+◌, ◌<◌, ◌≤◌, arith, List, [], ◌∷◌, ◌++◌, map, drop, length, length-append, get_or, Option, Some, slice_get}
use Rattle.std.proofs.lemmas.{List.append-nil, List.drop_more, List.map-append, Option.same_Some as same-some, Option.slice_get_within as found_below}
use Rattle.wit_model.specs.{Text.Text, Text.text_of, Tree.Place}
use Rattle.comp_bytes.specs.{Levels.Entry, Levels.PartType, Reading.◌>>=◌}
use Rattle.comp_meaning.specs.Follow.{Scope as MeantScope, each}
use Rattle.read_follow.specs.declared.{refusal.Refusal.Refusal, scopes.Scope.Scope}
use Rattle.read_follow.specs.{Defining.Grows, Following.AreTables, Functions.FunctionShape, PartTypes.raw_part_type, Placed.IsTypeNamed, Places.ArePlacesOf}
use Rattle.read_follow.specs.Found.{Refuses}
use Rattle.read_follow.specs.Scopes.{meant_at, world_of, ArePathsInOrder, IsPlacedAmong, IsShownBy, by_instance, by_import, IsStage, IsWorld, World}
use Rattle.plan_meaning.specs.Shapes.{Shape, named_shape, node_shape}
use Rattle.read_follow.proofs.{ComponentLaws.place_in, ComponentLaws.places_are, PlacedScopes.extended_placed, PlacedScopes.none_past, Refusing.refused}
use Rattle.read_follow.proofs.{DefiningLaws.all_at, DefiningLaws.longer, ScopeLaws.extended, ScopeLaws.extended_meant, ScopeLaws.extended_world, ScopeLaws.plus}
use Rattle.read_follow.proofs.{PlacedLaws.stands_on, PlacedLaws.stood, StepLaws.grow_on}
use Rattle.read_parts.specs.declared.{exported.ExportedPart.ExportedPart, members.FollowedPart.FollowedPart, members.Member.Member}
use Rattle.read_parts.specs.{Exported.raw_exported, Followed.PartScope, Followed.world, Followed.interface, Followed.labelled_scope, Followed.part_scope}
use Rattle.read_parts.specs.Members.{entries_of, member_meant, part_meant, parts_weight, scope_of, with_front, AreFollowedTo, AreImportsBelow, AreMembersPlaced, AreMembersStaged, ArePlacesBelow, AreTypesBelow, ArePlacesInOrder, ArePlacesMet, IsMetBefore, in_earlier, in_same, IsMetBySome, IsPartFollowed, IsPlacedMember, IsShownBySome, IsStagedMember, MembersStand, StandsIn}
use Rattle.read_parts.proofs.ExportLaws.{each_more, each_none}
use Rattle.base_lemmas.proofs.{Elements.all_end, Lists.at_last, Lists.heads_equal, Lists.last_or, Lists.length_of_map, Lists.mapped_get, Lists.slice_front}
use Rattle.read_parts.specs.declared.members.FollowedPart.TheVariants as followed

abbrev Paths : Type 0
Paths = List (Option Text)

-- places that are those of more paths
places_before : (paths more : Paths) → Grows paths more → (place : ℕ → Place) → ArePlacesOf more place → ArePlacesOf paths place
places_before paths more g place of n o e = of n o (ap (λ (ps : Paths). slice_get ps n) g.is ∙ (slice_front paths g.more n (found_below paths n o e) ∙ e))

-- ---- tables that grow

module _ (shapes : List Shape) (fs : List FunctionShape) (paths : Paths) (more : List Shape) (more_fs : List FunctionShape) (more_paths : Paths)
    (gs : Grows shapes more) (gf : Grows fs more_fs) (gp : Grows paths more_paths) (tables : AreTables (length more_paths) more more_fs) where
  module _ (scope : Scope) (st : IsWorld (world_of shapes fs paths scope)) where
    abbrev old : World
    old = world_of shapes fs paths scope

    abbrev longer_world : World
    longer_world = extended old st more more_fs more_paths gs gf gp tables [] [] [] [] []

    same_world : longer_world ≡ world_of more more_fs more_paths scope
    same_world = λ i. record {
      home = old.home;
      shapes = more;
      signatures = more_fs;
      paths = more_paths;
      slots = append-nil old.slots i;
      instances = append-nil old.instances i;
      imports = append-nil old.imports i;
      exports = append-nil old.exports i;
      used = append-nil old.used i;
    }

    world_stands : IsWorld (world_of more more_fs more_paths scope)
    world_stands = subst (λ (w : World). IsWorld w) same_world (extended_world old st more more_fs more_paths gs gf gp tables [] [] [] [] [] tt tt tt tt)

    pub placed_still : (base : List Shape) (count till : ℕ) → IsPlacedAmong base count till old → IsPlacedAmong base count till (world_of more more_fs more_paths scope)
    placed_still base count till p = subst (λ (w : World). IsPlacedAmong base count till w) same_world
        (extended_placed old st more more_fs more_paths gs gf gp tables [] [] [] [] [] base count till p [] till
        (let inside = p.within in let long = longer shapes more gs in omega (arith, inside, long)) tt
        (λ j x at past. absurd (none_past old.instances j x at past)) tt tt tt (tt, tt) (λ j x at past. absurd (none_past old.instances j x at past)) (λ n q name low at. inl low)
        (λ n form parts low at. inl low) refl (λ j s c at here past. absurd (none_past old.imports j s at past)))

    no_more : (m : MeantScope) → plus m [] [] [] [] [] ≡ m
    no_more m = λ i. record { slots = append-nil m.slots i; instances = append-nil m.instances i; imports = append-nil m.imports i; exports = append-nil m.exports i; used = append-nil m.used i }

    world_meant : (place : ℕ → Place) → meant_at place (world_of more more_fs more_paths scope) ≡ meant_at place old
    world_meant place = ap (meant_at place) (sym same_world) ∙ (extended_meant old st more more_fs more_paths gs gf gp tables [] [] [] [] [] place ∙ no_more (meant_at place old))

  part_stands : (p : FollowedPart) → StandsIn shapes fs paths p → StandsIn more more_fs more_paths p
  part_stands (followed.World path scope) st = world_stands scope st
  part_stands (followed.Interface scope) st = world_stands scope st

  part_same : (place : ℕ → Place) (p : FollowedPart) → StandsIn shapes fs paths p → part_meant more more_fs more_paths place p ≡ part_meant shapes fs paths place p
  part_same place (followed.World path scope) st = ap (world (text_of path)) (world_meant scope st place)
  part_same place (followed.Interface scope) st = ap interface (world_meant scope st place)

  shown_still : (scope : Scope) (q : ℕ) (name : Text) (part : ℕ) → IsShownBy (world_of shapes fs paths scope) q name part → IsShownBy (world_of more more_fs more_paths scope) q name part
  shown_still scope q name part (by_instance j x at is among) = by_instance j x at is among
  shown_still scope q name part (by_import j s label d at is named own) = by_import j s label d at is named own

  pub some_still : (ms : List Member) (upto q : ℕ) (name : Text) (part : ℕ) → IsShownBySome shapes fs paths ms upto q name part → IsShownBySome more more_fs more_paths ms upto q name part
  some_still ms upto q name part h = record { number = h.number; below = h.below; member = h.member; at = h.at; by = shown_still (scope_of h.member.part) q name part h.by }

  pub members_placed : (ms : List Member) → MembersStand shapes fs paths ms → AreMembersPlaced shapes fs paths ms → AreMembersPlaced more more_fs more_paths ms
  members_placed ms stand placed i m at =
      let h = placed i m at in
      record {
        base = h.base;
        count = h.count;
        till = h.till;
        placed = placed_still (scope_of m.part) (all_at (λ (x : Member). StandsIn shapes fs paths x.part) ms i m stand at) h.base h.count h.till h.placed;
        names = λ n q name e. some_still ms i q name (14 + n) (h.names n q name e);
        earlier = h.earlier;
        types_below = h.types_below;
      }

  stage_still : (base : List Shape) (count : ℕ) (es : List Entry) (scope : Scope) (n : ℕ) (w : World) → IsStage base count es (world_of shapes fs paths scope) n w
      → IsStage base count es (world_of more more_fs more_paths scope) n w
  stage_still base count es scope n w s = search (std_rules, grow_on)

  pub members_staged : (raws : List (Text × PartType)) (ms : List Member) → AreMembersStaged shapes fs paths raws ms → AreMembersStaged more more_fs more_paths raws ms
  members_staged raws ms staged i m raw at raw_at =
      let h = staged i m raw at raw_at in
      record {
        base = h.base;
        count = h.count;
        stages = λ n low. (let s = h.stages n low in (s.0, stage_still h.base h.count (entries_of raw.1) (scope_of m.part) n s.0 s.1));
        names = λ n q name e. some_still ms i q name (14 + n) (h.names n q name e);
        types_below = h.types_below;
        imports_below = h.imports_below;
      }

  pub members_stand : (ms : List Member) → MembersStand shapes fs paths ms → MembersStand more more_fs more_paths ms
  members_stand [] st = tt
  members_stand (m ∷ ms) st = (part_stands m.part st.0, members_stand ms st.1)

  pub members_same : (place : ℕ → Place) (ms : List Member) → MembersStand shapes fs paths ms → map (member_meant more more_fs more_paths place) ms ≡ map (member_meant shapes fs paths place) ms
  members_same place [] st = refl
  members_same place (m ∷ ms) st = λ i. (m.label.now, part_same place m.part st.0 i) ∷ members_same place ms st.1 i

-- ---- one part more

places_below : (shapes : List Shape) (fs : List FunctionShape) (paths : Paths) (p : FollowedPart) → StandsIn shapes fs paths p → ArePlacesBelow (length paths) p
places_below shapes fs paths p st = search (std_rules, found_below, all_at)

types_below : (shapes : List Shape) (fs : List FunctionShape) (paths : Paths) (p : FollowedPart) (base : List Shape) (count till : ℕ)
    → IsPlacedAmong base count till (world_of shapes fs paths (scope_of p)) → AreTypesBelow (length shapes) p
types_below shapes fs paths p base count till placed j x at n t t_at =
    let name = all_at (IsTypeNamed shapes x.place) x.view.types.items n t (placed.instances j x at).named t_at in
    let low = found_below shapes name.number (named_shape x.place t.name.now) name.at in
    let number = name.is in
    omega (arith, low, number)

imports_below : (shapes : List Shape) (fs : List FunctionShape) (paths : Paths) (p : FollowedPart) → StandsIn shapes fs paths p → AreImportsBelow (length shapes) p
imports_below shapes fs paths p st j s at label part d is = search (std_rules, all_at)

module _ (shapes : List Shape) (fs : List FunctionShape) (paths : Paths) (ms : List Member) (m : Member) where
  abbrev more_members : List Member
  more_members = ms ++ m ∷ []

  front : Grows ms more_members
  front = record { more = m ∷ []; is = refl }

  -- shown among more
  some_more : (upto wide q : ℕ) (name : Text) (part : ℕ) → upto ≤ wide → IsShownBySome shapes fs paths ms upto q name part → IsShownBySome shapes fs paths more_members wide q name part
  some_more upto wide q name part le h = record {
    number = h.number;
    below = (let low = h.below in omega (arith, low, le));
    member = h.member;
    at = stands_on ms more_members front h.number h.member h.at;
    by = h.by;
  }

  -- met by more
  met_more : (q : ℕ) → IsMetBySome ms q → IsMetBySome more_members q
  met_more q h = record { number = h.number; member = h.member; at = stands_on ms more_members front h.number h.member h.at; met = h.met }

  met_before_more : (i j q : ℕ) → IsMetBefore ms i j q → IsMetBefore more_members i j q
  met_before_more i j q (in_earlier k x less at met) = in_earlier k x less (stands_on ms more_members front k x at) met
  met_before_more i j q (in_same x at met) = in_same x (stands_on ms more_members front i x at) met

  -- places in their order, and those that one part more shows
  pub order_more : (wide : Paths) → Grows paths wide → MembersStand shapes fs paths ms → ArePlacesMet paths ms → ArePlacesInOrder paths ms
      → ArePathsInOrder (length paths) wide (scope_of m.part).instances.items → ArePlacesInOrder wide more_members
  order_more wide grows stand met order here i y at j x there q path at_path less = elim (last_or ms m i y at) [
    | inl h ↦
        let low = (places_below shapes fs paths y.part (all_at (λ (z : Member). StandsIn shapes fs paths z.part) ms i y stand h.1)).instances j x there in
        met_before_more i j q (order i y h.1 j x there q path (stood paths wide grows q (Some path) (omega (arith, less, low)) at_path) less)
    | inr h ↦
        let last : m ≡ y = h.1 in
        let x_there : slice_get (scope_of m.part).instances.items j ≡ Some x = ap (λ (z : Member). slice_get (scope_of z.part).instances.items j) last ∙ there in
        elim (here j x x_there q path at_path less) [
          | inl below ↦
              let by = met q path (stood paths wide grows q (Some path) below at_path) in
              let low = found_below ms by.number by.member by.at in
              let number = h.0 in
              in_earlier by.number by.member (omega (arith, low, number)) (stands_on ms more_members front by.number by.member by.at) by.met
          | inr before ↦ in_same m (subst (λ (n : ℕ). slice_get more_members n ≡ Some m) (sym h.0) (at_last ms m)) before
        ]
  ]

  placed_before : (i : ℕ) (x : Member) → i < length ms → IsPlacedMember shapes fs paths ms i x → IsPlacedMember shapes fs paths more_members i x
  placed_before i x below h = record {
    base = h.base;
    count = h.count;
    till = h.till;
    placed = h.placed;
    names = λ n q name e. some_more i i q name (14 + n) (omega arith) (h.names n q name e);
    earlier = λ k y e less. h.earlier k y (stood ms more_members front k y (omega (arith, less, below)) e) less;
    types_below = λ k y e less. h.types_below k y (stood ms more_members front k y (omega (arith, less, below)) e) less;
  }

  pub placed_more : AreMembersPlaced shapes fs paths ms → IsPlacedMember shapes fs paths more_members (length ms) m → AreMembersPlaced shapes fs paths more_members
  placed_more placed one i x at = elim (last_or ms m i x at) [
    | inl h ↦ placed_before i x h.0 (placed i x h.1)
    | inr h ↦ subst (λ (y : Member). IsPlacedMember shapes fs paths more_members i y) h.1 (subst (λ (n : ℕ). IsPlacedMember shapes fs paths more_members n m) (sym h.0) one)
  ]

  -- so behind the entries of each
  staged_before : (i : ℕ) (x : Member) (es : List Entry) → i < length ms → IsStagedMember shapes fs paths ms i x es → IsStagedMember shapes fs paths more_members i x es
  staged_before i x es below h = record {
    base = h.base;
    count = h.count;
    stages = h.stages;
    names = λ n q name e. some_more i i q name (14 + n) (omega arith) (h.names n q name e);
    types_below = λ k y e less. h.types_below k y (stood ms more_members front k y (omega (arith, less, below)) e) less;
    imports_below = λ k y e less. h.imports_below k y (stood ms more_members front k y (omega (arith, less, below)) e) less;
  }

  pub staged_more : (raws : List (Text × PartType)) (raw : Text × PartType) → slice_get raws (length ms) ≡ Some raw → AreMembersStaged shapes fs paths raws ms
      → IsStagedMember shapes fs paths more_members (length ms) m (entries_of raw.1) → AreMembersStaged shapes fs paths raws more_members
  staged_more raws raw here staged one i x r at r_at = elim (last_or ms m i x at) [
    | inl h ↦ staged_before i x (entries_of r.1) h.0 (staged i x r h.1 r_at)
    | inr h ↦
        let last : raw ≡ r = same-some raw r (sym here ∙ (ap (slice_get raws) (sym h.0) ∙ r_at)) in
        subst (λ (y : Member). IsStagedMember shapes fs paths more_members i y (entries_of r.1)) h.1
        (subst (λ (n : ℕ). IsStagedMember shapes fs paths more_members n m (entries_of r.1)) (sym h.0)
        (subst (λ (y : Text × PartType). IsStagedMember shapes fs paths more_members (length ms) m (entries_of y.1)) last one))
  ]

-- what is left begins with the item of its number
left_first : {A : Type 0} (xs : List A) (i : ℕ) (y : A) (ys : List A) → drop i xs ≡ y ∷ ys → slice_get xs i ≡ Some y
left_first [] zero y ys e = absurd cc
left_first [] (suc i) y ys e = absurd cc
left_first (x ∷ xs) zero y ys e = ap Some (heads_equal x y xs ys e)
left_first (x ∷ xs) (suc i) y ys e = left_first xs i y ys e

left_long : {A : Type 0} (xs : List A) (i : ℕ) (y : A) (ys : List A) → drop i xs ≡ y ∷ ys → i + length (drop i xs) ≡ length xs
left_long [] zero y ys e = absurd cc
left_long [] (suc i) y ys e = absurd cc
left_long (x ∷ xs) zero y ys e = omega arith
left_long (x ∷ xs) (suc i) y ys e = let rest = left_long xs i y ys e in omega (arith, rest)

-- ---- one part after the other

module _ (before : ℕ) (xs : List ExportedPart) where
  abbrev raws : List (Text × PartType)
  raws = map raw_exported xs

  abbrev left : ℕ → List (Text × PartType)
  left i = map raw_exported (drop i xs)

  module _ (i : ℕ) (shapes : List Shape) (fs : List FunctionShape) (paths : Paths) (ms : List Member) (f : AreFollowedTo before raws (left i) shapes fs paths ms) where
    module _ (d : ExportedPart) (more : i < length xs) where
      abbrev one : ExportedPart
      one = get_or xs i d

      pub one_followed : (shapes' : List Shape) (fs' : List FunctionShape) (paths' : Paths) (m : Member) (new : List Member) → new ≡ ms ++ m ∷ [] → m.label.now ≡ one.label.now
          → IsPartFollowed shapes fs paths (raw_part_type one.part) shapes' fs' paths' m.part → AreFollowedTo before raws (left (i + 1)) shapes' fs' paths' new
      one_followed shapes' fs' paths' m new last label s =
          let tables = s.stands.tables in
          let first : drop i xs ≡ one ∷ drop (i + 1) xs = drop_more xs i d more in
          let weight = ap parts_weight (ap (map raw_exported) first) in
          let number : length ms ≡ i = (let a = f.many in let b = length_of_map raw_exported (drop i xs) in let c = length_of_map raw_exported xs in
          let e = left_long xs i one (drop (i + 1) xs) first in omega (arith, a, b, c, e)) in
          let here : slice_get raws (length ms) ≡ Some (raw_exported one) = ap (slice_get raws) number ∙ mapped_get raw_exported xs i one (left_first xs i one (drop (i + 1) xs) first) in
          let before_count = f.count in
          let step = s.count in
          subst (λ (ns : List Member). AreFollowedTo before raws (left (i + 1)) shapes' fs' paths' ns) (sym last) (record {
            tables = tables;
            stand = all_end (λ (x : Member). StandsIn shapes' fs' paths' x.part) ms m
                (members_stand shapes fs paths shapes' fs' paths' s.shapes_grow s.signatures_grow s.paths_grow tables ms f.stand) s.stands;
            count = omega (arith, before_count, step, weight);
            placed = placed_more shapes' fs' paths' ms m (members_placed shapes fs paths shapes' fs' paths' s.shapes_grow s.signatures_grow s.paths_grow tables ms f.stand f.placed) (record {
              base = shapes;
              count = length paths;
              till = length shapes';
              placed = s.placed;
              names = λ n q name e. some_more shapes' fs' paths' ms m (length ms) (length ms) q name (14 + n) (omega arith)
                  (some_still shapes fs paths shapes' fs' paths' s.shapes_grow s.signatures_grow s.paths_grow tables ms (length ms) q name (14 + n) (f.names n q name e));
              earlier = λ k x e less. places_below shapes fs paths x.part (all_at (λ (y : Member). StandsIn shapes fs paths y.part) ms k x f.stand
                  (stood ms (ms ++ m ∷ []) (record { more = m ∷ []; is = refl }) k x less e));
              types_below = λ k x e less.
                  let h = f.placed k x (stood ms (ms ++ m ∷ []) (record { more = m ∷ []; is = refl }) k x less e) in
                  types_below shapes fs paths x.part h.base h.count h.till h.placed;
            });
            met = λ q path at. elim (s.met q path at) [
              | inl below ↦ met_more shapes' fs' paths' ms m q (f.met q path (stood paths paths' s.paths_grow q (Some path) below at))
              | inr met ↦ record { number = length ms; member = m; at = at_last ms m; met = met }
            ];
            order = order_more shapes fs paths ms m paths' s.paths_grow f.stand f.met f.order s.order;
            many = (let a = length-append ms (m ∷ []) in let b = f.many in let c = ap (λ (zs : List (Text × PartType)). length zs) (ap (map raw_exported) first) in omega (arith, a, b, c));
            staged = staged_more shapes' fs' paths' ms m raws (raw_exported one) here
                (members_staged shapes fs paths shapes' fs' paths' s.shapes_grow s.signatures_grow s.paths_grow tables raws ms f.staged) (record {
                  base = shapes;
                  count = length paths;
                  stages = s.stages;
                  names = λ n q name e. some_more shapes' fs' paths' ms m (length ms) (length ms) q name (14 + n) (omega arith)
                      (some_still shapes fs paths shapes' fs' paths' s.shapes_grow s.signatures_grow s.paths_grow tables ms (length ms) q name (14 + n) (f.names n q name e));
                  types_below = λ k x e less.
                      let h = f.placed k x (stood ms (ms ++ m ∷ []) (record { more = m ∷ []; is = refl }) k x less e) in
                      types_below shapes fs paths x.part h.base h.count h.till h.placed;
                  imports_below = λ k x e less. imports_below shapes fs paths x.part (all_at (λ (y : Member). StandsIn shapes fs paths y.part) ms k x f.stand
                      (stood ms (ms ++ m ∷ []) (record { more = m ∷ []; is = refl }) k x less e));
                });
            formed = λ n form parts at. elim (s.placed.formed n form parts (found_below shapes' n (node_shape form parts) at) at) [
              | inl below ↦ f.formed n form parts (stood shapes shapes' s.shapes_grow n (node_shape form parts) below at)
              | inr formed ↦ formed
            ];
            names = λ n q name at.
                let long = length-append ms (m ∷ []) in
                elim (s.placed.names n q name (found_below shapes' n (named_shape q name) at) at) [
                  | inl below ↦ some_more shapes' fs' paths' ms m (length ms) (length (ms ++ m ∷ [])) q name (14 + n) (omega (arith, long))
                      (some_still shapes fs paths shapes' fs' paths' s.shapes_grow s.signatures_grow s.paths_grow tables ms (length ms) q name (14 + n)
                      (f.names n q name (stood shapes shapes' s.shapes_grow n (named_shape q name) below at)))
                  | inr by ↦ record { number = length ms; below = omega (arith, long); member = m; at = at_last ms m; by = by }
                ];
            shows = λ place of.
                let kept = f.shows place (places_before paths paths' s.paths_grow place of) in
                let same = members_same shapes fs paths shapes' fs' paths' s.shapes_grow s.signatures_grow s.paths_grow tables place ms f.stand in
                let now : labelled_scope (raw_exported one) ≡ Some (member_meant shapes' fs' paths' place m) =
                ap (λ o. o >>= λ p. let y : Text × PartScope = (one.label.now, p) in Some y) (s.shows place of) ∙ ap
                (λ t. let y : Text × PartScope = (t, part_meant shapes' fs' paths' place m.part) in Some y) (sym label) in
                let front = map (member_meant shapes' fs' paths' place) ms in
                ap (λ ys. with_front ys (each labelled_scope (left (i + 1)))) (map-append (member_meant shapes' fs' paths' place) ms (m ∷ []))
                ∙ each_more labelled_scope raw_exported xs i front (each labelled_scope raws) (ap (λ ys. with_front ys (each labelled_scope (left i))) same ∙ kept) d more
                (member_meant shapes' fs' paths' place m) now;
          })

      pub one_absent : (e : Refusal) → Refuses e (part_scope (raw_part_type one.part)) → Refuses e (each labelled_scope raws)
      one_absent e r =
          let place = place_in paths in
          refused e (part_scope (raw_part_type one.part)) (each labelled_scope raws)
          (λ none. each_none labelled_scope raw_exported xs i (map (member_meant shapes fs paths place) ms) (each labelled_scope raws) (f.shows place (places_are paths)) d more
          (ap (λ o. o >>= λ p. let y : Text × PartScope = (one.label.now, p) in Some y) none)) r

-- all parts stand for what is followed of them
pub whole_meant : (before : ℕ) (rs : List (Text × PartType)) (shapes : List Shape) (fs : List FunctionShape) (paths : Paths) (ms : List Member) → AreFollowedTo before rs [] shapes fs paths ms
    → (place : ℕ → Place) → ArePlacesOf paths place → each labelled_scope rs ≡ Some (map (member_meant shapes fs paths place) ms)
whole_meant before rs shapes fs paths ms f place of = sym (f.shows place of) ∙ ap Some (append-nil (map (member_meant shapes fs paths place) ms))

-- nothing is followed yet
pub none_followed : (rs : List (Text × PartType)) (shapes : List Shape) (fs : List FunctionShape) (paths : Paths) (ms : List Member) → shapes ≡ [] → paths ≡ [] → ms ≡ []
    → AreTables (length paths) shapes fs → AreFollowedTo (length shapes) rs rs shapes fs paths ms
none_followed rs y fs paths ms no_shapes no_paths no_members tables = search std_rules
