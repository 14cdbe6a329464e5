-- The types of interfaces that had been shown at a cut have smaller numbers than it, and those of others don't.
use Rattle.std.proofs.Common.{rules as std_rules, ◌≡◌, refl, sym, ap, subst, ◌∙◌, ℕ, zero, suc, ◌+◌, ◌<◌, ◌≤◌, ◌⊎◌, inl, inr, arith, List, [], ◌∷◌, ◌++◌, length, length-append, take, Option, Some, slice_get, true, filter, map, Bool}
use Rattle.std.proofs.lemmas.{Bool.cases_lt, Option.same_Some as same-some, List.take-map, List.Elements.filter-append}
use Rattle.std.specs.List.{AllByRecursion, AllZip, flat_map, Contains}
use Rattle.wit_model.specs.{Text.Text, Meaning.WorldMeaning, Uses.once}
use Rattle.plan_meaning.specs.NumberedViews.{Tables, AreTables, path_at, NumberedSight, NumberedType, first_at}
use Rattle.plan_meaning.specs.NumberedWorlds.{declares, NumberedSeen, are_once, NumberedInstance, NumberedScope}
use Rattle.plan_meaning.specs.{Plan.PlannedItem, Plan.PlannedKey, Plan.PlannedWorld, Plan.PlannedInterface, Plan.numbers_of, Renumbering.IsPart}
use Rattle.plan_meaning.specs.{Shapes.named_shape, NumberedMembers.Homes, NumberedMembers.IsMember, NumberedRules.Fact}
use Rattle.read_exports.specs.declared.members.{Member.Member, Part.Part}
use Rattle.read_rules.specs.Scopes.{numbered_scope, numbered_seen, numbered_shown}
use Rattle.read_rules.specs.declared.scopes.{Scope.Scope, Seen.Seen, Shown.Shown}
use Rattle.plan_package.specs.WholeWorlds.{PlansItem, PlansWorld, a_function, a_type, an_instance, world_in_part, worlds_in}
use Rattle.plan_package.specs.{Views.views_of_members, WholeInterfaces.Home, WholeInterfaces.PlansPlace}
use Rattle.plan_laws.specs.ShownNames.{DeclaresName}
use Rattle.comp_read.specs.{Cuts.StandsBefore, Cuts.StandsBehind, Cuts.IsCut, Order.imports_in, Order.once_by_path, ReadInput.IsReadInput, ReadInput.ViewsObey}
use Rattle.base_lemmas.proofs.Elements.{all_at_too, zip_at_right, contains-map, map_from}
use Rattle.base_lemmas.proofs.Lists.{mapped_get, none_there, length_of_map, get_back}
use Rattle.comp_meaning.specs.Reads.{worlds_of_member}
use Rattle.plan_type_laws.specs.ShownMarks.{has_no_path}
use Rattle.plan_laws.proofs.OwnPlaces.{once_first}
use Rattle.read_exports.specs.Members.{numbered_member, numbered_members}
use Rattle.comp_read.proofs.{NumberedOrder.worlds_meant, TypeNumbers.same_part, TypeNumbers.shown_at, TypeNumbers.shown_number, TypeNumbers.told_parts}
use Rattle.comp_read.proofs.{ShownOrder.paths_once, ShownOrder.joined_behind, Members.instance_shown, Members.first_of_place, ShownScopes.scope_places}
use Rattle.comp_read.proofs.Cuts.{behind_front, early, late, of_front, split_flat}
use Rattle.comp_bytes.specs.Levels.{Piece}
use Rattle.plan_parts.specs.Kept.{AreMarked}
use Rattle.plan_types.specs.Orders.{joined_all}
use Rattle.read_parts.specs.declared.following.Followed.{Followed}
use Rattle.read_numbers.specs.{NumberedInput.tables_of, PlacedNumbers.part_of, PlacedNumbers.IsFirstSeen, PlacedNumbers.IsInstanceAt, PlacedNumbers.scopes_in}
use Rattle.plan_meaning.specs.Plan as plan
use Rattle.read_exports.specs.declared.members.Part.TheVariants as parts
use Rattle.read_rules.specs.declared.scopes.Shown.TheVariants as shown
use Rattle.comp_meaning.specs.Follow as follow
use Rattle.comp_meaning.specs.Reads as reads

-- ---- The types that worlds had imported at a cut have smaller numbers than it, and those of later imports don't.

-- ---- the worlds among members

-- how many worlds are among the first so many members
abbrev pub worlds_before : List Member → ℕ → ℕ
worlds_before ms m = length (worlds_in (take m ms))

-- the world of this number is that of a member
pub record IsWorldOf (ms : List Member) (k : ℕ) (v : Text × Scope) : Type 0 where
  pub number : ℕ
  pub member : Member
  pub at : slice_get ms number ≡ Some member
  pub is : member.part ≡ parts.World v.1
  pub count : k ≡ worlds_before ms number

one_more : (l : Text) (a : Part) (w : Scope) → a ≡ parts.World w → (rest : List (Text × Scope)) → length (world_in_part l a ++ rest) ≡ suc (length rest)
one_more l a w e rest = ap (λ (b : Part). length (world_in_part l b ++ rest)) e

pub world_of : (ms : List Member) (k : ℕ) (v : Text × Scope) → slice_get (worlds_in ms) k ≡ Some v → IsWorldOf ms k v
world_of [] k v e = absurd (none_there k v e)
world_of (y ∷ ms) k v e = by y.part refl (subst (λ (a : Part). slice_get (world_in_part y.label.now a ++ worlds_in ms) k ≡ Some v) refl e) (λ j f. world_of ms j v f)
  where
    by : (a : Part) → y.part ≡ a → slice_get (world_in_part y.label.now a ++ worlds_in ms) k ≡ Some v → ((j : ℕ) → slice_get (worlds_in ms) j ≡ Some v → IsWorldOf ms j v) → IsWorldOf (y ∷ ms) k v
    by (parts.World w) e f deeper = at_world k f
      where
        at_world : (k : ℕ) → slice_get ((y.label.now, w) ∷ worlds_in ms) k ≡ Some v → IsWorldOf (y ∷ ms) k v
        at_world zero f = record { number = 0; member = y; at = refl; is = e ∙ ap (λ (z : Text × Scope). parts.World z.1) (same-some (y.label.now, w) v f); count = refl }
        at_world (suc j) f =
            let d = deeper j f in
            record { number = suc d.number; member = d.member; at = d.at; is = d.is; count = ap suc d.count ∙ sym (one_more y.label.now y.part w e (worlds_in (take d.number ms))) }
    by (parts.Interface p v imports) e f deeper =
        let d = deeper k f in
        record {
          number = suc d.number;
          member = d.member;
          at = d.at;
          is = d.is;
          count = d.count ∙ sym (ap (λ (a : Part). length (world_in_part y.label.now a ++ worlds_in (take d.number ms))) e);
        }

fewer : (ms : List Member) (n m : ℕ) → n ≤ m → worlds_before ms n ≤ worlds_before ms m
fewer [] zero zero le = omega arith
fewer [] zero (suc m) le = omega arith
fewer [] (suc n) zero le = omega arith
fewer [] (suc n) (suc m) le = omega arith
fewer (y ∷ ms) zero m le = omega arith
fewer (y ∷ ms) (suc n) zero le = absurd (omega (arith, le))
fewer (y ∷ ms) (suc n) (suc m) le = search (std_rules, length-append, fewer ms n m (omega (arith, le)))

-- a world counts behind itself
counted : (ms : List Member) (m : ℕ) (y : Member) (w : Scope) → slice_get ms m ≡ Some y → y.part ≡ parts.World w → worlds_before ms (suc m) ≡ suc (worlds_before ms m)
counted [] m y w e is = absurd (none_there m y e)
counted (z ∷ ms) zero y w e is = one_more z.label.now z.part w (ap (λ (u : Member). u.part) (same-some z y e) ∙ is) []
counted (z ∷ ms) (suc m) y w e is = search (std_rules, length-append, counted ms m y w e is)

-- ---- where an import stands

module _ (ms : List Member) (m : ℕ) (y : Member) (y_at : slice_get ms m ≡ Some y) (many imports : ℕ) where
  -- the imports of the member, if it is a world, are so many; else none count
  pub record Counts : Type 0 where
    pub world : (w : Scope) → y.part ≡ parts.World w → imports ≡ many
    pub none : (0 < imports) → (w : Scope) × (y.part ≡ parts.World w)

  module _ (counts : Counts) (k j : ℕ) (v : Text × Scope) (o : IsWorldOf ms k v) where
    not_less : k ≡ worlds_before ms m → o.number < m → ⊥
    not_less same low = omega (arith, fewer ms (suc o.number) m (omega (arith, low)), counted ms o.number o.member v.1 o.at o.is, o.count, same)

    pub before_there : (k < worlds_before ms m) ⊎ ((k ≡ worlds_before ms m) × (j < imports)) → StandsBefore m many o.number j
    before_there (inl less) = elim (cases_lt o.number m) [ inl low ↦ inl low | inr past ↦ (let more = fewer ms m o.number past in let count = o.count in absurd (omega (arith, less, more, count))) ]
    before_there (inr (same, low)) = elim (cases_lt o.number m) [
      | inl less ↦ absurd (not_less same less)
      | inr past ↦ elim (cases_lt m o.number) [
        | inl beyond ↦
            let is = counts.none (omega (arith, low)) in
            absurd (omega (arith, fewer ms (suc m) o.number (omega (arith, beyond)), counted ms m y is.0 y_at is.1, o.count, same))
        | inr le ↦
            let is = counts.none (omega (arith, low)) in
            inr (omega (arith, past, le), omega (arith, low, counts.world is.0 is.1))
      ]
    ]

    pub behind_there : (worlds_before ms m < k) ⊎ ((k ≡ worlds_before ms m) × (imports ≤ j)) → StandsBehind m many o.number j
    behind_there (inl more) = elim (cases_lt m o.number) [ inl past ↦ inl past | inr le ↦ (let few = fewer ms o.number m le in let count = o.count in absurd (omega (arith, few, count, more))) ]
    behind_there (inr (same, far)) = search (std_rules, cases_lt, not_less, same-some)

-- ---- the type of an import

-- the number of a type that is imported, and the part that is kept for it
pub record IsImported (t : Tables) (kept : List ℕ) (home : ℕ) (imports : List NumberedSeen) (j a : ℕ) : Type 0 where
  pub seen : NumberedSeen
  pub at : slice_get imports j ≡ Some seen
  pub declared : Option ℕ
  pub is : seen.shown ≡ declares declared
  pub number : ℕ
  pub row : slice_get t.shapes number ≡ Some (named_shape home seen.key)
  pub kept_ : IsPart kept (14 + number) (14 + a)

module _ (t : Tables) (kept : List ℕ) (places : List ℕ) (n : ℕ) (v : Text × Scope) (p : PlannedWorld) (plans : PlansWorld t kept places n v p) (names : AllByRecursion
    (DeclaresName t v.1.home) v.1.imports.now) where
  pub imported : (j a : ℕ) (e : PlannedKey × PlannedItem) → slice_get p.imports j ≡ Some e → e.1 ≡ plan.declares a → IsImported t kept v.1.home (numbered_scope v.1).imports j a
  imported j a e at is =
      let u = zip_at_right (PlansItem t kept places plans.find) v.1.imports.now p.imports plans.imports j e at in
      by u.0 u.1 u.2
    where
      by : (s : Seen) → slice_get v.1.imports.now j ≡ Some s → PlansItem t kept places plans.find s e → IsImported t kept v.1.home (numbered_scope v.1).imports j a
      by s s_at (an_instance key view shows made) = search std_rules
      by s s_at (a_function k shows under made) = let wrong : plan.function made.function ≡ plan.declares a = sym made.is ∙ is in absurd cc
      by s s_at (a_type part d k shows made keeps) =
          let same : k ≡ a = same-some k a (ap plan.item_type (sym (ap (λ (x : PlannedKey × PlannedItem). x.1) made) ∙ is)) in
          let name = (subst (λ (z : Shown). DeclaresName t v.1.home (record s { shown = z })) shows (all_at_too (DeclaresName t v.1.home) v.1.imports.now names j s s_at)) in
          record {
            seen = numbered_seen s;
            at = mapped_get numbered_seen v.1.imports.now j s s_at;
            declared = d;
            is = ap numbered_shown shows;
            number = name.0;
            row = name.2;
            kept_ = subst (λ (q : ℕ). IsPart kept q (14 + a)) name.1 (subst (λ (q : ℕ). IsPart kept part (14 + q)) same keeps);
          }

-- ---- What had been shown at a cut, in numbers and by the parts and declarations that were read.

-- ---- beginnings of lists

pub zip_take : {A B : Type 0} (R : A → B → Type 0) (m : ℕ) (xs : List A) (ys : List B) → AllZip R xs ys → AllZip R (take m xs) (take m ys)
zip_take R zero [] [] all = tt
zip_take R (suc m) [] [] all = tt
zip_take R zero (x ∷ xs) (y ∷ ys) all = tt
zip_take R (suc m) (x ∷ xs) (y ∷ ys) all = (all.0, zip_take R m xs ys all.1)
zip_take R m _ _ all = absurd all

-- ---- places

module _ (t : Tables) (tables : AreTables t) where
  -- as many interfaces as paths, where places without one stand once
  pub many_places : (ps qs : List ℕ) → are_once (filter (has_no_path t) (ps ++ qs)) ≡ true → length (once ps) ≡ length (once_by_path (map (path_at t) ps))
  many_places ps qs alone =
      let front = once_first (filter (has_no_path t) ps) (filter (has_no_path t) qs) (ap are_once (sym (filter-append (has_no_path t) ps qs)) ∙ alone) in
      sym (length_of_map (path_at t) (once ps)) ∙ ap (λ (os : List (Option Text)). length os) (paths_once t tables ps front)

-- ---- worlds

-- as many worlds as are exported
pub many_worlds : (t : Tables) (h : Homes) (ms : List Member) (members : List reads.Member) → AllZip (IsMember t h) (numbered_members ms) members → (m : ℕ)
    → worlds_before ms m ≡ length (flat_map worlds_of_member (take m members))
many_worlds t h ms members zip m =
    let shorter = subst (λ ks. AllZip (IsMember t h) ks (take m members)) (take-map numbered_member m ms) (zip_take (IsMember t h) m (numbered_members ms) members zip) in
    sym (length_of_map (λ (w : Text × Scope). w.0) (worlds_in (take m ms)))
    ∙ (ap (λ (ts : List Text). length ts) (worlds_meant t h (take m ms) (take m members) shorter) ∙ length_of_map (λ (w : Text × WorldMeaning). w.0) (flat_map worlds_of_member (take m members)))

-- the imports that count are those of a world
pub counts_of : (t : Tables) (h : Homes) (ms : List Member) (m : ℕ) (k : Member) (at : slice_get ms m ≡ Some k) (y : reads.Member) → IsMember t h (numbered_member k) y → (scope : follow.Scope)
    → (many : ℕ) → length scope.imports ≡ many → Counts ms m k at many (imports_in y.part scope)
counts_of t h ms m k at y is scope many same = search std_rules

-- a type of the plan whose part is so
pub record IsSo (P : ℕ → Type 0) (kept : List ℕ) (c : ℕ) : Type 0 where
  pub part : ℕ
  pub is : IsPart kept part (14 + c)
  pub so : P part

-- ---- the types of interfaces that had been shown at a cut have smaller numbers than it, and those of others don't

module _ (pieces : List Piece) (x : Followed) (h : Homes) (ms : List Member) (members : List reads.Member) (input : IsReadInput pieces x h ms members) (known : ℕ
    → Fact) (obey : ViewsObey (tables_of x) known ms)
    (m : ℕ) (w : NumberedScope) (w_at : slice_get (scopes_in x) m ≡ Some w) (instances imports many : ℕ) (cut : IsCut (tables_of x) (scopes_in x) m instances imports many) where
  abbrev t : Tables
  t = tables_of x

  abbrev ws : List NumberedScope
  ws = scopes_in x

  abbrev pub shown_front : List ℕ
  shown_front = flat_map scope_places (take m ws) ++ take instances (scope_places w)

  -- an instance of the place of this one, of a scope where it stands
  there_in : (n j : ℕ) (u : NumberedScope) (q : ℕ) → slice_get ws n ≡ Some u → slice_get (scope_places u) j ≡ Some q → (o : NumberedInstance) × IsInstanceAt ws n j o × (o.place ≡ q)
  there_in n j u q u_at q_at = search (std_rules, get_back)

  -- a type of one of them is a type of the other
  told : (n j : ℕ) (i : NumberedInstance) → IsInstanceAt ws n j i → (k l : ℕ) (o : NumberedInstance) → IsInstanceAt ws k l o → i.place ≡ o.place → (y : NumberedType) → Contains i.view.types y
      → (z : NumberedType) × Contains o.view.types z × (part_of z.slot ≡ part_of y.slot)
  told n j i at k l o o_at same y c = map_from _ _ _ (subst (λ (ps : List ℕ). Contains ps (part_of y.slot)) (told_parts pieces x h ms members input known obey n j i at k l o o_at same)
      (contains-map _ _ y c))

  shown_low : (n j : ℕ) (i : NumberedInstance) → IsInstanceAt ws n j i → Contains shown_front i.place → (y : NumberedType) → Contains i.view.types y → part_of y.slot < 14 + many
  shown_low n j i at c y y_in =
      let f = of_front scope_places ws m w w_at instances i.place c in
      let o = there_in f.number f.inner f.one i.place f.at f.there in
      let z = told n j i at f.number f.inner o.0 o.1 (sym o.2) y y_in in
      subst (λ (p : ℕ). p < 14 + many) z.2 (cut.views_before f.number f.inner o.0 o.1 f.before z.0 z.1)

  shown_high : (n j : ℕ) (i : NumberedInstance) → IsInstanceAt ws n j i → (Contains shown_front i.place → ⊥) → (y : NumberedType) → Contains i.view.types y → 14 + many ≤ part_of y.slot
  shown_high n j i at none y y_in =
      let f = first_of_place ws n j i at in
      let z = told n j i at f.scope_number f.number f.one f.at (sym f.place) y y_in in
      let there = mapped_get (λ (o : NumberedInstance). o.place) f.at.scope.instances f.number f.one f.at.instance_at ∙ ap Some f.place in
      subst (λ (p : ℕ). 14 + many ≤ p) z.2 (cut.views_behind f.scope_number f.number f.one f.at (subst (IsFirstSeen ws f.scope_number f.number) (sym f.place) f.first)
      (behind_front scope_places ws m w w_at instances i.place none f.scope_number f.number f.at.scope f.at.at there) z.0 z.1)

  -- ---- the plan

  module _ (marks : List Bool) (kept : List ℕ) (marked : AreMarked marks kept) (n : ℕ) (homes : ℕ → Option Home) (seen : List NumberedSight)
      (within : (s : NumberedSight) → Contains seen s → Contains (views_of_members (numbered_members ms)) s) (ps : List ℕ) (met : ps ≡ joined_all [] (flat_map scope_places ws))
      (is : List PlannedInterface) (planned : AllZip (PlansPlace t kept n homes seen) ps is) (firsts : (k q : ℕ) → slice_get ps k ≡ Some q → (s : NumberedSight) × (first_at q seen ≡ Some s)) where
    all_split : (rest : List ℕ) × (flat_map scope_places ws ≡ shown_front ++ rest)
    all_split = split_flat scope_places ws m w w_at instances

    place_among : (k q : ℕ) → slice_get ps k ≡ Some q → slice_get (once (shown_front ++ all_split.0)) k ≡ Some q
    place_among k q e = ap (λ (zs : List ℕ). slice_get zs k) (sym (met ∙ (joined_behind [] (flat_map scope_places ws) ∙ ap once all_split.1))) ∙ e

    -- the instance that an interface is planned by, and a type of it
    record IsOfView (k c : ℕ) : Type 0 where
      place : ℕ
      at : slice_get ps k ≡ Some place
      scope : ℕ
      number : ℕ
      sight : NumberedSight
      there : IsInstanceAt ws scope number (instance_shown sight)
      same : sight.place ≡ place
      type_ : NumberedType
      among : Contains sight.view.types type_
      kept_ : IsPart kept (part_of type_.slot) (14 + c)

    of_view : (k : ℕ) (i : PlannedInterface) → slice_get is k ≡ Some i → (c : ℕ) → Contains (numbers_of i.types) c → IsOfView k c
    of_view k i i_at c c_in =
        let a = zip_at_right (PlansPlace t kept n homes seen) ps is planned k i i_at in
        let u = firsts k a.0 a.1 in
        let y = shown_number kept u.0.view i.types (a.2 u.0 u.1).types c c_in in
        let s = shown_at pieces x h ms members input known obey marks kept marked n homes seen within ps met is planned firsts a.0 u.0 u.1 in
        record {
          place = a.0;
          at = a.1;
          scope = s.scope;
          number = s.number;
          sight = u.0;
          there = s.at;
          same = s.place;
          type_ = y.0;
          among = y.1;
          kept_ = subst (λ (p : ℕ). IsPart kept p (14 + c)) (same_part y.0.slot) y.2;
        }

    pub interface_low : (k : ℕ) (i : PlannedInterface) → slice_get is k ≡ Some i → k < length (once shown_front) → (c : ℕ) → Contains (numbers_of i.types) c → IsSo (λ q. q < 14 + many) kept c
    interface_low k i i_at less c c_in =
        let v = of_view k i i_at c c_in in
        let front = early shown_front all_split.0 k v.place (place_among k v.place v.at) less in
        record {
          part = part_of v.type_.slot;
          is = v.kept_;
          so = shown_low v.scope v.number (instance_shown v.sight) v.there (subst (Contains shown_front) (sym v.same) front) v.type_ v.among;
        }

    pub interface_high : (k : ℕ) (i : PlannedInterface) → slice_get is k ≡ Some i → length (once shown_front) ≤ k → (c : ℕ) → Contains (numbers_of i.types) c → IsSo (λ q. 14 + many ≤ q) kept c
    interface_high k i i_at past c c_in =
        let v = of_view k i i_at c c_in in
        record {
          part = part_of v.type_.slot;
          is = v.kept_;
          so = shown_high v.scope v.number (instance_shown v.sight) v.there
              (λ d. late shown_front all_split.0 k v.place (place_among k v.place v.at) past (subst (Contains shown_front) v.same d)) v.type_ v.among;
        }
