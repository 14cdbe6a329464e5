-- The types that are named by then have smaller numbers than those that are named later.
use Rattle.std.proofs.Common.{◌≡◌, sym, ap, subst, ◌∙◌, ℕ, ◌+◌, ◌<◌, ◌≤◌, ◌⊎◌, arith, Bool, true, List, [], ◌++◌, length, map, take, Option, Some, slice_get}
use Rattle.std.specs.List.{AllByRecursion, AllZip, Contains, filter, flat_map}
use Rattle.indexmap.specs.IndexMap.{values}
use Rattle.wit_model.specs.declared.model.{Resolve.Resolve, TypeId.TypeId, World.World}
use Rattle.wit_model.specs.{Lookup.world_at as model_world, Text.Text, Uses.once}
use Rattle.comp_bytes.specs.Levels.{Entry, PartType, Piece}
use Rattle.comp_meaning.specs.{ByLevels.entry_step, Follow.new_scope, Reads.steps, Rules.distinct}
use Rattle.plan_meaning.specs.{Built.IsBuilt, Built.planned_item, Built.planned_key, Built.planned_world, Built.planned_interface, NumberedRules.Fact}
use Rattle.plan_meaning.specs.{NumberedViews.NumberedSight, NumberedViews.Tables, NumberedViews.first_at, NumberedViews.path_at, Plan.Plan}
use Rattle.plan_meaning.specs.NumberedWorlds.{NumberedScope, NumberedSeen, are_once}
use Rattle.plan_meaning.specs.NumberedMembers.{Homes, IsMember, NumberedMember}
use Rattle.plan_meaning.proofs.TypeOrder.{type_numbers_are}
use Rattle.plan_parts.specs.Kept.{AreMarked}
use Rattle.plan_types.specs.Orders.{joined_all}
use Rattle.plan_type_laws.specs.ShownMarks.{has_no_path}
use Rattle.plan_package.specs.{Views.views_of_members, WholeInterfaces.Home, WholeInterfaces.PlansPlace, WholeWorlds.PlansWorld, WholeWorlds.worlds_in}
use Rattle.plan_laws.specs.ShownNames.{PartDeclaresNames}
use Rattle.read_exports.specs.Members.{numbered_member, numbered_members}
use Rattle.read_exports.specs.declared.members.{Member.Member, Part.Part}
use Rattle.read_members.specs.PartMembers.{IsMemberOf}
use Rattle.read_numbers.specs.{NumberedInput.tables_of, NumberedParts.numbered_scope as followed_scope, PlacedNumbers.scopes_in}
use Rattle.read_parts.specs.{declared.following.Followed.Followed, declared.members.Member.Member as FollowedMember, Members.entries_of, Members.scope_of}
use Rattle.read_rules.specs.Scopes.{numbered_scope}
use Rattle.read_rules.specs.declared.scopes.Scope.{Scope}
use Rattle.comp_read.specs.Order.{HowMuch, IsNamedBefore, IsNamedBehind, once_by_path, shown_under, shown_until}
use Rattle.comp_read.specs.ReadInput.{IsReadInput, ViewsObey}
use Rattle.comp_read.proofs.{Cuts.IsCutOf, Cuts.cut_of, Cuts.split_flat, Members.both_at, Members.placed, Members.tables, Members.world_read}
use Rattle.comp_read.proofs.{CutOrder.IsSo, CutOrder.interface_high, CutOrder.interface_low, NumberedOrder.built_at, NumberedOrder.world_built_at}
use Rattle.comp_read.proofs.{Inputs.keys_differ, Inputs.world_at, TypeNumbers.kept_less}
use Rattle.comp_read.proofs.CutOrder.{counts_of, many_places, many_worlds, zip_take, Counts, IsImported, IsWorldOf, before_there, behind_there, imported, world_of, worlds_before}
use Rattle.comp_read.proofs.ShownScopes.{mapped_zip, scopes_under, scope_places}
use Rattle.base_lemmas.proofs.{Elements.all_at_too, Elements.get-contains, Elements.zip_at_right, Lists.append_of_map, Lists.get_back, Lists.mapped_get}
use Rattle.wit_model.specs.declared.model.WorldItem.TheVariants as item
use Rattle.comp_meaning.specs.Follow as follow
use Rattle.comp_meaning.specs.Reads as reads
use Rattle.plan_meaning.specs.Plan as plan
use Rattle.comp_read.specs.Order as named

module _ (pieces : List Piece) (x : Followed) (h : Homes) (ms : List Member) (members : List reads.Member) (input : IsReadInput pieces x h ms members) (known : ℕ
    → Fact) (obey : ViewsObey (tables_of x) known ms)
    (alone : are_once (filter (has_no_path (tables_of x)) (flat_map scope_places (scopes_in x))) ≡ true) (declared : AllByRecursion (λ (m : Member). PartDeclaresNames (tables_of x) m.part) ms) where
  abbrev t : Tables
  t = tables_of x

  abbrev ws : List NumberedScope
  ws = scopes_in x

  -- the member, as it was followed and as it is kept
  pub record IsRead (m : ℕ) (y : reads.Member) : Type 0 where
    pub kept : Member
    pub kept_at : slice_get ms m ≡ Some kept
    pub is : IsMember t h (numbered_member kept) y
    pub one : FollowedMember
    pub there : slice_get x.members.items m ≡ Some one

  pub read_at : (m : ℕ) (y : reads.Member) → slice_get members m ≡ Some y → IsRead m y
  read_at m y at =
      let k = zip_at_right (IsMember t h) (numbered_members ms) members input.shown m y at in
      let kept = get_back numbered_member ms m k.0 k.1 in
      let one = zip_at_right (IsMemberOf t) x.members.items ms input.are m kept.0 kept.1 in
      record { kept = kept.0; kept_at = kept.1; is = subst (λ (z : NumberedMember). IsMember t h z y) (sym kept.2) k.2; one = one.0; there = one.1 }

  module _ (m : ℕ) (raw : Text × PartType) (raw_at : slice_get input.followed.parts m ≡ Some raw) (y : reads.Member) (y_at : slice_get members m ≡ Some y) (front back : List Entry)
      (split : entries_of raw.1 ≡ front ++ back) (scope : follow.Scope) (read : steps entry_step new_scope front ≡ Some scope) where
    abbrev one : FollowedMember
    one = (read_at m y y_at).one

    abbrev w : NumberedScope
    w = followed_scope x.places (scope_of one.part)

    w_at : slice_get ws m ≡ Some w
    w_at = mapped_get (λ (f : FollowedMember). followed_scope x.places (scope_of f.part)) x.members.items m one (read_at m y y_at).there

    pub cut : IsCutOf t ws m w scope
    cut = cut_of pieces x input.followed (placed pieces x h ms members input) m raw raw_at one (read_at m y y_at).there front back split scope read

    abbrev front_places : List ℕ
    front_places = flat_map scope_places (take m ws) ++ take cut.instances (scope_places w)

    -- as many interfaces as the parts and the declarations show
    interfaces_are : length (once front_places) ≡ (shown_until members m y.part scope).interfaces
    interfaces_are =
        let rest = split_flat scope_places ws m w w_at cut.instances in
        let whole = subst (λ (ps : List ℕ). are_once (filter (has_no_path t) ps) ≡ true) rest.1 alone in
        many_places t (tables pieces x h ms members input) front_places rest.0 whole
        ∙ ap (λ (os : List (Option Text)). length (once_by_path os)) (append_of_map (path_at t) (flat_map scope_places (take m ws)) (take cut.instances (scope_places w))
        ∙ (λ i. (mapped_zip (path_at t) scope_places shown_under (take m ws) (take m members)
        (zip_take (λ (v : NumberedScope) (z : reads.Member). map (path_at t) (scope_places v) ≡ shown_under z) m ws members (scopes_under pieces x h ms members input))) i ++ sym cut.paths_are i))

    worlds_are : worlds_before ms m ≡ (shown_until members m y.part scope).worlds
    worlds_are = many_worlds t h ms members input.shown m

    -- ---- the plan

    module _ (marks : List Bool) (kept : List ℕ) (marked : AreMarked marks kept) (n : ℕ) (homes : ℕ → Option Home) (seen : List NumberedSight)
        (within : (s : NumberedSight) → Contains seen s → Contains (views_of_members (numbered_members ms)) s) (ps : List ℕ) (met : ps ≡ joined_all [] (flat_map scope_places ws)) (p : Plan)
        (planned : AllZip (PlansPlace t kept n homes seen) ps p.interfaces) (firsts : (k q : ℕ) → slice_get ps k ≡ Some q → (s : NumberedSight) × (first_at q seen ≡ Some s)) (places : List ℕ)
        (worlds : AllZip (PlansWorld t kept places n) (worlds_in ms) p.worlds) (r : Resolve) (built : IsBuilt p r) where
      -- an import of a world that is built
      record IsOfWorld (k j a : ℕ) : Type 0 where
        v : Text × Scope
        at : slice_get (worlds_in ms) k ≡ Some v
        owner : IsWorldOf ms k v
        import_ : IsImported t kept v.1.home (numbered_scope v.1).imports j a
        scope_at : slice_get ws owner.number ≡ Some (numbered_scope v.1)
        differ : distinct (map (λ (s : NumberedSeen). s.key) (numbered_scope v.1).imports) ≡ true

      of_world : (k j : ℕ) (v : World) (id : TypeId) → model_world r k ≡ Some v → slice_get (values v.imports) j ≡ Some (item.Type_ id) → (a : ℕ) → id.0 ≡ a → IsOfWorld k j a
      of_world k j v id v_at import_at a same =
          let u = zip_at_right (PlansWorld t kept places n) (worlds_in ms) p.worlds worlds k (planned_world v) (world_built_at p r built k v v_at) in
          let o = world_of ms k u.0 u.1 in
          let e = get_back (λ e. e.1) v.imports.entries j (item.Type_ id) import_at in
          record {
            v = u.0;
            at = u.1;
            owner = o;
            import_ = imported t kept places n u.0 (planned_world v) u.2 (subst (λ (a : Part). PartDeclaresNames t a) o.is
                (all_at_too (λ (z : Member). PartDeclaresNames t z.part) ms declared o.number o.member o.at)) j a (planned_key e.0.0, planned_item e.0.1)
                (mapped_get (λ e. (planned_key e.0, planned_item e.1)) v.imports.entries j e.0 e.1) (ap planned_item e.2 ∙ ap plan.declares same);
            scope_at = world_at pieces x h ms members input o.number o.member (both_at pieces x h ms members input o.number o.member o.at) u.0.1 o.is;
            differ = keys_differ pieces x h ms members input u.0.1 (world_read pieces x h ms members input o.member (get-contains ms o.number o.member o.at) u.0.1 o.is);
          }

      abbrev much : HowMuch
      much = shown_until members m y.part scope

      abbrev kept_member : IsRead m y
      kept_member = read_at m y y_at

      counts : Counts ms m kept_member.kept kept_member.kept_at cut.imports much.imports
      counts = counts_of t h ms m kept_member.kept kept_member.kept_at y kept_member.is scope cut.imports cut.imports_are

      low_of : (a : ℕ) → IsNamedBefore r much a → IsSo (λ q. q < 14 + cut.many) kept a
      low_of a (named.IsNamedBefore.in_interface k i i_at under c) = interface_low pieces x h ms members input known obey m w w_at cut.instances cut.imports cut.many cut.cut marks kept marked n homes
          seen within ps met p.interfaces planned firsts k (planned_interface i) (built_at p r built k i i_at) (subst (λ (c : ℕ). k < c) (sym interfaces_are) under) a
          (subst (λ (ns : List ℕ). Contains ns a) (sym (type_numbers_are i)) c)
      low_of a (named.IsNamedBefore.in_world k j v id v_at import_at same side) =
          let o = of_world k j v id v_at import_at a same in
          let before = before_there ms m kept_member.kept kept_member.kept_at cut.imports much.imports counts k j o.v o.owner
          (subst (λ (c : ℕ). (k < c) ⊎ ((k ≡ c) × (j < much.imports))) (sym worlds_are) side) in
          let number = cut.cut.types_before o.owner.number j (numbered_scope o.v.1) o.import_.seen o.import_.declared o.scope_at o.import_.at o.import_.is before o.import_.number o.import_.row in
          record { part = 14 + o.import_.number; is = o.import_.kept_; so = omega (arith, number) }

      high_of : (b : ℕ) → IsNamedBehind r much b → IsSo (λ q. 14 + cut.many ≤ q) kept b
      high_of b (named.IsNamedBehind.in_interface k i i_at over c) = interface_high pieces x h ms members input known obey m w w_at cut.instances cut.imports cut.many cut.cut marks kept marked n homes
          seen within ps met p.interfaces planned firsts k (planned_interface i) (built_at p r built k i i_at) (subst (λ (c : ℕ). c ≤ k) (sym interfaces_are) over) b
          (subst (λ (ns : List ℕ). Contains ns b) (sym (type_numbers_are i)) c)
      high_of b (named.IsNamedBehind.in_world k j v id v_at import_at same side) =
          let o = of_world k j v id v_at import_at b same in
          record {
            part = 14 + o.import_.number;
            is = o.import_.kept_;
            so = omega (
              arith,
              cut.cut.types_behind o.owner.number j (numbered_scope o.v.1) o.import_.seen o.import_.declared o.scope_at o.import_.at o.import_.is o.differ
                  (behind_there ms m kept_member.kept kept_member.kept_at cut.imports much.imports counts k j o.v o.owner
                  (subst (λ (c : ℕ). (c < k) ⊎ ((k ≡ c) × (much.imports ≤ j))) (sym worlds_are) side)) o.import_.number o.import_.row,
            );
          }

      pub named_less : (a b : ℕ) → IsNamedBefore r much a → IsNamedBehind r much b → a < b
      named_less a b before behind =
          let low = low_of a before in
          let high = high_of b behind in
          kept_less marks kept marked low.part high.part a b low.is high.is (omega (arith, low.so, high.so))
