-- The interfaces of a world's package that it shows, as they are meant: each is shown as the world shows it.
use Rattle.std.proofs.Common.{rules as std_rules, ◌≡◌, refl, sym, ap, subst, ◌∙◌, ℕ, zero, suc, ◌+◌, ◌≤◌, ◌⊎◌, inl, inr, arith, Bool, List, [], ◌∷◌, ◌++◌, map, length, Some, slice_get}
use Rattle.std.proofs.lemmas.Option.{slice_get_within, same_Some as same-some}
use Rattle.std.specs.List.{AllZip, Contains}
use Rattle.wit_model.specs.{Names.PackageIdentity, Names.path_in, Text.Text, Tree.Place}
use Rattle.wit_model.proofs.Elements.{contains-get}
use Rattle.comp_meaning.specs.Follow.{Instance, instance_place}
use Rattle.read_shown.specs.{Kinds.MemberHasKinds, Kinds.NamesHaveKinds, Kinds.ViewHasKinds, Views.IsMetInView, Views.ViewStands, Views.inside, Views.outside}
use Rattle.read_shown.specs.{Parts.MemberStands, Parts.PartStands, Parts.instances_of, Parts.named_instance, Scopes.IsShownBefore, Trees.AllAt}
use Rattle.read_shown.proofs.{Lists.front_more, ScopeWider.shown_wider, Views.view_wider}
use Rattle.plan_meaning.specs.NumberedMembers.{Homes, HomesStand, IsMember, NumberedMember, NumberedPart, interface, world}
use Rattle.plan_meaning.specs.NumberedViews.{AreTables, NumberedView, Tables, path_text, view_of}
use Rattle.plan_meaning.specs.NumberedWorlds.{NumberedScope, Shows, instance_of}
use Rattle.plan_type_laws.specs.MembersStand.{MembersStand, all_instances}
use Rattle.plan_laws.specs.OneWorld.{AreOwnInterfaces}
use Rattle.plan_laws.proofs.{MetNames.flat_cases, Sources.all_of}
use Rattle.comp_read.proofs.{OwnViews.own_at, ShownOrder.spelled_as}
use Rattle.base_lemmas.proofs.{Elements.contains-map, Elements.get-contains, Elements.last_of as one-contained, Elements.map_from as from_map, Lists.split_at}
use Rattle.comp_meaning.specs.Follow as follow
use Rattle.comp_meaning.specs.Reads as reads

-- ---- what an interface is meant as

abbrev tree_of_part : Tables → NumberedPart → reads.Part
tree_of_part t (interface p v imports) = reads.Part.interface (view_of t v) (map (λ (i : ℕ × NumberedView). (path_text t i.0, view_of t i.1)) imports)
tree_of_part t (world w) = reads.Part.interface (record { types = []; functions = [] }) []

abbrev pub own_tree : Tables → PackageIdentity → NumberedMember → reads.Member
own_tree t identity m = record { label = m.label; package_ = identity; part = tree_of_part t m.part }

zip_mapped : {A B : Type 0} (R : A → B → Type 0) (f : A → B) (xs : List A) → ((x : A) → Contains xs x → R x (f x)) → AllZip R xs (map f xs)
zip_mapped R f [] each = tt
zip_mapped R f (x ∷ xs) each = (each x (0, omega arith, refl), zip_mapped R f xs (λ y at. each y (suc at.0, (let low = at.1 in omega (arith, low)), at.2)))

module _ (t : Tables) (tables : AreTables t) (h : Homes) (stand : HomesStand t h) (n : ℕ) (identity : PackageIdentity) (there : slice_get h.packages n ≡ Some identity) (w : NumberedScope) (ms : List NumberedMember) (are : AreOwnInterfaces t h n w ms) where
  abbrev trees : List reads.Member
  trees = map (own_tree t identity) ms

  pub own_members : AllZip (IsMember t h) ms trees
  own_members = zip_mapped (IsMember t h) (own_tree t identity) ms (λ k c. record {
    label = refl;
    package_ = ap (slice_get h.packages) (own_at t h n w ms are k c).package_ ∙ there;
    part = search (std_rules, own_at t h n w ms are k c);
  })

  -- ---- what they show

  module _ (label : Text) (scope : follow.Scope) (shows : Shows t w scope) where
    abbrev one : reads.Member
    one = record { label = label; package_ = identity; part = reads.Part.world scope }

    -- the view under its path, as the world shows it
    abbrev named : NumberedMember → NumberedView → Instance
    named k v = named_instance (path_in identity k.label, view_of t v)

    own_named : (k : NumberedMember) (c : Contains ms k) → Contains scope.instances (named k (own_at t h n w ms are k c).view)
    own_named k c =
        let is = own_at t h n w ms are k c in
        let spelled = spelled_as t tables h stand n is.place k.label is.path is.home in
        subst (Contains scope.instances) (λ i. record {
          interface = (spelled.path ∙ ap (λ (i : PackageIdentity). Some (path_in i k.label)) (same-some _ _ (sym spelled.there ∙ there))) i;
          view = view_of t is.view;
        }) (subst (λ (xs : List Instance). Contains xs (instance_of t (record { place = is.place; view = is.view }))) (sym shows.instances) (contains-map _ _ _ is.among))

    abbrev alone : NumberedMember → NumberedView → reads.Member
    alone k v = record { label = k.label; package_ = identity; part = reads.Part.interface (view_of t v) [] }

    own_tree_is : (k : NumberedMember) (c : Contains ms k) → own_tree t identity k ≡ alone k (own_at t h n w ms are k c).view
    own_tree_is k c = ap (λ (a : NumberedPart). record { label = k.label; package_ = identity; part = tree_of_part t a }) (own_at t h n w ms are k c).part

    -- each instance that they show is one of the world's
    own_instance : (x : Instance) → Contains (all_instances trees) x → Contains scope.instances x
    own_instance x c =
        let from = flat_cases instances_of trees x c in
        let m = from_map (own_tree t identity) ms from.0 from.1 in
        subst (Contains scope.instances) (one-contained (named m.0 (own_at t h n w ms are m.0 m.1).view) x
        (subst (λ (y : reads.Member). Contains (instances_of y) x) (sym m.2 ∙ own_tree_is m.0 m.1) from.2)) (own_named m.0 m.1)

    -- ---- they are well-formed behind the world

    module _ (stands : MemberStands one) where
      abbrev all : List Instance
      all = scope.instances ++ all_instances trees

      ordered : (j k : ℕ) → j ≤ j + k
      ordered j k = omega arith

      view_stands : (j k : ℕ) → j ≤ k → (x : Instance) → ViewStands (IsShownBefore scope.instances j) (instance_place x.interface) x.view
          → ViewStands (IsShownBefore all k) (instance_place x.interface) x.view
      view_stands j k le x is = search (std_rules, view_wider, shown_wider, front_more)

      views_stand : AllAt (λ k (x : Instance). ViewStands (IsShownBefore all k) (instance_place x.interface) x.view) all
      views_stand k x e = by (split_at scope.instances (all_instances trees) k x e)
        where
          by : (slice_get scope.instances k ≡ Some x) ⊎ ((j : ℕ) × (k ≡ length scope.instances + j) × (slice_get (all_instances trees) j ≡ Some x))
              → ViewStands (IsShownBefore all k) (instance_place x.interface) x.view
          by (inl here) = view_stands k k (omega arith) x (stands.views k x here)
          by (inr later) =
              let at = contains-get scope.instances x (own_instance x (get-contains (all_instances trees) later.0 x later.2)) in
              view_stands at.0 k (omega (arith, slice_get_within scope.instances at.0 x at.1, later.1)) x (stands.views at.0 x at.1)

      pub world_members_stand : MembersStand (one ∷ trees)
      world_members_stand = record {
        views = views_stand;
        parts = (
          stands.part,
          all_of (λ (m : reads.Member). PartStands m.part) trees (λ m c.
              let from = from_map (own_tree t identity) ms m c in
              subst (λ (y : reads.Member). PartStands y.part) (sym (own_tree_is from.0 from.1) ∙ from.2) tt),
        );
      }

    -- ---- each name has one kind

    module _ (has : NamesHaveKinds (one ∷ [])) where
      abbrev kinds : Text → Text → Bool
      kinds = has.kinds

      -- fewer names are met in it alone
      kinds_alone : (k : NumberedMember) (v : NumberedView) (j : ℕ) → ViewHasKinds kinds scope.instances j (named k v) → ViewHasKinds kinds (named k v ∷ []) 0 (named k v)
      kinds_alone k v j is = record { own = is.own; shown = is.shown; met = λ i place name b met. is.met i place name b (wider i place name b met); types = is.types; functions = is.functions }
        where
          wider : (i : ℕ) (place : Place) (name : Text) (b : Bool) → IsMetInView (IsShownBefore (named k v ∷ []) 0) (instance_place (named k v).interface) (named k v).view i place name b
              → IsMetInView (IsShownBefore scope.instances j) (instance_place (named k v).interface) (named k v).view i place name b
          wider i place name b (inside here shown) = inside here shown
          wider i place name b (outside before) = absurd (let below = before.below in omega (arith, below))

      own_kinds : (k : NumberedMember) → Contains ms k → MemberHasKinds kinds (own_tree t identity k)
      own_kinds k c =
          let v = (own_at t h n w ms are k c).view in
          let at = contains-get scope.instances (named k v) (own_named k c) in
          subst (MemberHasKinds kinds) (sym (own_tree_is k c)) (record { views = views v at.0 (has.each.0.views at.0 (named k v) at.1); world = tt })
        where
          views : (v : NumberedView) (j : ℕ) → ViewHasKinds kinds scope.instances j (named k v) → AllAt (ViewHasKinds kinds (named k v ∷ [])) (named k v ∷ [])
          views v j is zero x e = subst (ViewHasKinds kinds (named k v ∷ []) 0) (same-some (named k v) x e) (kinds_alone k v j is)
          views v j is (suc i) x e = absurd cc

      pub world_names_have_kinds : NamesHaveKinds (one ∷ trees)
      world_names_have_kinds = record {
        kinds = kinds;
        each = (has.each.0, all_of (MemberHasKinds kinds) trees (λ m c. let from = from_map (own_tree t identity) ms m c in subst (MemberHasKinds kinds) from.2 (own_kinds from.0 from.1)));
      }
