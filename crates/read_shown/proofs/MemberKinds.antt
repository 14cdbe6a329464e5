-- Each name has one kind in all parts of a package.
use Rattle.std.proofs.Common.{rules as std_rules, ◌≡◌, ◌⊎◌, inl, inr, refl, sym, ap, subst, ◌∙◌, ℕ, zero, suc, arith, Bool, true, List, [], ◌∷◌, ◌++◌, map, flat_map, length, Option, Some, None, slice_get}
use Rattle.std.proofs.lemmas.List.Elements.{Contains-append_cases as in_either}
use Rattle.std.specs.List.{AllByRecursion, Contains, list_all}
use Rattle.wit_model.specs.{Text.Text, Names.PackageIdentity, Names.path_in, Tree.Place}
use Rattle.wit_model.proofs.Elements.{none-in}
use Rattle.comp_meaning.specs.Follow.{each, Instance, Seen, Shown, Scope, Direction, import_, export_, instance_place}
use Rattle.comp_meaning.specs.Rules.{are_imports, distinct, is_interface, is_item, is_world, resources_seen}
use Rattle.comp_meaning.specs.Reads.{Part, Member, all_agree, are_interfaces, sights}
use Rattle.read_shown.specs.{Trees.AllAt, Views.ViewStands}
use Rattle.read_shown.specs.{Scopes.IsShownBefore, Parts.named_instance, Parts.instances_of, Parts.PartStands, Parts.MemberStands}
use Rattle.read_shown.specs.{Instances.instance_of, Instances.instances_in, Instances.going, Kinds.PartHasKinds, Kinds.MemberHasKinds, Kinds.NamesHaveKinds}
use Rattle.read_shown.proofs.Agreement.{names_differ, paths_alike, paths_differ, seen_in_all, seen_in_member, Alike, IsSeenIn, NamesDiffer}
use Rattle.read_shown.proofs.{FoundKinds.kinds, FoundKinds.kinds_are, FoundKinds.view_kinds, OneKind.before_somewhere, OneKind.AllStand, OneKind.IsOfPath}
use Rattle.read_shown.proofs.{Lists.at_end, Uses.path_once, WorldKinds.export_is, WorldKinds.import_is, WorldKinds.met_is, WorldKinds.own_kind}
use Rattle.base_lemmas.proofs.{Bools.left_of as first_true, Bools.right_of as second_true, Elements.all_at_too, Elements.contains-later}
use Rattle.base_lemmas.proofs.{Lists.get_back as unmapped_get, Lists.mapped_get, Options.some_is}

-- ---- the views of a world obey the rules on interfaces

abbrev Obeys : Instance → Type 0
Obeys x = is_interface (instance_place x.interface) x.view ≡ true

-- what an import or an export is, in whichever order
shown_obeys : (resources : List Text) (key : Text) (s : Shown) → is_item resources key s ≡ true → (x : Instance) → Contains (instance_of s) x → Obeys x
shown_obeys resources key y e x c = search std_rules

imports_obey : (earlier xs : List Seen) → are_imports earlier xs ≡ true → (x : Instance) → Contains (instances_in xs) x → Obeys x
imports_obey earlier [] e x c = none-in x c
imports_obey earlier (s ∷ xs) e x c = elim (in_either (instance_of s.shown) (instances_in xs) x c) [
  | inl here ↦ shown_obeys (resources_seen earlier) s.key s.shown (first_true (is_item (resources_seen earlier) s.key s.shown) (are_imports (earlier ++ s ∷ []) xs) e) x here
  | inr later ↦ imports_obey (earlier ++ s ∷ []) xs (second_true (is_item (resources_seen earlier) s.key s.shown) (are_imports (earlier ++ s ∷ []) xs) e) x later
]

exports_obey : (xs : List Seen) → list_all (λ s. is_item [] s.key s.shown) xs ≡ true → (x : Instance) → Contains (instances_in xs) x → Obeys x
exports_obey [] e x c = none-in x c
exports_obey (s ∷ xs) e x c = elim (in_either (instance_of s.shown) (instances_in xs) x c) [
  | inl here ↦ shown_obeys [] s.key s.shown (first_true (is_item [] s.key s.shown) (list_all (λ t. is_item [] t.key t.shown) xs) e) x here
  | inr later ↦ exports_obey xs (second_true (is_item [] s.key s.shown) (list_all (λ t. is_item [] t.key t.shown) xs) e) x later
]

world_parts : (scope : Scope) → is_world scope ≡ true → (are_imports [] scope.imports ≡ true) × (list_all (λ s. is_item [] s.key s.shown) scope.exports ≡ true)
    × (distinct (map (λ s. s.key) scope.imports) ≡ true)
world_parts scope e = search std_rules

-- an instance goes one of two ways
one_way : (seen : List (Direction × Instance)) (n : ℕ) (x : Instance) → slice_get (map (λ y. y.1) seen) n ≡ Some x → Contains (going import_ seen) x ⊎ Contains (going export_ seen) x
one_way [] n x e = absurd cc
one_way ((import_, y) ∷ seen) zero x e = inl (0, omega arith, some_is y x e)
one_way ((export_, y) ∷ seen) zero x e = inr (0, omega arith, some_is y x e)
one_way ((import_, y) ∷ seen) (suc n) x e = elim (one_way seen n x e) [ inl h ↦ inl (contains-later y (going import_ seen) x h) | inr h ↦ inr h ]
one_way ((export_, y) ∷ seen) (suc n) x e = elim (one_way seen n x e) [ inl h ↦ inl h | inr h ↦ inr (contains-later y (going export_ seen) x h) ]

-- ---- the names of each view differ

module _ (members : List Member) (stand : AllByRecursion MemberStands members) (agree : all_agree (flat_map sights members) ≡ true) (interfaces : are_interfaces (flat_map sights members) ≡ true) where
  member_at : (k : ℕ) (m : Member) → slice_get members k ≡ Some m → MemberStands m
  member_at = all_at_too MemberStands members stand

  abbrev parts : List (List Instance)
  parts = map instances_of members

  all_stand : AllStand parts
  all_stand k xs at =
      let m = unmapped_get instances_of members k xs at in
      subst (λ (ys : List Instance). AllAt (λ n (x : Instance). ViewStands (IsShownBefore ys n) (instance_place x.interface) x.view) ys) m.2 (member_at k m.0 m.1).views

  -- an instance with a path is seen
  seen_there : (path : Text) (x : Instance) → IsOfPath parts path x → IsSeenIn (flat_map sights members) path x.view
  seen_there path x o =
      let m = unmapped_get instances_of members o.part o.instances o.part_at in
      seen_in_all members o.part m.0 m.1 path x.view (seen_in_member m.0 o.number x path (ap (λ (ys : List Instance). slice_get ys o.number) m.2 ∙ o.at) o.of_path)

  alike : (path : Text) (x y : Instance) → IsOfPath parts path x → IsOfPath parts path y → Alike x.view y.view
  alike path x y o p = paths_alike (flat_map sights members) agree path x.view y.view (seen_there path x o) (seen_there path y p)

  once : (path : Text) (x : Instance) → IsOfPath parts path x → NamesDiffer x.view
  once path x o = paths_differ (flat_map sights members) interfaces path x.view (seen_there path x o)

  module _ (k : ℕ) (m : Member) (there : slice_get members k ≡ Some m) where
    part_there : slice_get parts k ≡ Some (instances_of m)
    part_there = mapped_get instances_of members k m there

    differ : (n : ℕ) (x : Instance) → slice_get (instances_of m) n ≡ Some x → NamesDiffer x.view
    differ n x at = by x.interface refl
      where
        -- an instance without a path is one of a world
        inline : (label : Text) (package_ : PackageIdentity) (p : Part) → PartStands p → slice_get (instances_of (record { label = label; package_ = package_; part = p })) n ≡ Some x
            → x.interface ≡ None → NamesDiffer x.view
        inline label package_ (Part.world scope) w e none = names_differ (instance_place x.interface) x.view (search (std_rules, world_parts, one_way, imports_obey, exports_obey))
        inline label package_ (Part.interface exported imports) w e none = elim (at_end (map named_instance imports) (named_instance (path_in package_ label, exported)) x n e) [
          | inl before ↦ (let i = unmapped_get named_instance imports n x before in let wrong : Some i.0.0 ≡ None = ap (λ (y : Instance). y.interface) i.2 ∙ none in absurd cc)
          | inr end ↦ (let wrong : Some (path_in package_ label) ≡ None = ap (λ (y : Instance). y.interface) end.1 ∙ none in absurd cc)
        ]

        by : (o : Option Text) → x.interface ≡ o → NamesDiffer x.view
        by None is = inline m.label m.package_ m.part (member_at k m there).part at is
        by (Some path) is = once path x (record { part = k; instances = instances_of m; part_at = part_there; number = n; at = at; of_path = is })

    world_kinds : (p : Part) → m.part ≡ p → PartStands p → PartHasKinds (kinds parts all_stand alike once) p
    world_kinds (Part.interface exported imports) e w = tt
    world_kinds (Part.world scope) e w = record {
      own = own_kind scope.instances scope.imports apart (kinds parts all_stand alike once) are w.stands.imports;
      met = met_is scope.instances scope.imports apart (kinds parts all_stand alike once) are w.stands.imports;
      imports = import_is scope.instances scope.imports apart (kinds parts all_stand alike once) are w.stands.imports;
      exports = λ n s at. export_is scope.instances scope.imports apart (kinds parts all_stand alike once) are w.stands.imports s (w.stands.exports n s at) (w.stands.no_types n s at);
    }
      where
        apart : distinct (map (λ s. s.key) scope.imports) ≡ true
        apart = (world_parts scope w.obeys).2

        here : slice_get parts k ≡ Some scope.instances
        here = part_there ∙ ap (λ p. Some (instances_of (record { label = m.label; package_ = m.package_; part = p }))) e

        are : (path name : Text) (b : Bool) → IsShownBefore scope.instances (length scope.instances) (Place.of_interface path) name b → b ≡ kinds parts all_stand alike once path name
        are path name b s = kinds_are parts all_stand alike once s.path name b (before_somewhere parts k scope.instances here (length scope.instances) (Place.of_interface path) name b s)
            ∙ ap (λ p. kinds parts all_stand alike once p name) (sym (path_once path s.path s.stands))

    member_kinds : MemberHasKinds (kinds parts all_stand alike once) m
    member_kinds = record { views = λ n x at. view_kinds parts all_stand alike once k (instances_of m) part_there n x at (differ n x at); world = world_kinds m.part refl (member_at k m there).part }

  pub have_kinds : NamesHaveKinds members
  have_kinds = record { kinds = kinds parts all_stand alike once; each = along members member_kinds }
    where
      along : (ms : List Member) → ((k : ℕ) (m : Member) → slice_get ms k ≡ Some m → MemberHasKinds (kinds parts all_stand alike once) m)
          → AllByRecursion (MemberHasKinds (kinds parts all_stand alike once)) ms
      along [] each = tt
      along (m ∷ ms) each = (each zero m refl, along ms (λ k x e. each (suc k) x e))
