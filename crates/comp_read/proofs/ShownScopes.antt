-- The instances of what was followed stand under the paths that the parts show, in their order.
use Rattle.std.proofs.Common.{rules as std_rules, slice_get, ◌≡◌, refl, sym, ap, subst, ◌∙◌, ℕ, List, [], ◌∷◌, ◌++◌, map, Option, Some}
use Rattle.std.specs.List.{AllZip, flat_map}
use Rattle.wit_model.specs.{Text.Text, Names.PackageIdentity, Names.path_in}
use Rattle.comp_bytes.specs.Levels.{Entry, PartType, Piece, shows, wraps}
use Rattle.comp_bytes.proofs.Readers.{bind_some, when_some}
use Rattle.comp_meaning.specs.{ByLevels.entry_scope, Follow.Instance, Follow.Scope, Follow.View, Follow.each, Reads.Member, Reads.Part}
use Rattle.read_shown.specs.{Instances.InstancesAreSeen, Parts.named_instance, Scopes.ScopeStands}
use Rattle.read_shown.proofs.{ByLevels.entry_scope_stands, Parts.interface_shows}
use Rattle.plan_meaning.specs.{NumberedMembers.Homes, NumberedViews.Tables, NumberedViews.path_at}
use Rattle.plan_meaning.specs.NumberedWorlds.{NumberedInstance, NumberedScope, Shows}
use Rattle.read_exports.specs.declared.members.Member.{Member as KeptMember}
use Rattle.read_parts.specs.declared.{following.Followed.Followed, members.FollowedPart.FollowedPart, members.Member.Member as FollowedMember}
use Rattle.read_parts.specs.Followed.{PartScope, interface, labelled_scope, member_of_scope, part_of_scope, part_scope, scopes_of, world}
use Rattle.read_parts.specs.Members.{scope_of}
use Rattle.read_numbers.specs.{NumberedInput.MemberShown, NumberedInput.PartShown, NumberedInput.tables_of, NumberedParts.numbered_scope}
use Rattle.read_numbers.specs.PlacedNumbers.{scopes_in}
use Rattle.read_numbers.proofs.InputNumbers.{input_in_numbers}
use Rattle.comp_read.specs.{Order.shown_under, ReadInput.IsReadInput}
use Rattle.comp_read.proofs.{InterfaceViews.scopes_found, InterfaceViews.each_beside}
use Rattle.base_lemmas.proofs.{Bools.left_of as first_true, Bools.right_of as second_true, Lists.append_of_map, Lists.map_of_map, Lists.one_item}
use Rattle.base_lemmas.proofs.{Elements.zip_at, Elements.zip_at_right, Elements.zip_each, Options.some_is}
use Rattle.read_parts.specs.declared.members.FollowedPart.TheVariants as followed

-- ---- one part

abbrev pub meant_scope : PartScope → Scope
meant_scope (world path scope) = scope
meant_scope (interface scope) = scope

-- the paths of its instances, in order
abbrev paths_in : Scope → List (Option Text)
paths_in scope = map (λ i. i.interface) scope.instances

abbrev Stands : Scope → Type 0
Stands scope = ScopeStands scope × InstancesAreSeen scope

-- What holds of each scope of entries holds of the scope of a part.
module _ (P : Scope → Type 0) (each_holds : (es : List Entry) (scope : Scope) → entry_scope es ≡ Some scope → P scope) where
  part_holds : (a : PartType) (p : PartScope) → part_scope a ≡ Some p → P (meant_scope p)
  part_holds (wraps es name) p e = search (std_rules, bind_some, some_is)
  part_holds (shows es) p e = search (std_rules, bind_some, some_is)

  pub labelled_holds : (x : Text × PartType) (y : Text × PartScope) → labelled_scope x ≡ Some y → P (meant_scope y.1)
  labelled_holds x y e = search (std_rules, bind_some, some_is, part_holds)

abbrev member_of : Text → PackageIdentity × Part → Member
member_of label p = record { label = label; package_ = p.0; part = p.1 }

-- the paths of imports, and of one more
named_paths : (is : List Instance) (imports : List (Text × View)) (last : Text × View) → is ≡ map named_instance imports ++ named_instance last ∷ []
    → map (λ (i : Instance). i.interface) is ≡ map (λ (i : Text × View). Some i.0) imports ++ Some last.0 ∷ []
named_paths is imports last all = search (std_rules, append_of_map, map_of_map)

interface_paths : (label : Text) (scope : Scope) → Stands scope → (p : PackageIdentity × Part) → part_of_scope label (interface scope) ≡ Some p → paths_in scope ≡ shown_under (member_of label p)
interface_paths label scope st p e =
    let exported = bind_some _ _ p e in
    let imports = bind_some _ _ p exported.2 in
    let package_ = bind_some _ _ p imports.2 in
    let w = when_some _ _ p package_.2 in
    subst (λ (q : PackageIdentity × Part). paths_in scope ≡ shown_under (member_of label q)) (some_is _ p w.1)
    (named_paths scope.instances imports.0 (path_in package_.0 label, exported.0.1)
    (interface_shows label scope st.0 st.1 exported.0 exported.1 imports.0 imports.1 package_.0 package_.1 (first_true _ _ w.0) (second_true _ _ w.0)))

world_paths : (label path : Text) (scope : Scope) (p : PackageIdentity × Part) → part_of_scope label (world path scope) ≡ Some p → paths_in scope ≡ shown_under (member_of label p)
world_paths label path scope p e = search std_rules

pub one_paths : (y : Text × PartScope) (m : Member) → Stands (meant_scope y.1) → member_of_scope y ≡ Some m → paths_in (meant_scope y.1) ≡ shown_under m
one_paths y m st e = search (std_rules, bind_some, some_is, world_paths, interface_paths)

-- the places of the instances of a scope, in order
abbrev pub scope_places : NumberedScope → List ℕ
scope_places w = map (λ (i : NumberedInstance). i.place) w.instances

module _ (t : Tables) where
  abbrev pub scope_in : FollowedMember → NumberedScope
  scope_in m = numbered_scope t.paths (scope_of m.part)

  places_named : (w : NumberedScope) (scope : Scope) → Shows t w scope → map (path_at t) (scope_places w) ≡ paths_in scope
  places_named w scope is = search (std_rules, map_of_map)

  pub part_named : (a : FollowedPart) (p : PartScope) → PartShown t a p → map (path_at t) (scope_places (numbered_scope t.paths (scope_of a))) ≡ paths_in (meant_scope p)
  part_named (followed.World path s) (world text meant) is = places_named (numbered_scope t.paths s) meant is.1
  part_named (followed.Interface s) (interface meant) is = places_named (numbered_scope t.paths s) meant is
  part_named _ _ is = absurd is

-- ---- all parts

pub mapped_zip : {A B C : Type 0} (g : ℕ → C) (f : A → List ℕ) (h : B → List C) (xs : List A) (ys : List B) → AllZip (λ x y. map g (f x) ≡ h y) xs ys → map g (flat_map f xs) ≡ flat_map h ys
mapped_zip g f h [] [] all = refl
mapped_zip g f h (x ∷ xs) (y ∷ ys) all = append_of_map g (f x) (flat_map f xs) ∙ (λ i. all.0 i ++ mapped_zip g f h xs ys all.1 i)
mapped_zip g f h _ _ all = absurd all

-- two lists that lie beside a third lie beside each other
chained : {A B C D : Type 0} (R : A → B → Type 0) (Q : D → C → Type 0) (g : B → D) (xs : List A) (ys : List B) (zs : List C) → AllZip R xs ys → AllZip Q (map g ys) zs → AllZip (λ x z. Unit {0}) xs zs
chained R Q g [] [] [] a b = tt
chained R Q g [] [] (z ∷ zs) a b = absurd b
chained R Q g (x ∷ xs) (y ∷ ys) [] a b = absurd b
chained R Q g (x ∷ xs) (y ∷ ys) (z ∷ zs) a b = (tt, chained R Q g xs ys zs a.1 b.1)
chained R Q g _ _ zs a b = absurd a

zip_of_map : {A B C : Type 0} (P : C → B → Type 0) (g : A → C) (xs : List A) (ys : List B) → AllZip (λ x y. P (g x) y) xs ys → AllZip P (map g xs) ys
zip_of_map P g [] [] all = tt
zip_of_map P g (x ∷ xs) (y ∷ ys) all = (all.0, zip_of_map P g xs ys all.1)
zip_of_map P g _ _ all = absurd all

module _ (pieces : List Piece) (x : Followed) (h : Homes) (ms : List KeptMember) (members : List Member) (input : IsReadInput pieces x h ms members) where
  -- each scope stands under the paths of its part
  pub scope_under : (n : ℕ) (f : FollowedMember) (y : Member) → slice_get x.members.items n ≡ Some f → slice_get members n ≡ Some y
      → map (path_at (tables_of x)) (scope_places (scope_in (tables_of x) f)) ≡ shown_under y
  scope_under n f y f_at y_at =
      let scopes = bind_some (scopes_of pieces) (each member_of_scope) members input.reads in
      let numbers = input_in_numbers pieces x input.followed in
      let s = zip_at (MemberShown (tables_of x)) x.members.items numbers.scopes numbers.shown n f f_at in
      let s_at = ap (λ ys. slice_get ys n) (sym (some_is numbers.scopes scopes.0 (sym numbers.found ∙ scopes.1))) ∙ s.1 in
      let z = zip_at (λ s m. member_of_scope s ≡ Some m) scopes.0 members (each_beside member_of_scope scopes.0 members scopes.2) n s.0 s_at in
      let p = zip_at_right (λ u v. labelled_scope u ≡ Some v) input.followed.parts scopes.0
      (each_beside labelled_scope input.followed.parts scopes.0 (scopes_found pieces input.followed.parts input.followed.exported scopes.0 scopes.1)) n s.0 s_at in
      part_named (tables_of x) f.part s.0.1 s.2.1 ∙ (one_paths s.0 z.0 (labelled_holds Stands entry_scope_stands p.0 s.0 p.2) z.2 ∙ ap shown_under (one_item members n z.0 y z.1 y_at))

  pub scopes_under : AllZip (λ (w : NumberedScope) (z : Member). map (path_at (tables_of x)) (scope_places w) ≡ shown_under z) (scopes_in x) members
  scopes_under = search (std_rules, zip_of_map, zip_each, chained, scope_under)

  -- the places of all instances of an input, in order, are those of the paths that its parts show
  pub places_shown_under : map (path_at (tables_of x)) (flat_map scope_places (scopes_in x)) ≡ flat_map shown_under members
  places_shown_under = mapped_zip (path_at (tables_of x)) scope_places shown_under (scopes_in x) members scopes_under
