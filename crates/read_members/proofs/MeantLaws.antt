-- Members that are read are what the pieces of the input mean.
use Rattle.std.proofs.Common.{◌≡◌, inl, inr, refl, sym, ap, subst, ◌∙◌, ℕ, zero, suc, true, List, [], ◌∷◌, map, slice_get, Option, Some, None}
use Rattle.std.proofs.lemmas.Option.{same_Some as same-some}
use Rattle.std.specs.List.{AllByRecursion, AllZip}
use Rattle.wit_model.specs.{Names.PackageIdentity, Text.Text, Text.text_of}
use Rattle.comp_bytes.specs.Reading.{◌>>=◌}
use Rattle.comp_meaning.specs.{Follow.Scope as MeantScope, Follow.each, Follow.provided, Reads.labelled_path}
use Rattle.plan_meaning.specs.NumberedMembers.{Homes, HomesStand, IsMember, NumberedMember, NumberedPart, ShowsPart, home_at, interface, shown_view, world}
use Rattle.plan_meaning.specs.{NumberedRules.Fact, NumberedViews.AreTables, NumberedViews.Tables, NumberedViews.view_of}
use Rattle.plan_meaning.specs.NumberedWorlds.{HasPath, NumberedScope, ScopeStands, Shows, is_world}
use Rattle.plan_meaning.proofs.NumberedWorlds.{worlds_in_numbers}
use Rattle.read_parts.specs.declared.members.{FollowedPart.FollowedPart, Member.Member as FollowedMember}
use Rattle.read_parts.specs.{Followed.PartScope, Followed.member_of_scope, Followed.part_of_scope, Members.scope_of}
use Rattle.read_numbers.specs.FactLaws.{known_by}
use Rattle.read_numbers.specs.{NumberedInput.MemberShown, NumberedInput.PartShown, NumberedInput.tables_of, NumberedParts.numbered_scope as followed_scope}
use Rattle.read_numbers.proofs.{InputNumbers.input_in_numbers, KnownScopes.scopes_are_known}
use Rattle.read_exports.specs.Interfaces.{IsInterfacePart, IsPartOf, Placed, at_home, elsewhere, interface_of_scope, shown_interface}
use Rattle.read_exports.proofs.InterfaceLaws.{export_stands, scopes_are_parts}
use Rattle.read_members.proofs.SightLaws.{placed_views}
use Rattle.read_members.specs.ReadMembers.{IsElsewhere, IsMemberRead, IsNoMember, IsNoPart, IsPartRead, NoMembersAreMeant, ReadMembersAreMeant}
use Rattle.comp_meaning.specs.Reads as reads
use Rattle.comp_meaning.specs.Rules as rules
use Rattle.read_parts.specs.declared.members.FollowedPart.TheVariants as followed
use Rattle.read_parts.specs.Followed as scopes

-- ---- one part

-- what a part means in numbers
record IsPartMeant (t : Tables) (h : Homes) (m : NumberedMember) (found : Option (PackageIdentity × reads.Part)) : Type 0 where
  package_ : PackageIdentity
  part : reads.Part
  found_is : found ≡ Some (package_, part)
  stands : slice_get h.packages m.package_ ≡ Some package_
  shows : ShowsPart t h m m.part part

module _ (t : Tables) (tables : AreTables t) (known : ℕ → Fact) (h : Homes) (stand : HomesStand t h) (label : Text) where
  abbrev numbered : ℕ → NumberedPart → NumberedMember
  numbered n q = record { label = label; package_ = n; part = q }

  world_meant : (path text : Text) → text ≡ path → (w : NumberedScope) (meant : MeantScope) → Shows t w meant → ScopeStands t known w → (n : ℕ) (identity : PackageIdentity)
      → slice_get h.packages n ≡ Some identity → labelled_path label path ≡ Some identity → is_world t known w ≡ true
      → IsPartMeant t h (numbered n (world w)) (part_of_scope label (scopes.world text meant))
  world_meant path text same w meant shows stands n identity at labelled obeys = record {
    package_ = identity;
    part = reads.world meant;
    found_is = λ i. (ap (labelled_path label) same ∙ labelled) i >>= λ package_. provided ((worlds_in_numbers t tables known w meant stands shows ∙ obeys) i) (package_, reads.world meant);
    stands = at;
    shows = shows;
  }

  interface_meant : (w : NumberedScope) (meant : MeantScope) → Shows t w meant → ScopeStands t known w → (n : ℕ) (e : Placed) (is : List Placed) → shown_interface t w ≡ Some (e, is)
      → home_at h e.0 ≡ Some (n, label) → IsPartMeant t h (numbered n (interface e.0 e.1 is)) (part_of_scope label (scopes.interface meant))
  interface_meant w meant shows stands n e is shown home =
      by (subst (λ (o : Option (Placed × List Placed)). IsInterfacePart t h label o (interface_of_scope label meant)) shown (scopes_are_parts t tables h stand known w stands meant shows label))
    where
      path : HasPath t e.0
      path = (export_stands t known w.home w.exports stands.exports e (placed_views t w e is shown).0).0

      by : IsPartOf t h label e is (interface_of_scope label meant) → IsPartMeant t h (numbered n (interface e.0 e.1 is)) (interface_of_scope label meant)
      by (at_home k identity there at f) =
          let same : k ≡ n = ap (λ (x : ℕ × Text). x.0) (same-some (k, label) (n, label) (sym there ∙ home)) in
          record {
            package_ = identity;
            part = reads.interface (view_of t e.1) (map (shown_view t) is);
            found_is = f;
            stands = subst (λ (j : ℕ). slice_get h.packages j ≡ Some identity) same at;
            shows = record { path = path; home = home; shown = refl; imported = refl };
          }
      by (elsewhere none f) = absurd (none n home)

  part_meant : (x : FollowedPart) (p : PartScope) → PartShown t x p → ScopeStands t known (followed_scope t.paths (scope_of x)) → (n : ℕ) (q : NumberedPart) → IsPartRead t known h label x n q
      → IsPartMeant t h (numbered n q) (part_of_scope label p)
  part_meant (followed.World path s) (scopes.world text meant) shown stands n (world w) read =
      subst (λ (v : NumberedScope). IsPartMeant t h (numbered n (world v)) (part_of_scope label (scopes.world text meant))) (sym read.0)
      (world_meant (text_of path) text shown.0 (followed_scope t.paths s) meant shown.1 stands n read.1.0.0 read.1.0.1 read.1.0.2 (ap (is_world t known) (sym read.0) ∙ read.1.1))
  part_meant (followed.World path s) (scopes.world text meant) shown stands n (interface p v is) read = absurd read
  part_meant (followed.World path s) (scopes.interface meant) shown stands n q read = absurd shown
  part_meant (followed.Interface s) (scopes.world text meant) shown stands n q read = absurd shown
  part_meant (followed.Interface s) (scopes.interface meant) shown stands n (world w) read = absurd read
  part_meant (followed.Interface s) (scopes.interface meant) shown stands n (interface p v is) read = interface_meant (followed_scope t.paths s) meant shown stands n (p, v) is read.0 read.1

  -- ---- where it is none

  nowhere : (o : Option (Placed × List Placed)) (found : Option (PackageIdentity × reads.Part)) → IsInterfacePart t h label o found → IsElsewhere h label o → found ≡ None
  nowhere None found f away = f
  nowhere (Some x) found (at_home n identity there at f) away = absurd (away n there)
  nowhere (Some x) found (elsewhere none f) away = f

  no_package : {A B : Type 0} (o : Option A) → (o >>= λ package_. let none : Option B = None in none) ≡ None
  no_package None = refl
  no_package (Some p) = refl

  no_part : (x : FollowedPart) (p : PartScope) → PartShown t x p → ScopeStands t known (followed_scope t.paths (scope_of x)) → IsNoPart t known h label x → part_of_scope label p ≡ None
  no_part (followed.World path s) (scopes.world text meant) shown stands (inl none) =
      λ i. (ap (labelled_path label) shown.0 ∙ none) i >>= λ package_. provided (rules.is_world meant) (package_, reads.world meant)
  no_part (followed.World path s) (scopes.world text meant) shown stands (inr fails) =
      (λ i. labelled_path label text >>= λ package_. provided ((worlds_in_numbers t tables known (followed_scope t.paths s) meant stands shown.1 ∙ fails) i) (package_, reads.world meant)) ∙ no_package
      (labelled_path label text)
  no_part (followed.World path s) (scopes.interface meant) shown stands none = absurd shown
  no_part (followed.Interface s) (scopes.world text meant) shown stands none = absurd shown
  no_part (followed.Interface s) (scopes.interface meant) shown stands none =
      nowhere (shown_interface t (followed_scope t.paths s)) (interface_of_scope label meant) (scopes_are_parts t tables h stand known (followed_scope t.paths s) stands meant shown label) none

-- ---- one member

module _ (t : Tables) (tables : AreTables t) (known : ℕ → Fact) (h : Homes) (stand : HomesStand t h) where
  abbrev Stands : FollowedMember → Type 0
  Stands x = ScopeStands t known (followed_scope t.paths (scope_of x.part))

  -- what a member means in numbers
  record IsOneMeant (m : NumberedMember) (y : Text × PartScope) : Type 0 where
    member : reads.Member
    found_is : member_of_scope y ≡ Some member
    is : IsMember t h m member

  one_meant : (x : FollowedMember) (y : Text × PartScope) → MemberShown t x y → Stands x → (m : NumberedMember × List (Option ℕ)) → IsMemberRead t known h x m → IsOneMeant m.0 y
  one_meant x y shown stands m read =
      let named : y.0 ≡ m.0.label = shown.0 ∙ sym read.label_is in
      let part = part_meant t tables known h stand y.0 x.part y.1 shown.1 stands m.0.package_ m.0.part
      (subst (λ (l : Text). IsPartRead t known h l x.part m.0.package_ m.0.part) (sym shown.0) read.part_is) in
      record {
        member = record { label = y.0; package_ = part.package_; part = part.part };
        found_is = ap (λ o. o >>= λ p. Some (record { label = y.0; package_ = p.0; part = p.1 })) part.found_is;
        is = record {
          label = named;
          package_ = part.stands;
          part = subst (λ (l : Text). ShowsPart t h (record { label = l; package_ = m.0.package_; part = m.0.part }) m.0.part part.part) named part.shows;
        };
      }

  one_none : (x : FollowedMember) (y : Text × PartScope) → MemberShown t x y → Stands x → IsNoMember t known h x → member_of_scope y ≡ None
  one_none x y shown stands none = ap (λ o. o >>= λ p. Some (record { label = y.0; package_ = p.0; part = p.1 }))
      (no_part t tables known h stand y.0 x.part y.1 shown.1 stands (subst (λ (l : Text). IsNoPart t known h l x.part) (sym shown.0) none))

  -- ---- all members

  record AreAllMeant (ms : List NumberedMember) (ys : List (Text × PartScope)) : Type 0 where
    members : List reads.Member
    found_are : each member_of_scope ys ≡ Some members
    are : AllZip (IsMember t h) ms members

  all_meant : (xs : List FollowedMember) (ys : List (Text × PartScope)) → AllZip (MemberShown t) xs ys → AllByRecursion Stands xs → (ms : List (NumberedMember × List (Option ℕ)))
      → AllZip (IsMemberRead t known h) xs ms → AreAllMeant (map (λ m. m.0) ms) ys
  all_meant [] [] shown stands [] read = record { members = []; found_are = refl; are = tt }
  all_meant [] [] shown stands (m ∷ ms) read = absurd read
  all_meant [] (y ∷ ys) shown stands ms read = absurd shown
  all_meant (x ∷ xs) [] shown stands ms read = absurd shown
  all_meant (x ∷ xs) (y ∷ ys) shown stands [] read = absurd read
  all_meant (x ∷ xs) (y ∷ ys) shown stands (m ∷ ms) read =
      let one = one_meant x y shown.0 stands.0 m read.0 in
      let rest = all_meant xs ys shown.1 stands.1 ms read.1 in
      record { members = one.member ∷ rest.members; found_are = λ i. one.found_is i >>= λ z. rest.found_are i >>= λ zs. Some (z ∷ zs); are = (one.is, rest.are) }

  none_meant : (xs : List FollowedMember) (ys : List (Text × PartScope)) → AllZip (MemberShown t) xs ys → AllByRecursion Stands xs → (n : ℕ) (x : FollowedMember) → slice_get xs n ≡ Some x
      → IsNoMember t known h x → each member_of_scope ys ≡ None
  none_meant [] ys shown stands n x at none = absurd cc
  none_meant (z ∷ xs) [] shown stands n x at none = absurd shown
  none_meant (z ∷ xs) (y ∷ ys) shown stands zero x at none =
      let same : z ≡ x = cc in
      λ i. one_none z y shown.0 stands.0 (subst (IsNoMember t known h) (sym same) none) i >>= λ m. each member_of_scope ys >>= λ ms. Some (m ∷ ms)
  none_meant (z ∷ xs) (y ∷ ys) shown stands (suc n) x at none = (λ i. member_of_scope y >>= λ m. none_meant xs ys shown.1 stands.1 n x at none i >>= λ ms. Some (m ∷ ms)) ∙ nothing (member_of_scope y)
    where
      nothing : (o : Option reads.Member) → (o >>= λ m. let none : Option (List reads.Member) = None in none) ≡ None
      nothing None = refl
      nothing (Some m) = refl

  all_stand : (xs : List FollowedMember) → ((n : ℕ) (w : NumberedScope) → slice_get (map (λ (x : FollowedMember). followed_scope t.paths (scope_of x.part)) xs) n ≡ Some w → ScopeStands t known w)
      → AllByRecursion Stands xs
  all_stand [] h = tt
  all_stand (x ∷ xs) h = (h zero (followed_scope t.paths (scope_of x.part)) refl, all_stand xs (λ n w e. h (suc n) w e))

-- ---- what pieces mean

pub read_members_are_meant : ReadMembersAreMeant
read_members_are_meant pieces x f facts known h stand ms read =
    let n = input_in_numbers pieces x f in
    let all = all_meant (tables_of x) n.tables (known_by facts) h stand x.members.items n.scopes n.shown
    (all_stand (tables_of x) n.tables (known_by facts) h stand x.members.items (λ m w at. (scopes_are_known pieces x f facts known m w at).0)) ms read in
    record { members = all.members; found = ap (λ o. o >>= each member_of_scope) n.found ∙ all.found_are; shown = all.are }

pub no_members_are_meant : NoMembersAreMeant
no_members_are_meant pieces x f facts known h stand one =
    let n = input_in_numbers pieces x f in
    ap (λ o. o >>= each member_of_scope) n.found ∙ none_meant (tables_of x) n.tables (known_by facts) h stand x.members.items n.scopes n.shown
    (all_stand (tables_of x) n.tables (known_by facts) h stand x.members.items (λ m w at. (scopes_are_known pieces x f facts known m w at).0)) one.number one.member one.at one.none
