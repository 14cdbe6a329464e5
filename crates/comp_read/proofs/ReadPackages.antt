-- A package that was followed and read: what was followed is whole, and so is the plan of it, which means what the input does.
use Rattle.std.proofs.Common.{rules as std_rules, ◌≡◌, refl, sym, ap, subst, ◌∙◌, ℕ, true, false, List, [], ◌∷◌, map, Option, Some, slice_get}
use Rattle.std.specs.List.{Contains}
use Rattle.comp_bytes.specs.{Levels.Piece, Reading.◌>>=◌}
use Rattle.comp_bytes.proofs.Readers.{bind_some}
use Rattle.comp_meaning.specs.{Follow.each, Follow.is_filled, Reads.package_of_members, Reads.package_with}
use Rattle.plan_meaning.specs.NumberedMembers.{Homes, HomesStand, IsMember, NumberedMember, home_at}
use Rattle.plan_meaning.specs.{NumberedRules.Fact, NumberedViews.Tables, Plan.Plan, ReadPlans.FitsInput}
use Rattle.read_exports.specs.Members.{numbered_member, numbered_members}
use Rattle.read_exports.specs.declared.members.Member.{Member}
use Rattle.read_rules.specs.declared.tables.Fact.{Fact as KeptFact}
use Rattle.plan_package.specs.PlanWhole.{MayBeWhole, PlansWhole}
use Rattle.read_parts.specs.declared.following.Followed.{Followed}
use Rattle.read_parts.specs.{Followed.labelled_scope, Followed.member_of_scope, Followed.scopes_of, Input.IsFollowed}
use Rattle.read_numbers.specs.{FactLaws.known_by, KnownScopes.AreKnown, NumberedInput.tables_of}
use Rattle.read_members.specs.ReadMembers.{AreMeant, AreRead, IsOfOne, lent_member}
use Rattle.read_members.proofs.{DecidedLaws.by_members, LentLaws.lent_members_are_members, MeantLaws.read_members_are_meant}
use Rattle.plan_laws.specs.{Whole.IsPackageInput, WholePlan.IsOfMember, WholePlan.IsWholeInput}
use Rattle.plan_laws.proofs.{WholeCondition.whole_may_be_planned, WholeCondition.plan_is_whole, WholeTypes.one_package}
use Rattle.comp_read.specs.ReadInput.{IsReadInput}
use Rattle.comp_read.specs.ReadPackages.{IsPlanOf, IsReadPackage, ReadMayBePlanned, ReadMembersAreInput, ReadPackageIsWhole, ReadPackagesHaveSources, ReadPlansAreMeant}
use Rattle.comp_read.proofs.InterfaceViews.{parts_filled, scopes_found, each_beside}
use Rattle.comp_read.proofs.{Whole.package_input, Whole.package_views_obey, Whole.read_parts_are_reached, Inputs.read_firsts_rise}
use Rattle.comp_read.proofs.Followed.{read_imports_are_bare, read_places_are_met, read_worlds_are_followed, read_labels_stand}
use Rattle.base_lemmas.proofs.Elements.{get-contains, zip_at as zip_there, zip_at_right as zip_at}
use Rattle.base_lemmas.proofs.Lists.{get_back as at_mapped, map_of_map}
use Rattle.comp_meaning.specs.Reads as reads

-- ---- members that were read

module _ (pieces : List Piece) (x : Followed) (followed : IsFollowed pieces x) (facts : List KeptFact) (are_known : AreKnown x facts) (h : Homes) (stand : HomesStand (tables_of x) h)
    (ms : List Member) (read : AreRead (tables_of x) (known_by facts) h x.members.items (map lent_member ms)) where
  meant : AreMeant pieces (tables_of x) h (map (λ (m : NumberedMember × List (Option ℕ)). m.0) (map lent_member ms))
  meant = read_members_are_meant pieces x followed facts are_known h stand (map lent_member ms) read

  input_read : IsReadInput pieces x h ms meant.members
  input_read = search (std_rules, lent_members_are_members, meant, map_of_map)

pub read_members_are_input : ReadMembersAreInput
read_members_are_input pieces x followed facts are_known h stand ms read =
    ((meant pieces x followed facts are_known h stand ms read).members, input_read pieces x followed facts are_known h stand ms read)

-- ---- the package of the first member

filled_first : {A : Type 0} (xs : List A) → is_filled xs ≡ true → (x : A) × (slice_get xs 0 ≡ Some x)
filled_first [] e = let wrong : false ≡ true = e in absurd cc
filled_first (x ∷ xs) e = (x, refl)

first_package : (members : List reads.Member) (first : reads.Member) → slice_get members 0 ≡ Some first → package_of_members members ≡ package_with first.package_ members
first_package x first e = search std_rules

-- the first member, and what it stands for
record IsFirst (h : Homes) (ms : List Member) (members : List reads.Member) : Type 0 where
  member : Member
  among : Contains ms member
  meaning : reads.Member
  there : slice_get members 0 ≡ Some meaning
  stands : slice_get h.packages member.package_number ≡ Some meaning.package_

first_of : (pieces : List Piece) (x : Followed) (h : Homes) (ms : List Member) (members : List reads.Member) → IsReadInput pieces x h ms members → IsFirst h ms members
first_of pieces x h ms members input =
    let parts = input.followed.parts in
    let found = input.followed.exported in
    let scopes = bind_some (scopes_of pieces) (each member_of_scope) members input.reads in
    let part = filled_first parts (parts_filled pieces parts found scopes.0 scopes.1) in
    let scope = zip_there (λ y z. labelled_scope y ≡ Some z) parts scopes.0 (each_beside labelled_scope parts scopes.0 (scopes_found pieces parts found scopes.0 scopes.1)) 0 part.0 part.1 in
    let meaning = zip_there (λ y z. member_of_scope y ≡ Some z) scopes.0 members (each_beside member_of_scope scopes.0 members scopes.2) 0 scope.0 scope.1 in
    let numbered = zip_at (IsMember (tables_of x) h) (numbered_members ms) members input.shown 0 meaning.0 meaning.1 in
    let member = at_mapped numbered_member ms 0 numbered.0 numbered.1 in
    record {
      member = member.0;
      among = get-contains ms 0 member.0 member.1;
      meaning = meaning.0;
      there = meaning.1;
      stands = ap (λ (y : NumberedMember). slice_get h.packages y.package_) member.2 ∙ numbered.2.package_;
    }

-- ---- where packages are from

of_member : (ms : List Member) (c : ℕ) → IsOfOne (map lent_member ms) c → IsOfMember ms c
of_member ms c one =
    let m = at_mapped lent_member ms one.number one.member one.at in
    record { member = m.0; among = get-contains ms one.number m.0 m.1; is = ap (λ (y : NumberedMember × List (Option ℕ)). y.0.package_) m.2 ∙ one.is }

pub read_packages_have_sources : ReadPackagesHaveSources
read_packages_have_sources first packages homes ms places members c low = search (std_rules, of_member)

-- ---- a package

module _ (pieces : List Piece) (x : Followed) (facts : List KeptFact) (h : Homes) (n : ℕ) (ms : List Member) (given : IsReadPackage pieces x (tables_of x) facts h n ms) where
  abbrev t : Tables
  t = tables_of x

  abbrev known : ℕ → Fact
  known = known_by facts

  abbrev members : List reads.Member
  members = (meant pieces x given.followed facts given.known h given.stand ms given.read).members

  input : IsReadInput pieces x h ms members
  input = input_read pieces x given.followed facts given.known h given.stand ms given.read

  packaged : IsPackageInput t h known n ms members
  packaged = package_input pieces x h ms members input facts given.known n given.obeys given.homes

  first : IsFirst h ms members
  first = first_of pieces x h ms members input

  whole : IsWholeInput t h n ms
  whole = record {
    packages = given.packages;
    identity = first.meaning.package_;
    stands = ap (slice_get h.packages) (sym (one_package t h known n ms members packaged first.member first.among)) ∙ first.stands;
    sources = given.sources;
    labels = read_labels_stand pieces x h ms members input;
    rise = read_firsts_rise pieces x h ms members input known (package_views_obey t h known n ms given.obeys);
    followed = read_worlds_are_followed pieces x h ms members input;
    met = read_places_are_met pieces x h ms members input;
    reached = read_parts_are_reached pieces x h ms members input;
  }

  may_be_planned : MayBeWhole t ms
  may_be_planned = whole_may_be_planned t h known n ms members packaged (read_imports_are_bare pieces x h ms members input)

  plan_meant : (p : Plan) → PlansWhole t h.packages (home_at h) n ms p → FitsInput p → IsPlanOf pieces p
  unfolding whole
  plan_meant p planned fits =
      let is = plan_is_whole t h known n ms members packaged whole p planned fits in
      record {
        plan = is.plan;
        means = is.means ∙ sym (by_members pieces ∙ (ap (λ o. o >>= package_of_members) input.reads ∙ first_package members first.meaning first.there));
      }

-- the same, over what was followed
over_followed : (pieces : List Piece) (x : Followed) (t : Tables) (facts : List KeptFact) (h : Homes) (n : ℕ) (ms : List Member) → IsReadPackage pieces x t facts h n ms
    → IsReadPackage pieces x (tables_of x) facts h n ms
over_followed pieces x t facts h n ms given = subst (λ (u : Tables). IsReadPackage pieces x u facts h n ms) given.tables given

pub read_package_is_whole : ReadPackageIsWhole
read_package_is_whole pieces x t facts h n ms given = subst (λ (u : Tables). IsWholeInput u h n ms) (sym given.tables) (whole pieces x facts h n ms (over_followed pieces x t facts h n ms given))

pub read_may_be_planned : ReadMayBePlanned
read_may_be_planned pieces x t facts h n ms given = subst (λ (u : Tables). MayBeWhole u ms) (sym given.tables) (may_be_planned pieces x facts h n ms (over_followed pieces x t facts h n ms given))

pub read_plans_are_meant : ReadPlansAreMeant
read_plans_are_meant pieces x t facts h n ms given p planned fits =
    plan_meant pieces x facts h n ms (over_followed pieces x t facts h n ms given) p (subst (λ (u : Tables). PlansWhole u h.packages (home_at h) n ms p) given.tables planned) fits
