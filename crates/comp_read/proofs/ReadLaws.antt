-- The package of members that were read of what was followed.
use Rattle.std.proofs.Common.{rules as std_rules, ◌≡◌, refl, sym, ◌∙◌, ℕ, ◌≤◌, arith, List, length, Option, Some, None, ap, subst, true, false, [], ◌∷◌, map, slice_get}
use Rattle.wit_model.specs.declared.model.Resolve.{Resolve}
use Rattle.wit_model.specs.{Meaning.PackageMeaning, Meaning.WorldPackage, Names.PackageIdentity}
use Rattle.comp_bytes.specs.{Levels.Piece, Levels.levels_of, Reading.◌>>=◌}
use Rattle.comp_meaning.specs.{ByLevels.package_of_pieces, ByLevels.world_of_pieces, Reads.Reads, Reads.ReadsWorld}
use Rattle.comp_meaning.proofs.{Levelled.package_by_levels, Levelled.world_by_levels, MeaningLaws.meaning_is_read, MeaningLaws.world_is_read}
use Rattle.read_follow.specs.declared.refusal.Refusal.{Refusal}
use Rattle.read_follow.specs.Found.{Refuses}
use Rattle.read_members.specs.ReadMembers.{Because, lent_member, read_member, AreForMembers, AreRead}
use Rattle.read_members.specs.Decided.{ArePackageDecided, are_one_package}
use Rattle.comp_read.specs.declared.wanted.Wanted.{Wanted}
use Rattle.comp_read.specs.{Decoded.error_from, Decoded.HoldsFound, Decoded.IsDecoded, Decoded.MeansNothing, Decoded.RefusesBytes, ReadPackages.IsReadPackage}
use Rattle.comp_read.specs.{WantedFound.MeansNone, MembersRead.AreReadOf, MembersRead.IsMain, Planned.CanBeBuilt, Planned.PlansMean}
use Rattle.comp_read.specs.DecodedWorlds.{HoldsWorldFound, IsDecodedWorld, MeansNoWorld, RefusesWorldBytes}
use Rattle.std.specs.{Borrow.Bor, List.AllZip}
use Rattle.plan_meaning.specs.NumberedMembers.{Homes, HomesStand, NumberedMember, are_package, home_at}
use Rattle.plan_meaning.specs.{NumberedRules.Fact, NumberedViews.Tables}
use Rattle.read_homes.specs.Homes.{given_home, ArePackages, ComeInOrder, HaveReasons, IsHomeOf}
use Rattle.read_parts.specs.{declared.following.Followed.Followed, declared.members.Member.Member as FollowedMember, Input.IsFollowed}
use Rattle.read_exports.specs.declared.members.Member.{Member}
use Rattle.read_exports.specs.Members.{homes_in, numbered_members}
use Rattle.read_rules.specs.declared.tables.Fact.{Fact as KeptFact}
use Rattle.plan_package.specs.PlanWhole.{MayBeWhole}
use Rattle.plan_build.proofs.BuildableLaws.{plans_are_buildable}
use Rattle.read_numbers.specs.{FactLaws.known_by, KnownScopes.AreKnown, NumberedInput.tables_of}
use Rattle.read_members.specs.declared.reading.ReadMember.{ReadMember}
use Rattle.read_members.proofs.DecidedLaws.{packages_are_decided}
use Rattle.comp_read.proofs.ReadPackages.{read_may_be_planned, read_packages_have_sources, read_plans_are_meant}
use Rattle.base_lemmas.proofs.Lists.{map_of_map}
use Rattle.read_follow.specs.declared.refusal.Refusal.TheVariants as refusals
use Rattle.comp_read.specs.declared.wanted.Wanted.TheVariants as wanted

-- ---- What is decoded of bytes, by what their sections mean.

-- ---- what is decoded

module _ (bytes : List ℕ) where
  reads : (m : PackageMeaning) → (levels_of bytes >>= package_of_pieces) ≡ Some m → Reads bytes m
  reads m e = (meaning_is_read bytes m).1 (sym (package_by_levels bytes) ∙ e)

  found : (m : PackageMeaning) → Reads bytes m → (levels_of bytes >>= package_of_pieces) ≡ Some m
  found m is = package_by_levels bytes ∙ (meaning_is_read bytes m).0 is

  pub decoded : (r : Resolve) (n : ℕ) → HoldsFound (levels_of bytes >>= package_of_pieces) r n → length r.types.items ≤ length bytes → IsDecoded bytes r n
  decoded r n held few = record {
    valid = held.valid;
    bare = held.bare;
    package_ = held.package_;
    stands = held.stands;
    alone = held.alone;
    listed = held.listed;
    meaning = held.meaning;
    read = reads held.meaning held.is;
    meant = λ m. ((λ means. reads m ((held.meant m).0 means)), (λ is. (held.meant m).1 (found m is)));
    few = few;
  }

  nothing : (levels_of bytes >>= package_of_pieces) ≡ None → MeansNothing bytes
  nothing none m is = let wrong : ◌≡◌ {A = Option PackageMeaning} None (Some m) = sym none ∙ found m is in absurd cc

  pub refuses : (e : Refusal) → Because e ((levels_of bytes >>= package_of_pieces) ≡ None) → RefusesBytes bytes (error_from e (length bytes))
  refuses refusals.Memory none = tt
  refuses (refusals.Absent cause left) none = (omega arith, nothing none)

-- ---- one world

module _ (bytes : List ℕ) where
  reads_world : (m : WorldPackage) → (levels_of bytes >>= world_of_pieces) ≡ Some m → ReadsWorld bytes m
  reads_world m e = (world_is_read bytes m).1 (sym (world_by_levels bytes) ∙ e)

  found_world : (m : WorldPackage) → ReadsWorld bytes m → (levels_of bytes >>= world_of_pieces) ≡ Some m
  found_world m is = world_by_levels bytes ∙ (world_is_read bytes m).0 is

  pub decoded_world : (r : Resolve) (n : ℕ) → HoldsWorldFound (levels_of bytes >>= world_of_pieces) r n → length r.types.items ≤ length bytes → IsDecodedWorld bytes r 0
  decoded_world r n held few = record {
    first = refl;
    valid = held.valid;
    bare = held.bare;
    world = held.world;
    stands = held.stands;
    package_ = n;
    home = held.home;
    alone = held.alone;
    listed = held.listed;
    meaning = held.meaning;
    read = reads_world held.meaning held.is;
    meant = λ m. ((λ means. reads_world m ((held.meant m).0 means)), (λ is. (held.meant m).1 (found_world m is)));
    few = few;
  }

  no_world : (levels_of bytes >>= world_of_pieces) ≡ None → MeansNoWorld bytes
  no_world none m is = let wrong : ◌≡◌ {A = Option WorldPackage} None (Some m) = sym none ∙ found_world m is in absurd cc

  pub refuses_world : (e : Refusal) → Because e ((levels_of bytes >>= world_of_pieces) ≡ None) → RefusesWorldBytes bytes (error_from e (length bytes))
  refuses_world refusals.Memory none = tt
  refuses_world (refusals.Absent cause left) none = (omega arith, no_world none)

-- ---- levels that were read

-- where there are no levels, nothing is meant
pub no_levels : (wanted : Wanted) (o : Option (List Piece)) (e : Refusal) → Refuses e o → Because e (MeansNone wanted o)
no_levels w o x none = search std_rules

-- ---- what the page is for

-- ---- the package of the first member

abbrev Given : Type 0
Given = List (Option (ℕ × Bor (List ℕ)))

pub of_first : (t : Tables) (h : Homes) (known : ℕ → Fact) (ms : List Member) (m : Member) → Some m ≡ slice_get ms 0
    → are_package t h known m.package_number (numbered_members ms) ≡ are_one_package t h known (numbered_members ms)
of_first t h known [] m e = absurd cc
of_first t h known (x ∷ ms) m e = let same : m ≡ x = cc in ap (λ (y : Member). are_package t h known y.package_number (numbered_members (x ∷ ms))) same

-- ---- members that are a package

module _ (x : Followed) (t : Tables) (facts : List KeptFact) (h : Homes) (ms : List Member) (read : AreReadOf x t facts h (map lent_member ms)) (pieces : List Piece) (followed : IsFollowed pieces x) where
  module _ (n : ℕ) (obeys : are_package t h (known_by facts) n (numbered_members ms) ≡ true) where
    is_package : IsReadPackage pieces x t facts h n ms
    is_package = search (std_rules, read_packages_have_sources)

    pub may_be_whole : MayBeWhole t ms
    may_be_whole = read_may_be_planned pieces x t facts h n ms is_package

    pub plans_mean : PlansMean t h.packages (home_at h) n ms (package_of_pieces pieces)
    plans_mean p planned fits =
        let is = read_plans_are_meant pieces x t facts h n ms is_package p planned fits in
        record { plan = is.plan; means = is.means }

    pub can_be_built : CanBeBuilt t h.packages (home_at h) n ms
    can_be_built p planned fits = plans_are_buildable p (plans_mean p planned fits).plan.plan

  -- ---- members that are none

  pub over_followed : (P : Tables → Type 0) → P t → P (tables_of x)
  over_followed P is = subst P read.tables is

  none_decided : (u : Tables) (ks : List NumberedMember) → ArePackageDecided pieces u h (known_by facts) ks → are_one_package u h (known_by facts) ks ≡ false → package_of_pieces pieces ≡ None
  none_decided u x d e = search std_rules

  pub no_package : are_one_package t h (known_by facts) (numbered_members ms) ≡ false → package_of_pieces pieces ≡ None
  no_package none =
      let decided = packages_are_decided pieces x followed facts read.known h (over_followed (λ (u : Tables). HomesStand u h) read.stand) (map lent_member ms)
      (over_followed (λ (u : Tables). AreRead u (known_by facts) h x.members.items (map lent_member ms)) read.read) in
      none_decided (tables_of x) (numbered_members ms) (subst (ArePackageDecided pieces (tables_of x) h (known_by facts)) (map_of_map (λ (m : NumberedMember × List (Option ℕ)). m.0) lent_member ms)
      decided) (over_followed (λ (u : Tables). are_one_package u h (known_by facts) (numbered_members ms) ≡ false) none)

-- ---- members as they are read

module _ (x : Followed) (t : Tables) (tables : t ≡ tables_of x) (facts : List KeptFact) (known : AreKnown x facts) (old first packages : List PackageIdentity) (empty : old ≡ []) (homes : Given)
    (are_homes : AllZip (IsHomeOf first) t.paths (map given_home homes)) (reasons : HaveReasons old first (map given_home homes)) (order : ComeInOrder old (map given_home homes))
    (stand : HomesStand (tables_of x) (homes_in packages homes)) (are : ArePackages packages) (rs : List ReadMember) (sources : AreForMembers first packages (map read_member rs)) (lent : Given)
    (lent_is : lent ≡ homes) (members : List FollowedMember) (all : members ≡ x.members.items) (read : AreRead t (known_by facts) (homes_in packages lent) members (map read_member rs)) where
  read_here : AreReadOf x t facts (homes_in packages homes) (map read_member rs)
  read_here = record {
    tables = tables;
    known = known;
    stand = subst (λ (u : Tables). HomesStand u (homes_in packages homes)) (sym tables) stand;
    homes = (first, are_homes);
    packages = are;
    first = first;
    reasons = subst (λ (ps : List PackageIdentity). HaveReasons ps first (map given_home homes)) empty reasons;
    order = subst (λ (ps : List PackageIdentity). ComeInOrder ps (map given_home homes)) empty order;
    members = sources;
    read = subst (λ (hs : Given). AreRead t (known_by facts) (homes_in packages hs) x.members.items (map read_member rs)) lent_is
        (subst (λ (ms : List FollowedMember). AreRead t (known_by facts) (homes_in packages lent) ms (map read_member rs)) all read);
  }

  pub are_read_of : (again : Given) → again ≡ homes → (those : List ReadMember) → those ≡ rs → AreReadOf x t facts (homes_in packages again) (map read_member those)
  are_read_of again again_is those those_are = search (std_rules, read_here)

-- ---- the package that is looked for

module _ (t : Tables) (h : Homes) (known : ℕ → Fact) (given ms : List Member) (same : given ≡ ms) (o : Option ℕ) where
  pub main_is : (n : ℕ) → o ≡ Some n → IsMain t h known (numbered_members given) o → are_package t h known n (numbered_members ms) ≡ true
  main_is n e is = subst (λ (ys : List Member). are_package t h known n (numbered_members ys) ≡ true) same (subst (IsMain t h known (numbered_members given)) e is)

  pub none_is : o ≡ None → IsMain t h known (numbered_members given) o → are_one_package t h known (numbered_members ms) ≡ false
  none_is e is = subst (λ (ys : List Member). are_one_package t h known (numbered_members ys) ≡ false) same (subst (IsMain t h known (numbered_members given)) e is)
