-- A package that was followed is the input of the laws of packages.
use Rattle.std.proofs.Common.{rules as std_rules, ◌≡◌, refl, ap, ◌∙◌, ℕ, zero, suc, true, false, ◌&&◌, ◌==◌, List, [], ◌∷◌, Option, Some, None, slice_get, unwrap_or}
use Rattle.std.proofs.lemmas.Bool.{eqb-true, ltb-true}
use Rattle.std.specs.{Prelude.nat_le, Prelude.nat_lt, List.AllByRecursion, List.AllZip, List.list_all}
use Rattle.wit_model.specs.{Names.PackageIdentity, Text.Text, Tree.Form}
use Rattle.comp_bytes.specs.Levels.{Piece}
use Rattle.comp_meaning.specs.Follow.{provided}
use Rattle.read_shown.specs.{Kinds.NamesHaveKinds, Parts.MemberStands}
use Rattle.read_shown.proofs.MeaningKinds.{packages_have_kinds}
use Rattle.plan_meaning.specs.NumberedMembers.{Homes, IsKnownSight, IsMember, NumberedMember, are_interfaces, are_package, package_shown, sights_of_members, stands_at_top}
use Rattle.plan_meaning.specs.{NumberedRules.Fact, NumberedViews.NumberedSight, NumberedViews.Tables, NumberedViews.agree_in_numbers}
use Rattle.plan_meaning.proofs.NumberedMembers.{packages_in_numbers}
use Rattle.read_parts.specs.declared.{following.Followed.Followed, members.FollowedPart.FollowedPart}
use Rattle.read_members.specs.PartMembers.{IsMemberOf, IsPartOf}
use Rattle.read_numbers.specs.{FactLaws.known_by, KnownScopes.AreKnown, NumberedInput.tables_of}
use Rattle.read_homes.specs.Homes.{IsHomeOf}
use Rattle.read_exports.specs.Members.{numbered_member, numbered_members, numbered_part}
use Rattle.read_exports.specs.declared.members.{Member.Member, Part.Part}
use Rattle.read_rules.specs.declared.tables.Fact.{Fact as KeptFact}
use Rattle.plan_laws.specs.{Whole.IsPackageInput, WholeReasonsForeign.PartIsReached}
use Rattle.comp_read.specs.InputLaws.{ReadIsPackageInput, ReadLengthsFit, ReadPartsAreReached}
use Rattle.comp_read.specs.ReadInput.{AreHomesOf, IsReadInput, ViewsObey}
use Rattle.comp_read.proofs.{Inputs.read_is_input, Inputs.parts_known, Inputs.sights_known, Inputs.read_places_are_apart, Members.members_stand, Members.tables}
use Rattle.comp_read.proofs.Lists.{all_beside}
use Rattle.base_lemmas.proofs.Bools.{left_of as first_true, right_of as second_true}
use Rattle.comp_meaning.specs.Reads as reads
use Rattle.read_parts.specs.declared.members.FollowedPart.TheVariants as followed
use Rattle.read_exports.specs.declared.members.Part.TheVariants as parts

-- ---- lengths

pub lengths_fit : ReadLengthsFit
lengths_fit pieces x h ms members input n l parts at = ltb-true l 4294967296 (second_true (nat_le 1 l) (nat_lt l 4294967296) (input.followed.followed.formed n (Form.fixed_list_of l) parts at))

-- ---- homes

-- a place without a path has none
pub alone : (packages : List PackageIdentity) (paths : List (Option Text)) (homes : List (Option (ℕ × Text))) → AllZip (IsHomeOf packages) paths homes → (q : ℕ)
    → unwrap_or (slice_get paths q) None ≡ None → unwrap_or (slice_get homes q) None ≡ None
alone packages [] [] all q e = refl
alone packages (None ∷ paths) (home ∷ homes) all zero e = all.0
alone packages (Some path ∷ paths) (home ∷ homes) all zero e = let wrong : Some path ≡ None = e in absurd cc
alone packages (o ∷ paths) (home ∷ homes) all (suc q) e = alone packages paths homes all.1 q e
alone packages _ _ all q e = absurd all

-- ---- the rules of a package

module _ (t : Tables) (h : Homes) (known : ℕ → Fact) (n : ℕ) (ms : List Member) (obeys : are_package t h known n (numbered_members ms) ≡ true) where
  abbrev nms : List NumberedMember
  nms = numbered_members ms

  abbrev seen : List NumberedSight
  seen = sights_of_members t nms

  both_hold : (agree_in_numbers seen && are_interfaces t known seen) ≡ true
  both_hold = search std_rules

  pub package_views_obey : ViewsObey t known ms
  package_views_obey = record {
    agree = first_true (agree_in_numbers seen) (are_interfaces t known seen) both_hold;
    interfaces = second_true (agree_in_numbers seen) (are_interfaces t known seen) both_hold;
  }

  one_package : list_all (λ (m : NumberedMember). n == m.package_) nms ≡ true
  one_package = first_true (list_all (λ (m : NumberedMember). n == m.package_) nms) (list_all (stands_at_top h n nms) seen && (agree_in_numbers seen && are_interfaces t known seen)) obeys

module _ (pieces : List Piece) (x : Followed) (h : Homes) (ms : List Member) (members : List reads.Member) (input : IsReadInput pieces x h ms members) (facts : List KeptFact)
    (are_known : AreKnown x facts) (n : ℕ) (obeys : are_package (tables_of x) h (known_by facts) n (numbered_members ms) ≡ true) where
  abbrev t : Tables
  t = tables_of x

  abbrev known : ℕ → Fact
  known = known_by facts

  sights : AllByRecursion (IsKnownSight t known) (sights_of_members t (numbered_members ms))
  sights = sights_known pieces x h ms members input facts are_known

  -- each name is a resource wherever it is met, or nowhere
  pub read_names_have_kinds : NamesHaveKinds members
  read_names_have_kinds = by (numbered_members ms) members input.shown (members_stand pieces x h ms members input) (one_package t h known n ms obeys) sights obeys
    where
      by : (ns : List NumberedMember) (ys : List reads.Member) → AllZip (IsMember t h) ns ys → AllByRecursion MemberStands ys → list_all (λ (m : NumberedMember). n == m.package_) ns ≡ true
          → AllByRecursion (IsKnownSight t known) (sights_of_members t ns) → are_package t h known n ns ≡ true → NamesHaveKinds ys
      by [] [] all stand one all_known is = record { kinds = λ path name. false; each = tt }
      by (m ∷ ns) (y ∷ ys) all stand one all_known is = packages_have_kinds (y ∷ ys) (package_shown y.package_ (y ∷ ys)) stand
          (packages_in_numbers t (tables pieces x h ms members input) h input.homes known n y.package_ (ap (slice_get h.packages) (eqb-true n _ (first_true _ _ one)) ∙ all.0.package_) (m ∷ ns)
          (y ∷ ys) all all_known ∙ ap (λ b. provided b (package_shown y.package_ (y ∷ ys))) is)
      by _ _ all stand one all_known is = absurd all

  pub package_input : AreHomesOf t h → IsPackageInput t h known n ms members
  package_input homes = record {
    input = read_is_input pieces x h ms members input known (package_views_obey t h known n ms obeys);
    alone = alone homes.0 t.paths h.homes homes.1;
    kinds = read_names_have_kinds;
    placed = read_places_are_apart pieces x h ms members input known (package_views_obey t h known n ms obeys);
    lengths = lengths_fit pieces x h ms members input;
    sights = sights;
    scopes = parts_known pieces x h ms members input facts are_known;
    obeys = obeys;
  }

-- ---- imports that are reached

module _ (t : Tables) where
  part_reached : (a : FollowedPart) (b : Part) → IsPartOf t a b → PartIsReached t (numbered_part b)
  part_reached (followed.World path s) (parts.World w) is = tt
  part_reached (followed.Interface s) (parts.Interface p v imports) is = search std_rules
  part_reached _ _ is = absurd is

pub read_parts_are_reached : ReadPartsAreReached
read_parts_are_reached pieces x h ms members input = all_beside (IsMemberOf (tables_of x)) (λ (m : NumberedMember). PartIsReached (tables_of x) m.part) numbered_member
    (λ y m is. part_reached (tables_of x) y.part m.part is.1) x.members.items ms input.are

pub read_is_package_input : ReadIsPackageInput
read_is_package_input pieces x h ms members input facts are_known homes n obeys = package_input pieces x h ms members input facts are_known n obeys homes
