-- What the pieces mean as one world, by what was read of the member.
use Rattle.std.proofs.Common.{rules as std_rules, ◌≡◌, refl, sym, ap, subst, ◌∙◌, ℕ, List, [], ◌∷◌, map, slice_get, Option, Some, None}
use Rattle.std.proofs.lemmas.{List.append-nil, Option.same_Some as same-some}
use Rattle.std.specs.List.{AllByRecursion, AllZip}
use Rattle.wit_model.specs.{Names.PackageIdentity, Names.path_in, Names.read_path, Text.Text, Text.text_of}
use Rattle.wit_model.proofs.{NameLaws.read_path_is_spelled}
use Rattle.comp_bytes.specs.{Levels.Piece, Reading.◌>>=◌}
use Rattle.comp_meaning.specs.{ByLevels.world_of_pieces, Follow.each, Reads.labelled_path, Reads.world_of_members}
use Rattle.plan_meaning.specs.NumberedMembers.{Homes, HomesStand, IsKnownSight, IsMember, NumberedMember, NumberedPart, ShowsPart, interface, sights_of_members, sights_of_part, world}
use Rattle.plan_meaning.specs.{NumberedRules.Fact, NumberedViews.AreTables, NumberedViews.Tables, NumberedWorlds.NumberedScope}
use Rattle.plan_meaning.proofs.NumberedMembers.{one_world_in_numbers}
use Rattle.read_parts.specs.declared.members.{FollowedPart.FollowedPart, Member.Member as FollowedMember}
use Rattle.read_parts.specs.Followed.{PartScope, member_of_scope, scopes_of}
use Rattle.read_parts.proofs.ScopeMeaning.{world_by_scopes}
use Rattle.read_numbers.specs.{FactLaws.known_by, NumberedInput.tables_of}
use Rattle.read_numbers.proofs.InputNumbers.{input_in_numbers}
use Rattle.read_members.specs.DecidedWorlds.{AreWorldDecided, IsPartDecided, WorldsAreDecided}
use Rattle.read_members.specs.ReadMembers.{members_meant, AreRead, IsPartRead}
use Rattle.read_members.proofs.{MeantLaws.read_members_are_meant, SightLaws.members_are_known}
use Rattle.comp_meaning.specs.Reads as reads
use Rattle.read_parts.specs.declared.members.FollowedPart.TheVariants as followed

-- the one world of the members
pub by_members : (pieces : List Piece) → world_of_pieces pieces ≡ (members_meant pieces >>= world_of_members)
by_members pieces = world_by_scopes pieces ∙ by (scopes_of pieces)
  where
    by : (o : Option (List (Text × PartScope))) → (o >>= λ scopes. each member_of_scope scopes >>= world_of_members) ≡ ((o >>= each member_of_scope) >>= world_of_members)
    by None = refl
    by (Some scopes) = refl

-- ---- the path of a world

-- it is read as its label's name in its package
labelled_reads : (label path : Text) (identity : PackageIdentity) → labelled_path label path ≡ Some identity → read_path path ≡ Some (identity, label)
labelled_reads label path identity e = search std_rules

spelled_again : (path : Text) (identity : PackageIdentity) (label : Text) → read_path path ≡ Some (identity, label) → read_path (path_in identity label) ≡ Some (identity, label)
spelled_again path identity label e = ap read_path (sym (read_path_is_spelled path identity label e).spelled) ∙ e

module _ (t : Tables) (known : ℕ → Fact) (h : Homes) (label : Text) where
  world_path : (p : FollowedPart) (n : ℕ) (w : NumberedScope) → IsPartRead t known h label p n (world w) → (identity : PackageIdentity) → slice_get h.packages n ≡ Some identity
      → read_path (path_in identity label) ≡ Some (identity, label)
  world_path (followed.World named s) n w read identity at =
      let same : read.1.0.0 ≡ identity = same-some read.1.0.0 identity (sym read.1.0.1 ∙ at) in
      subst (λ (who : PackageIdentity). read_path (path_in who label) ≡ Some (who, label)) same
      (spelled_again (text_of named) read.1.0.0 label (labelled_reads label (text_of named) read.1.0.0 read.1.0.2))
  world_path (followed.Interface s) n w read identity at = absurd read

-- ---- one member

module _ (pieces : List Piece) (t : Tables) (tables : AreTables t) (h : Homes) (stand : HomesStand t h) (known : ℕ → Fact) where
  part_decided : (x : FollowedMember) (m : NumberedMember) (label_is : m.label ≡ x.label.now) (p : NumberedPart) → IsPartRead t known h x.label.now x.part m.package_ p
      → AllByRecursion (IsKnownSight t known) (sights_of_part t p) → (z : reads.Member) → z.label ≡ m.label → slice_get h.packages m.package_ ≡ Some z.package_ → (q : reads.Part) → ShowsPart t h m p q
      → world_of_pieces pieces ≡ world_of_members (record { label = z.label; package_ = z.package_; part = q } ∷ []) → IsPartDecided pieces t h known m p
  part_decided x m label_is (world w) read sights z named at (reads.world scope) shows found =
      let path = subst (λ (l : Text). read_path (path_in z.package_ l) ≡ Some (z.package_, l)) (sym label_is) (world_path t known h x.label.now x.part m.package_ w read z.package_ at) in
      record {
        identity = z.package_;
        at = at;
        scope = scope;
        shown = shows;
        decided = found ∙ (ap (λ (l : Text). reads.world_with z.package_ l scope) named ∙ one_world_in_numbers t tables h stand known m.package_ z.package_ at m.label path w scope shows sights);
      }
  part_decided x m label_is (world w) read sights z named at (reads.interface view views) shows found = absurd shows
  part_decided x m label_is (interface p v is) read sights z named at (reads.world scope) shows found = absurd shows
  part_decided x m label_is (interface p v is) read sights z named at (reads.interface view views) shows found = found

  decided : (xs : List FollowedMember) (ms : List (NumberedMember × List (Option ℕ))) → AreRead t known h xs ms → AllByRecursion (IsKnownSight t known) (sights_of_members t (map (λ m. m.0) ms))
      → (members : List reads.Member) → AllZip (IsMember t h) (map (λ m. m.0) ms) members → world_of_pieces pieces ≡ world_of_members members → AreWorldDecided pieces t h known (map (λ m. m.0) ms)
  decided xs [] read sights [] shown found = found
  decided xs [] read sights (z ∷ zs) shown found = absurd shown
  decided xs (m ∷ ms) read sights [] shown found = absurd shown
  decided xs (m ∷ n ∷ ms) read sights (z ∷ []) shown found = absurd shown.1
  decided xs (m ∷ n ∷ ms) read sights (z ∷ y ∷ zs) shown found = found
  decided xs (m ∷ []) read sights (z ∷ y ∷ zs) shown found = absurd shown.1
  decided [] (m ∷ []) read sights (z ∷ []) shown found = absurd read
  decided (x ∷ xs) (m ∷ []) read sights (z ∷ []) shown found = part_decided x m.0 read.0.label_is m.0.part read.0.part_is
      (subst (AllByRecursion (IsKnownSight t known)) (append-nil (sights_of_part t m.0.part)) sights) z shown.0.label shown.0.package_ z.part shown.0.part found

pub worlds_are_decided : WorldsAreDecided
worlds_are_decided pieces x f facts are h stand ms read =
    let meant = read_members_are_meant pieces x f facts are h stand ms read in
    decided pieces (tables_of x) (input_in_numbers pieces x f).tables h stand (known_by facts) x.members.items ms read (members_are_known pieces x f facts are h ms read) meant.members meant.shown
    (by_members pieces ∙ ap (λ o. o >>= world_of_members) meant.found)
