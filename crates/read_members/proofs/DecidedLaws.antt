-- What the pieces mean, by what was read of the members.
use Rattle.std.proofs.Common.{◌≡◌, refl, ap, ◌∙◌, ℕ, List, [], ◌∷◌, map, Option, Some, None}
use Rattle.std.specs.List.{AllZip}
use Rattle.wit_model.specs.Text.{Text}
use Rattle.comp_bytes.specs.{Levels.Piece, Reading.◌>>=◌}
use Rattle.comp_meaning.specs.{ByLevels.package_of_pieces, Follow.each, Reads.package_of_members}
use Rattle.plan_meaning.specs.NumberedMembers.{Homes, HomesStand, IsMember, NumberedMember}
use Rattle.plan_meaning.proofs.NumberedMembers.{packages_in_numbers}
use Rattle.read_parts.specs.declared.following.Followed.{Followed}
use Rattle.read_parts.specs.{Followed.PartScope, Followed.member_of_scope, Followed.scopes_of, Input.IsFollowed}
use Rattle.read_parts.proofs.ScopeMeaning.{package_by_scopes}
use Rattle.read_rules.specs.declared.tables.Fact.{Fact as KeptFact}
use Rattle.read_numbers.specs.{FactLaws.known_by, KnownScopes.AreKnown, NumberedInput.tables_of}
use Rattle.read_numbers.proofs.InputNumbers.{input_in_numbers}
use Rattle.read_members.specs.{Decided.ArePackageDecided, Decided.PackagesAreDecided, ReadMembers.members_meant, ReadMembers.AreRead}
use Rattle.read_members.proofs.{MeantLaws.read_members_are_meant, SightLaws.members_are_known}
use Rattle.comp_meaning.specs.Reads as reads

-- the package of the members
pub by_members : (pieces : List Piece) → package_of_pieces pieces ≡ (members_meant pieces >>= package_of_members)
by_members pieces = package_by_scopes pieces ∙ by (scopes_of pieces)
  where
    by : (o : Option (List (Text × PartScope))) → (o >>= λ scopes. each member_of_scope scopes >>= package_of_members) ≡ ((o >>= each member_of_scope) >>= package_of_members)
    by None = refl
    by (Some scopes) = refl

module _ (pieces : List Piece) (x : Followed) (f : IsFollowed pieces x) (facts : List KeptFact) (are : AreKnown x facts) (h : Homes) (stand : HomesStand (tables_of x) h) where
  decided : (ms : List (NumberedMember × List (Option ℕ))) → AreRead (tables_of x) (known_by facts) h x.members.items ms → (members : List reads.Member) → members_meant pieces ≡ Some members
      → AllZip (IsMember (tables_of x) h) (map (λ m. m.0) ms) members → ArePackageDecided pieces (tables_of x) h (known_by facts) (map (λ m. m.0) ms)
  decided [] read [] found shown = by_members pieces ∙ ap (λ o. o >>= package_of_members) found
  decided [] read (z ∷ zs) found shown = absurd shown
  decided (m ∷ ms) read [] found shown = absurd shown
  decided (m ∷ ms) read (z ∷ zs) found shown = record {
    identity = z.package_;
    at = shown.0.package_;
    members = z ∷ zs;
    shown = shown;
    decided = by_members pieces ∙ (ap (λ o. o >>= package_of_members) found
        ∙ packages_in_numbers (tables_of x) (input_in_numbers pieces x f).tables h stand (known_by facts) m.0.package_ z.package_ shown.0.package_ (map (λ k. k.0) (m ∷ ms)) (z ∷ zs) shown
        (members_are_known pieces x f facts are h (m ∷ ms) read));
  }

pub packages_are_decided : PackagesAreDecided
packages_are_decided pieces x f facts are h stand ms read =
    let meant = read_members_are_meant pieces x f facts are h stand ms read in
    decided pieces x f facts are h stand ms read meant.members meant.found meant.shown
