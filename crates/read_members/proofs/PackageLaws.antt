-- Where one of the members that were followed is none.
use Rattle.std.proofs.Common.{rules as std_rules, ◌≡◌, subst, ℕ, List, Option, None}
use Rattle.std.specs.Borrow.{Bor}
use Rattle.wit_model.specs.{Names.PackageIdentity, Text.Text}
use Rattle.comp_bytes.specs.Levels.{Piece}
use Rattle.plan_meaning.specs.{NumberedMembers.HomesStand, NumberedRules.Fact, NumberedViews.Tables}
use Rattle.read_parts.specs.declared.{following.Followed.Followed, members.FollowedPart.FollowedPart, members.Member.Member as FollowedMember}
use Rattle.read_parts.specs.Input.{IsFollowed}
use Rattle.read_exports.specs.{Interfaces.Placed, Members.homes_alone, Members.homes_in}
use Rattle.read_rules.specs.declared.tables.Fact.{Fact as KeptFact}
use Rattle.read_numbers.specs.{FactLaws.known_by, KnownScopes.AreKnown, NumberedInput.tables_of}
use Rattle.read_members.specs.ReadMembers.{members_meant, IsElsewhere, IsNoPart, IsOneNone}
use Rattle.read_members.proofs.MeantLaws.{no_members_are_meant}

abbrev Given : Type 0
Given = List (Option (ℕ × Bor (List ℕ)))

module _ (pieces : List Piece) (x : Followed) (f : IsFollowed pieces x) (facts : List KeptFact) (are : AreKnown x facts) (packages : List PackageIdentity) (homes : Given)
    (stand : HomesStand (tables_of x) (homes_in packages homes)) (t : Tables)
    (same : t ≡ tables_of x) (lent : Given) (lent_is : lent ≡ homes) (members : List FollowedMember) (all : members ≡ x.members.items) where
  abbrev known : ℕ → Fact
  known = known_by facts

  away : (label : Text) (o : Option (Placed × List Placed)) → IsElsewhere (homes_alone lent) label o → IsElsewhere (homes_in packages homes) label o
  away label x e = search std_rules

  none_there : (label : Text) (p : FollowedPart) → IsNoPart (tables_of x) known (homes_alone lent) label p → IsNoPart (tables_of x) known (homes_in packages homes) label p
  none_there label y none = search std_rules

  pub none_meant : IsOneNone t known (homes_alone lent) members → members_meant pieces ≡ None
  none_meant one =
      let so : IsOneNone (tables_of x) known (homes_alone lent) x.members.items =
      subst (λ (ms : List FollowedMember). IsOneNone (tables_of x) known (homes_alone lent) ms) all (subst (λ (u : Tables). IsOneNone u known (homes_alone lent) members) same one) in
      no_members_are_meant pieces x f facts are (homes_in packages homes) stand
      (record { number = so.number; member = so.member; at = so.at; none = none_there so.member.label.now so.member.part so.none })
