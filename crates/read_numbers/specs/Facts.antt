-- What is known of a type, as it was kept where the type was followed.
use Rattle.read_rules.specs.declared.tables.{Fact.Fact, Names.Names}
use Rattle.read_follow.specs.declared.facts.{Fact.Fact as FollowedFact, Names.Names as FollowedNames}
use Rattle.read_rules.specs.declared.tables.Names.TheVariants as names
use Rattle.read_follow.specs.declared.facts.Names.TheVariants as followed

abbrev pub followed_names : Names → FollowedNames
followed_names names.Nowhere = followed.Nowhere
followed_names (names.In p) = followed.In p
followed_names names.InSeveral = followed.InSeveral

abbrev pub followed_fact : Fact → FollowedFact
followed_fact f = record {
  levels = f.levels;
  names = followed_names f.names;
  is_plain = f.is_plain;
  has_plain_parts = f.has_plain_parts;
  has_good_labels =
      f.has_good_labels;
}
