-- What a world has so far, and what of it is imported or exported by itself.
use Rattle.std.specs.Prelude.{◌≡◌, List, map}
use Rattle.std.specs.List.{filter_map, list_any}
use Rattle.wit_model.specs.Text.{Text}
use Rattle.print_grammar.specs.Tree.{WorldMember}
use Rattle.text_trees.specs.TreesSeen.{world_member_of}
use Rattle.text_plain.specs.declared.{merging.Merged.Merged, merging.StandingKey.StandingKey, scopes.Heading.Heading}
use Rattle.text_plain.specs.{Keys.named_there, Scopes.heading_of}
use Rattle.text_plain.specs.Plain.{Standing, same_standing, standing_of}

-- the interface of a key
abbrev pub standing_there : StandingKey → Standing
standing_there it = record { exported = it.exported; named = named_there it.key }

-- what the world has
abbrev pub members_seen : Merged → List WorldMember
members_seen m = map (world_member_of m.whole.now) m.members.items

-- what of this is imported or exported by itself, in a package of this name
abbrev pub standings : Text → Heading → List WorldMember → List Standing
standings whole heading members = filter_map (standing_of (heading_of whole heading)) members

-- The table has what of the world is imported or exported by itself.
abbrev pub IsMerged : Merged → Type 0
IsMerged m =
    (q : Standing) → list_any (same_standing q) (map standing_there m.standing.keys)
    ≡ list_any (same_standing q) (standings m.whole.now m.heading (members_seen m))

-- The world has this from now on.
pub record Becomes (whole : Text) (heading : Heading) (members : List WorldMember) (new : Merged) : Type 0 where
  pub index : IsMerged new
  pub whole_is : new.whole.now ≡ whole
  pub heading_is : new.heading ≡ heading
  pub members_are : members_seen new ≡ members
