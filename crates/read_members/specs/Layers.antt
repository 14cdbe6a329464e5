-- Tables and scopes that are kept while the rules of reading look at them.
use Rattle.std.specs.Prelude.{◌≡◌, ℕ, List, map, Option}
use Rattle.wit_model.specs.Text.{Text}
use Rattle.plan_meaning.specs.{NumberedViews.NumberedView, NumberedViews.Tables, NumberedWorlds.NumberedScope}
use Rattle.read_rules.specs.{Scopes.numbered_instance, Scopes.numbered_seen, Tables.given_text, Tables.numbered_function_type, Tables.numbered_shape}
use Rattle.read_follow.specs.declared.scopes.Scope.{Scope as FollowedScope}
use Rattle.read_parts.specs.declared.{following.Followed.Followed, members.Member.Member as FollowedMember}
use Rattle.read_parts.specs.Members.{scope_of}
use Rattle.read_numbers.specs.{ImportParts.part_followed, ImportParts.part_seen, NumberedParts.instance_view, NumberedParts.numbered_scope as followed_scope}
use Rattle.read_numbers.specs.{KnownScopes.AreKnown, NumberedInput.tables_of, OwnedViews.owned_view}
use Rattle.read_numbers.specs.declared.views.OwnedView.{OwnedView}
use Rattle.read_members.specs.declared.{scopes.OwnedScope.OwnedScope, tables.OwnedTables.OwnedTables}

-- ---- tables

abbrev pub owned_tables : OwnedTables → Tables
owned_tables o = record {
  shapes = map numbered_shape o.shapes.items;
  functions = map numbered_function_type o.functions.items;
  paths =
      map given_text o.paths.items;
}

-- The tables are those of what was followed, and the facts of its types are true.
pub record AreTablesOf (x : Followed) (o : OwnedTables) : Type 0 where
  pub tables : owned_tables o ≡ tables_of x
  pub known : AreKnown x o.facts.items

-- ---- views

abbrev pub owned_views : List OwnedView → List NumberedView
owned_views vs = map owned_view vs

-- what the instances of a member show
abbrev pub member_views : FollowedMember → List NumberedView
member_views m = map instance_view (scope_of m.part).instances.items

-- ---- scopes

abbrev pub owned_scope : OwnedScope → NumberedScope
owned_scope s = record {
  home = s.home;
  imports = map numbered_seen s.imports.items;
  exports = map numbered_seen s.exports.items;
  instances =
      map numbered_instance s.instances.items;
}

-- what a scope shows, and the parts that the types which it imports are
abbrev pub shown_owned : OwnedScope → NumberedScope × List (Option ℕ)
shown_owned s = (owned_scope s, map part_seen s.imports.items)

abbrev pub shown_followed : List (Option Text) → FollowedScope → NumberedScope × List (Option ℕ)
shown_followed paths s = (followed_scope paths s, map part_followed s.imports.items)

abbrev pub shown_of_member : List (Option Text) → FollowedMember → NumberedScope × List (Option ℕ)
shown_of_member paths m = shown_followed paths (scope_of m.part)
