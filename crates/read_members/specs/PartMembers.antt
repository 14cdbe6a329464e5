-- What was followed of an input, as the rules of reading look at it (Component Model WIT.md, "Package Format").
use Rattle.std.specs.{Prelude.◌≡◌, Prelude.List, Prelude.map, Prelude.Some, List.AllZip}
use Rattle.plan_meaning.specs.NumberedViews.{Tables}
use Rattle.read_rules.specs.declared.scopes.Scope.{Scope}
use Rattle.read_rules.specs.{Reached.numbered_import, Scopes.numbered_scope, Views.numbered_view}
use Rattle.read_follow.specs.declared.scopes.Scope.{Scope as FollowedScope}
use Rattle.read_parts.specs.declared.{following.Followed.Followed, members.FollowedPart.FollowedPart, members.Member.Member as FollowedMember}
use Rattle.read_numbers.specs.{ImportParts.part_followed, ImportParts.part_seen, NumberedInput.tables_of, NumberedParts.numbered_scope as followed_scope}
use Rattle.read_exports.specs.Interfaces.{shown_interface}
use Rattle.read_exports.specs.declared.members.{Member.Member, Part.Part}
use Rattle.read_parts.specs.declared.members.FollowedPart.TheVariants as followed
use Rattle.read_exports.specs.declared.members.Part.TheVariants as parts

-- The scope shows what was followed, and each type that it imports is the part that it was.
pub record IsScopeOf (t : Tables) (s : FollowedScope) (w : Scope) : Type 0 where
  pub shows : numbered_scope w ≡ followed_scope t.paths s
  pub imports : map part_seen w.imports.now ≡ map part_followed s.imports.items

-- A world shows what was followed, and an interface has the view and the imports of its component type.
abbrev pub IsPartOf : Tables → FollowedPart → Part → Type 0
IsPartOf t (followed.World path s) (parts.World w) = IsScopeOf t s w
IsPartOf t (followed.Interface s) (parts.Interface p v imports) =
    shown_interface t (followed_scope t.paths s) ≡ Some ((p, numbered_view v), map numbered_import imports.now)
IsPartOf t _ _ = ⊥

-- under the same label
abbrev pub IsMemberOf : Tables → FollowedMember → Member → Type 0
IsMemberOf t x m = (m.label.now ≡ x.label.now) × IsPartOf t x.part m.part

-- All members, in order.
abbrev pub AreMembersOf : Followed → List Member → Type 0
AreMembersOf x ms = AllZip (IsMemberOf (tables_of x)) x.members.items ms
