-- What is asked of the members of a world, so that they are shown as they are stated.
use Rattle.std.specs.Prelude.{◌≡◌, List, Some}
use Rattle.std.specs.{List.filter_map}
use Rattle.wit_model.specs.{Lookup.package_at, Lookup.world_at, Valid.IsValid}
use Rattle.wit_model.specs.declared.model.{Resolve.Resolve, Package.Package, PackageId.PackageId}
use Rattle.wit_model.specs.declared.model.{World.World, WorldId.WorldId}
use Rattle.wit_model.specs.declared.model.TypeOwner.TheVariants as owner
use Rattle.print_grammar.specs.Tree.{WorldMember}
use Rattle.print_items.specs.Shown.{shown_head, shown_world}
use Rattle.text_shown.specs.Means.{TargetIs}
use Rattle.text_shown.specs.ShowsWorlds.{export_of, ExportsAre, ImportsAre, StatedIs}
use Rattle.text_shown.specs.SameWorlds.{SameWorlds}

-- A world of this package has what these members state.
pub record HasWorldMembers (r : Resolve) (home : PackageId) (id : WorldId) (w : World) (members : List WorldMember) : Type 0 where
  pub there : world_at r id.0 ≡ Some w
  pub placed : w.«package» ≡ Some home
  pub imports : ImportsAre r.types.items (TargetIs r home.0) (StatedIs r home.0) (owner.World id) members w.imports.entries
  pub exports : ExportsAre (StatedIs r home.0) (filter_map export_of members) w.exports.entries

-- What is shown of a world is the members that it has.
abbrev pub ShowsWorldMembers : Type 0
ShowsWorldMembers = (r : Resolve) → IsValid r → (home : PackageId) (p : Package) → package_at r home.0 ≡ Some p → (id : WorldId) (w : World)
    (members : List WorldMember) → HasWorldMembers r home id w members → SameWorlds (shown_head p) (shown_world r id w) members
