use Rattle.std.proofs.Common.{◌≡◌, ◌<◌, ◌∙◌, refl, sym, ap, subst, length, Some}
use Rattle.std.proofs.lemmas.Option.{same_Some, slice_get_read}
use Rattle.wit_model.specs.Lookup.{world_at}
use Rattle.wit_model.specs.declared.model.{PackageId.PackageId, World.World}
use Rattle.witc_written.proofs.HomeLaws.{home-there, no-home}
use Rattle.witc_written.proofs.homes.home_of.Goals as goal

pub unreachable-requires : goal.unreachable-requires
unreachable-requires c =
    let home = home-there c.args.resolve.now c.requires.valid c.args.world.0 c.index.result.now (slice_get_read _ _ _ _ refl c.requires.in_range c.index.ensures) in
    no-home home.0 (sym c.in-None.is ∙ home.1)

pub returns-clause-home : goal.returns-clause-home
returns-clause-home c = λ w at.
    let here : world_at c.args.resolve.now c.args.world.0 ≡ Some c.index.result.now = slice_get_read _ _ _ _ refl c.requires.in_range c.index.ensures in
    ap (λ (v : World). v.package) (same_Some w c.index.result.now (sym at ∙ here)) ∙ c.in-Some.is

pub returns-clause-in_range : goal.returns-clause-in_range
returns-clause-in_range c =
    let home = home-there c.args.resolve.now c.requires.valid c.args.world.0 c.index.result.now (slice_get_read _ _ _ _ refl c.requires.in_range c.index.ensures) in
    subst (λ (id : PackageId). id.0 < length c.args.resolve.now.packages.items) (same_Some home.0 c.in-Some.id (sym home.1 ∙ c.in-Some.is)) home.2
