use Rattle.std.proofs.Common.{◌≡◌, ◌<◌, ◌∙◌, sym, ap, subst, refl, ℕ, Some}
use Rattle.std.proofs.lemmas.Option.{slice_get_read, same_Some as some-same}
use Rattle.wit_model.specs.Lookup.{package_at, world_at}
use Rattle.wit_model.specs.declared.model.World.{World}
use Rattle.wit_metadata.proofs.Homes.{home-named, home-within, world-home}
use Rattle.wit_metadata.proofs.worlds.package_name.Goals as goal

pub unreachable-requires : goal.unreachable-requires
unreachable-requires c =
    let home = world-home c.args.resolve.now c.requires.valid c.args.world.0 c.index.result.now (slice_get_read _ _ _ _ refl c.requires.in_range c.index.ensures) in
    c.in_default.not-Some home.home home.in_package

pub index-requires-2 : goal.index-requires-2
index-requires-2 c =
    let home = world-home c.args.resolve.now c.requires.valid c.args.world.0 c.index.result.now (slice_get_read _ _ _ _ refl c.requires.in_range c.index.ensures) in
    subst (λ (n : ℕ). c.in-Some.package.0 < n) (sym c.args.resolve.now.packages.ok.0) (home-within c.args.resolve.now c.index.result.now home c.in-Some.package c.in-Some.is)

pub returns : goal.returns
returns c = λ w home there.
    let at : world_at c.args.resolve.now c.args.world.0 ≡ Some c.index.result.now = slice_get_read _ _ _ _ refl c.requires.in_range c.index.ensures in
    let own = world-home c.args.resolve.now c.requires.valid c.args.world.0 c.index.result.now at in
    let inside = home-within c.args.resolve.now c.index.result.now own c.in-Some.package c.in-Some.is in
    let found : package_at c.args.resolve.now c.in-Some.package.0 ≡ Some c.index-2.result.now = slice_get_read _ _ _ _ refl inside c.index-2.ensures in
    home-named c.args.resolve.now w home c.in-Some.package c.index-2.result.now (ap (λ (z : World). z.package) (some-same w c.index.result.now (sym there ∙ at)) ∙ c.in-Some.is) found
