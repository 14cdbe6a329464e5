use Rattle.std.proofs.{Common.◌≡◌, Common.Some, Common.refl, lemmas.Option.slice_get_read}
use Rattle.wit_component.specs.Lookup.{world_at}
use Rattle.callers.proofs.Homes.{home-known, no-home}
use Rattle.callers.proofs.merged.home_of.Goals as goal

pub unreachable-requires : goal.unreachable-requires
unreachable-requires c =
    let here : world_at c.args.bound.now.resolve c.args.bound.now.world.0 ≡ Some c.index.result.now = slice_get_read _ _ _ _ refl c.requires.in_range c.index.ensures in
    no-home c.args.bound.now c.requires.valid c.index.result.now here c.in-None.is

pub returns : goal.returns
returns c =
    let here : world_at c.args.bound.now.resolve c.args.bound.now.world.0 ≡ Some c.index.result.now = slice_get_read _ _ _ _ refl c.requires.in_range c.index.ensures in
    home-known c.args.bound.now c.requires.valid c.index.result.now here c.in-Some.home c.in-Some.is
