use Rattle.std.proofs.{Common.refl, Common.Some, Common.None, lemmas.Option.slice_get_read}
use Rattle.witc_texts.proofs.NamedLaws.{found}
use Rattle.witc_texts.proofs.worlds.world_of.Goals as goal

pub returns-in-Some : goal.returns-in-Some
returns-in-Some c =
    let at = slice_get_read c.args.resolve.now.packages.items _ c.args.id.0 c.index.result.now refl c.requires.in_range c.index.ensures in
    found c.args.resolve.now c.requires.valid c.args.id.0 c.index.result.now at c.args.name.now (Some c.in-Some.world.now) c.in-Some.ensures.value c.in-Some.ensures.member

pub returns-in-None : goal.returns-in-None
returns-in-None c =
    let at = slice_get_read c.args.resolve.now.packages.items _ c.args.id.0 c.index.result.now refl c.requires.in_range c.index.ensures in
    found c.args.resolve.now c.requires.valid c.args.id.0 c.index.result.now at c.args.name.now None c.in-None.ensures.value tt
