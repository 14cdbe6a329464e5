use Rattle.std.proofs.Common.{◌∙◌}
use Rattle.text_types.specs.{Kept.defs_of}
use Rattle.wit_text.proofs.{Walking.on_ok, WorldLaws.scope_here, WorldLaws.types_made}
use Rattle.wit_text.proofs.worlds.make_types.Goals as goal

pub make_all-requires-clause-here : goal.make_all-requires-clause-here
make_all-requires-clause-here c =
    scope_here c.args.given.now c.add_types.new.scope c.requires.given (c.in_ok-add_types.ensures.adds.keeps.text ∙ c.requires.text)

pub make_all-requires-clause-placed : goal.make_all-requires-clause-placed
make_all-requires-clause-placed c = c.in_ok-add_types.ensures.adds.keeps.placed (defs_of c.args.types.now) c.requires.placed

pub make_all-requires-clause-fresh : goal.make_all-requires-clause-fresh
make_all-requires-clause-fresh c = c.in_ok-add_types.ensures.adds.keeps.fresh c.requires.fresh

pub returns-clause-made : goal.returns-clause-made
returns-clause-made c =
    let given = c.args.given.now in
    let are = types_made given c.args.interfaces.now (defs_of c.make_all.new.types) c.args.scope.now c.add_types.new.scope c.as_slice.result.now c.in_ok-own.own
    c.as_slice.ensures.value c.requires.text c.requires.home c.requires.empty c.in_ok-add_types.ensures.adds c.in_ok-own.ensures.made in
    on_ok _ _ c.add_own.result (λ adds. record { own = c.in_ok-own.own; adds = adds; are = are; agrees = c.in_ok-own.ensures.agrees }) c.add_own.ensures.adds
