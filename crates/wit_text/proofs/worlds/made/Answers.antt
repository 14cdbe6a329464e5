use Rattle.std.proofs.Common.{ap, refl}
use Rattle.wit_text.proofs.WorldLaws.{world_made}
use Rattle.wit_text.proofs.worlds.made.Goals as goal

pub returns-clause-made : goal.returns-clause-made
returns-clause-made c =
    world_made c.args.number _ c.add_items.new.imports.entries c.add_items.new.exports.entries c.requires.here c.in_ok-string_of.ensures.text refl
    c.in_ok-stability_of.ensures.gates c.in_ok-docs_of.ensures.docs (ap (λ m. m.entries) c.imports.view_is) (ap (λ m. m.entries) c.exports.view_is)
    c.in_ok-add_items.ensures.has
