use Rattle.base_lemmas.proofs.Options.{at_ok}
use Rattle.text_names.specs.Contents.{text_at}
use Rattle.text_types.specs.Kept.{defs_of}
use Rattle.wit_text.specs.Steps.{numbers_of}
use Rattle.wit_text.specs.Sides.{home_in, sources_in, text_of_world}
use Rattle.wit_text.proofs.{EntryLaws.inline_text, PathLaws.exports_put}
use Rattle.wit_text.proofs.exports.add_inline_export.Goals as goal

pub returns-clause-puts : goal.returns-clause-puts
returns-clause-puts c = at_ok c.add_inline.result (exports_put (numbers_of c.deref.result.now) c.in_ok-put_exports.ensures)

pub returns-clause-added : goal.returns-clause-added
returns-clause-added c =
    inline_text (sources_in c.args.given.now) c.args.interfaces.now c.add_inline.new.interfaces (defs_of c.add_inline.new.types) (home_in c.args.given.now)
    (text_of_world c.args.given.now) (text_at (sources_in c.args.given.now).texts.now c.args.given.now.world.now.text) c.args.members.now c.add_inline.result
    c.requires.text c.add_inline.ensures.added
