use Rattle.print_items.specs.Shown.{shown_type}
use Rattle.print_items.proofs.{Declared.word_alias, Driven.driven3}
use Rattle.print_items.proofs.alias.write_type_alias.Goals as goal

pub returns : goal.returns
returns g c = record {
  calls = driven3 c.write_alias_start.ensures.calls c.write_type.ensures.calls c.semicolon.ensures.calls (word_alias c.args.name.now (shown_type c.args.resolve.now c.args.ty.now) c.requires.word);
}
