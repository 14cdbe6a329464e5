use Rattle.std.proofs.Common.{rules, ◌∙◌, ap}
use Rattle.wit_model.specs.Text.{text_of}
use Rattle.compat_meaning.proofs.Outlines.{names_length, name_at as name_at_lem}
use Rattle.compat_meaning.proofs.names.name_at.Goals as goal

pub index-requires : goal.index-requires
index-requires c = search (rules, names_length c.args.resolve.now c.args.names.now.texts.items c.requires.names.texts, c.requires.in_range)

pub returns : goal.returns
returns c = c.as_str.ensures.value ∙ ap text_of c.index.ensures ∙ name_at_lem c.args.resolve.now c.args.names.now.texts.items c.args.id.0 _ c.requires.names.texts c.requires.in_range
