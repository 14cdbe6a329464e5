use Rattle.std.proofs.Common.{rules, ◌∙◌, sym, ap, Some}
use Rattle.compat_meaning.proofs.{Numbering.same_numbers, Outlines.number_at, Outlines.numbers_length}
use Rattle.compat_meaning.proofs.names.same_names.Goals as goal

pub index-requires : goal.index-requires
index-requires c = search (rules, numbers_length c.args.resolve.now _ c.args.names.now.numbers.items c.requires.names.numbers.1, c.requires.a)

pub index-requires-2 : goal.index-requires-2
index-requires-2 c = search (rules, numbers_length c.args.resolve.now _ c.args.names.now.numbers.items c.requires.names.numbers.1, c.requires.b)

pub returns : goal.returns
returns c = same_numbers c.requires.names.numbers.0 _ _ _ _ (number_at c.args.resolve.now _ c.args.names.now.numbers.items c.requires.names.numbers.1 c.args.a.0 c.index.result.now c.requires.a
    ∙ ap Some (sym c.index.ensures)) (number_at c.args.resolve.now _ c.args.names.now.numbers.items c.requires.names.numbers.1 c.args.b.0 c.index-2.result.now c.requires.b
    ∙ ap Some (sym c.index-2.ensures))
