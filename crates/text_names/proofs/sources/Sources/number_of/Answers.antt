use Rattle.std.proofs.Common.{ap, ◌∙◌, subst}
use Rattle.print_grammar.specs.Tree.{PackageHead}
use Rattle.text_trees.specs.TreesSeen.{head_of}
use Rattle.text_names.specs.Tables.{Numbers}
use Rattle.text_names.proofs.TableLaws.{known_numbers, none_fresh, some_number}
use Rattle.text_names.proofs.sources.Sources.number_of.Goals as goal

pub add_new-requires-clause-fresh : goal.add_new-requires-clause-fresh
add_new-requires-clause-fresh c = none_fresh c.args.self.now c.requires.index c.texts_of-key.result c.get_index_of.result c.in-None.is c.get_index_of.ensures.found

pub returns-in-Some-clause-ok : goal.returns-in-Some-clause-ok
returns-in-Some-clause-ok c =
    subst (λ (h : PackageHead). Numbers c.args.self.now c.args.self.now h c.in-Some.package) (c.texts_of-key.ensures ∙ ap (λ t. head_of t c.args.head) c.text.ensures)
    (known_numbers c.args.self.now c.requires.index _ c.in-Some.package (some_number c.args.self.now c.requires.index c.texts_of-key.result c.get_index_of.result c.in-Some.package c.in-Some.is
    c.get_index_of.ensures.index))
