use Rattle.std.proofs.Common.{sym}
use Rattle.read_rules.proofs.TextLaws.{named_labels, named_otherwise}
use Rattle.read_rules.proofs.parts.are_parameter_names.Goals as goal

pub returns : goal.returns
returns c = named_labels c.args.params.now (sym c.if-not-are_all_labels.ensures) c.are_distinct.result c.are_distinct.ensures

pub returns-then-not-are_all_labels : goal.returns-then-not-are_all_labels
returns-then-not-are_all_labels c = named_otherwise c.args.params.now (sym c.if-not-are_all_labels.ensures)
