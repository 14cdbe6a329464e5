use Rattle.std.proofs.Common.{◌≡◌}
use Rattle.std.specs.List.{list_all}
use Rattle.indexmap.specs.IndexMap.{values}
use Rattle.wit_model.specs.Rules.{function_labels}
use Rattle.check_rules.proofs.labels.are_functions.Given as goal

abbrev pub invariant-loop-function : goal.invariant-loop-function
invariant-loop-function l = list_all function_labels l.function-iterator ≡ list_all function_labels (values l.functions)
