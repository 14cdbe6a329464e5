use Rattle.wit_model.specs.{Names.is_label, Text.text_of}
use Rattle.base_lemmas.proofs.Bools.{left_of, right_of}
use Rattle.print_packages.proofs.items.print_world_function.Goals as goal

pub write_world_function-requires-clause-label : goal.write_world_function-requires-clause-label
write_world_function-requires-clause-label g c = left_of _ _ c.requires.well

pub write_world_function-requires-clause-signature : goal.write_world_function-requires-clause-signature
write_world_function-requires-clause-signature g c = right_of (is_label (text_of c.args.function.now.name)) _ c.requires.well
