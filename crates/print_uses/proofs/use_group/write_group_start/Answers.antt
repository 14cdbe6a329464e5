use Rattle.wit_model.specs.Rules.{in_list, is_stability}
use Rattle.std.proofs.Common.{◌&&◌}
use Rattle.print_items.specs.Shown.{shown_gates}
use Rattle.print_grammar.specs.WellNamed.{is_well_gates}
use Rattle.print_uses.proofs.use_group.write_group_start.Goals as goal
use Rattle.base_lemmas.proofs.Bools.{left_of, right_of}

pub write_use_path-requires-clause-in_range : goal.write_use_path-requires-clause-in_range
write_use_path-requires-clause-in_range g c =
    let gates = c.args.used.def.now.stability in
    left_of _ _ (left_of _ _ (right_of (is_stability gates && is_well_gates (shown_gates gates)) _ c.requires.printable))

pub write_use_path-requires-clause-well : goal.write_use_path-requires-clause-well
write_use_path-requires-clause-well g c =
    let gates = c.args.used.def.now.stability in
    right_of (in_list c.args.resolve.now.interfaces.items c.args.used.interface.0) _ (left_of _ _ (right_of (is_stability gates && is_well_gates (shown_gates gates)) _ c.requires.printable))
