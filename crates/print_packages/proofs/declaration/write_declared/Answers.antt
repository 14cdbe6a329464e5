use Rattle.wit_model.specs.Names.{is_label}
use Rattle.print_items.specs.Shown.{shown_type}
use Rattle.print_grammar.specs.WellNamed.{is_well_type}
use Rattle.print_items.proofs.Declared.{alias_word, handle_labelled, in_range_at}
use Rattle.print_packages.proofs.declaration.write_declared.Goals as goal
use Rattle.base_lemmas.proofs.Bools.{left_of, right_of}

pub write_type_alias-requires-clause-word : goal.write_type_alias-requires-clause-word
write_type_alias-requires-clause-word g c =
    alias_word c.args.resolve.now c.args.id c.args.def.now c.requires.at c.requires.valid c.in-Type_.ty c.in-Type_.is (right_of (is_label c.args.name.now) _ (rw c.in-Type_.is at c.requires.well))

pub write_handle_alias-requires-clause-labelled : goal.write_handle_alias-requires-clause-labelled
write_handle_alias-requires-clause-labelled g c = handle_labelled c.args.resolve.now c.args.id c.args.def.now c.requires.at c.requires.valid c.in-Handle.handle c.in-Handle.is

pub write_kind_alias-requires-clause-in_range : goal.write_kind_alias-requires-clause-in_range
write_kind_alias-requires-clause-in_range g c = in_range_at c.args.resolve.now c.args.id c.args.def.now c.requires.at

pub write_kind_alias-requires-in-Option-clause-in_range : goal.write_kind_alias-requires-in-Option-clause-in_range
write_kind_alias-requires-in-Option-clause-in_range g c = in_range_at c.args.resolve.now c.args.id c.args.def.now c.requires.at

pub write_kind_alias-requires-in-Result-clause-in_range : goal.write_kind_alias-requires-in-Result-clause-in_range
write_kind_alias-requires-in-Result-clause-in_range g c = in_range_at c.args.resolve.now c.args.id c.args.def.now c.requires.at

pub write_map_alias-requires-clause-key : goal.write_map_alias-requires-clause-key
write_map_alias-requires-clause-key g c = left_of _ _ (right_of (is_label c.args.name.now) _ (rw c.in-Map.is at c.requires.well))

pub write_map_alias-requires-clause-value : goal.write_map_alias-requires-clause-value
write_map_alias-requires-clause-value g c = right_of (is_well_type (shown_type c.args.resolve.now c.in-Map.key)) _ (right_of (is_label c.args.name.now) _ (rw c.in-Map.is at c.requires.well))
