use Rattle.std.proofs.Common.{◌∙◌}
use Rattle.print_items.proofs.Driven.{line_driven, free_before}
use Rattle.print_items.proofs.type_name.write_length.Goals as goal

pub generic_args_end-requires : goal.generic_args_end-requires
generic_args_end-requires g c free = line_driven c.push_length.ensures.calls free ∙ c.requires (free_before c.push_length.ensures.calls free)
