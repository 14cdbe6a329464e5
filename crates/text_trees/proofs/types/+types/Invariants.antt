use Rattle.std.proofs.Common.{◌+◌, ◌-◌, ◌*◌}
use Rattle.print_grammar.specs.Token.Mark.{Greater}
use Rattle.text_trees.specs.ReadTypes.{type_in_front}
use Rattle.text_trees.specs.Seen.{count_of, text_of}
use Rattle.text_trees.specs.TreesSeen.{type_of}
use Rattle.text_trees.proofs.Listings.{Listing}
use Rattle.text_trees.proofs.types.+types.Given as goal

abbrev pub decreases-type_at : goal.decreases-type_at
decreases-type_at l = 5 * l.room + 1

abbrev pub decreases-level_at : goal.decreases-level_at
decreases-level_at l = 5 * l.room

abbrev pub decreases-tuple_at : goal.decreases-tuple_at
decreases-tuple_at l = 5 * l.room + 3

abbrev pub decreases-form_at : goal.decreases-form_at
decreases-form_at l = 5 * l.room + 4

abbrev pub decreases-option_at : goal.decreases-option_at
decreases-option_at l = 5 * l.room + 2

abbrev pub decreases-list_at : goal.decreases-list_at
decreases-list_at l = 5 * l.room + 2

abbrev pub decreases-map_at : goal.decreases-map_at
decreases-map_at l = 5 * l.room + 2

abbrev pub decreases-result_at : goal.decreases-result_at
decreases-result_at l = 5 * l.room + 2

abbrev pub decreases-payload_at : goal.decreases-payload_at
decreases-payload_at l = 5 * l.room + 2

abbrev pub decreases-types_at : goal.decreases-types_at
decreases-types_at l = 5 * l.room + 2

abbrev pub invariant-types_at-loop-types : goal.invariant-types_at-loop-types
invariant-types_at-loop-types l = Listing l.tokens (type_in_front l.room) Greater (type_of (text_of l.tokens)) l.at l.from l.types.items

abbrev pub decreases-types_at-loop-types : goal.decreases-types_at-loop-types
decreases-types_at-loop-types l = count_of l.tokens - l.from
