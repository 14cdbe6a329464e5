use Rattle.std.proofs.Common.{◌-◌}
use Rattle.print_grammar.specs.Token.Mark.{CloseBrace}
use Rattle.text_trees.specs.{ReadFiles.other_name_in_front, Seen.count_of, Seen.text_of, TreesSeen.used_name_of}
use Rattle.text_trees.proofs.Listings.{Listing}
use Rattle.text_trees.proofs.parts.other_names_at.Given as goal

abbrev pub invariant-names : goal.invariant-names
invariant-names l = Listing l.tokens other_name_in_front CloseBrace (used_name_of (text_of l.tokens)) l.at l.from l.names.items

abbrev pub decreases-names : goal.decreases-names
decreases-names l = count_of l.tokens - l.from
