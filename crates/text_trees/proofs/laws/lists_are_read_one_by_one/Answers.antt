use Rattle.print_grammar.specs.Token.Mark.{CloseBrace, CloseParen, Greater}
use Rattle.text_trees.specs.{Reading.begins, ReadFiles.is_end}
use Rattle.text_trees.proofs.OneByOne.{until_one_by_one, listed_one_by_one}
use Rattle.text_trees.proofs.SteadyFiles.{type-shrinks, param-shrinks, field-shrinks, case-shrinks, label-shrinks, used_name-shrinks, resource_member-shrinks, member-shrinks, world_member-shrinks, other_name-shrinks, part-shrinks, item-shrinks, piece-shrinks}
use Rattle.text_trees.proofs.laws.lists_are_read_one_by_one.Goals as goal

pub returns-clause-types : goal.returns-clause-types
returns-clause-types c = λ room. listed_one_by_one (type-shrinks room) Greater

pub returns-clause-params : goal.returns-clause-params
returns-clause-params c = λ room. listed_one_by_one (param-shrinks room) CloseParen

pub returns-clause-fields : goal.returns-clause-fields
returns-clause-fields c = λ docs room. listed_one_by_one (field-shrinks docs room) CloseBrace

pub returns-clause-cases : goal.returns-clause-cases
returns-clause-cases c = λ docs room. listed_one_by_one (case-shrinks docs room) CloseBrace

pub returns-clause-labels : goal.returns-clause-labels
returns-clause-labels c = λ docs. listed_one_by_one (label-shrinks docs) CloseBrace

pub returns-clause-used : goal.returns-clause-used
returns-clause-used c = listed_one_by_one used_name-shrinks CloseBrace

pub returns-clause-others : goal.returns-clause-others
returns-clause-others c = listed_one_by_one other_name-shrinks CloseBrace

pub returns-clause-functions : goal.returns-clause-functions
returns-clause-functions c = λ docs room. until_one_by_one (resource_member-shrinks docs room) (begins CloseBrace)

pub returns-clause-members : goal.returns-clause-members
returns-clause-members c = λ docs room. until_one_by_one (member-shrinks docs room) (begins CloseBrace)

pub returns-clause-world_members : goal.returns-clause-world_members
returns-clause-world_members c = λ docs room. until_one_by_one (world_member-shrinks docs room) (begins CloseBrace)

pub returns-clause-parts : goal.returns-clause-parts
returns-clause-parts c = λ docs room. until_one_by_one (part-shrinks docs room) (begins CloseBrace)

pub returns-clause-items : goal.returns-clause-items
returns-clause-items c = λ docs room. until_one_by_one (item-shrinks docs room) (begins CloseBrace)

pub returns-clause-pieces : goal.returns-clause-pieces
returns-clause-pieces c = λ docs room. until_one_by_one (piece-shrinks docs room) is_end
