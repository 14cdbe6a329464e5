use Rattle.text_trees.specs.Seen.{cut}
use Rattle.text_types.specs.{Kept.defs_of, Scopes.text_in}
use Rattle.text_types.proofs.FunctionLaws.{gives_itself, gives_result, gives_own}
use Rattle.text_types.proofs.functions.constructed.Goals as goal

pub returns-then-is_itself-clause-constructs : goal.returns-then-is_itself-clause-constructs
returns-then-is_itself-clause-constructs c =
    gives_itself (defs_of c.add_handle.new.self) (text_in c.args.scope.now) (cut (text_in c.args.scope.now) c.args.resource) c.args.id c.add_handle.result
    c.in-Some.is
    (c.is_itself.ensures.itself c.if-is_itself.true) c.add_handle.ensures.added

pub returns-then-gives_itself-clause-constructs : goal.returns-then-gives_itself-clause-constructs
returns-then-gives_itself-clause-constructs c =
    gives_result (defs_of c.lowered.new.types) (text_in c.args.scope.now) (cut (text_in c.args.scope.now) c.args.resource) c.args.id c.lowered.result
    c.in-Some.is
    (c.gives_itself.ensures.result_tree c.if-gives_itself.true) c.lowered.ensures.stands

pub returns-in-None-clause-constructs : goal.returns-in-None-clause-constructs
returns-in-None-clause-constructs c =
    gives_own (defs_of c.add_handle-in-None.new.self) (text_in c.args.scope.now) (cut (text_in c.args.scope.now) c.args.resource) c.args.id
    c.add_handle-in-None.result c.in-None.is
    c.add_handle-in-None.ensures.added
