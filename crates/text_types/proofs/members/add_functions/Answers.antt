use Rattle.std.proofs.Common.{ap, sym, subst, OnOk}
use Rattle.wit_model.specs.Text.{Text}
use Rattle.text_trees.specs.{Seen.cut, TreesSeen.member_of, TreesSeen.prefix_of, TreesSeen.signature_of}
use Rattle.text_types.specs.{Kept.defs_of, Made.functions_of, Making.AddsFunctions, Scopes.made_under, Scopes.text_in}
use Rattle.text_types.proofs.AddedFunctions.{adds_free, adds_nothing}
use Rattle.text_types.proofs.members.add_functions.Goals as goal

pub returns-in_ok-function-in-FunctionMember-clause-adds : goal.returns-in_ok-function-in-FunctionMember-clause-adds
returns-in_ok-function-in-FunctionMember-clause-adds c =
    let text = text_in c.args.scope.now in
    let defs = defs_of c.function_of.new.types in
    let types = λ (name : Text). made_under c.args.scope.now name in
    let it = c.in-FunctionMember in
    subst (λ m. OnOk c.add_function.result (AddsFunctions defs types (functions_of (member_of text m)) c.args.functions.now c.add_function.new.functions))
    (sym it.is)
    (adds_free defs types (prefix_of text it.prefix) (cut text it.name) (signature_of text it.signature) _ c.args.functions.now
    c.add_function.new.functions c.add_function.result c.in_ok-function-in-FunctionMember.ensures.stands c.add_function.ensures.adds)

pub returns-in-UseMember-clause-adds : goal.returns-in-UseMember-clause-adds
returns-in-UseMember-clause-adds c =
    adds_nothing (defs_of c.args.types.now) (λ name. made_under c.args.scope.now name) _ c.args.functions.now
    (ap (λ m. functions_of (member_of (text_in c.args.scope.now) m)) c.in-UseMember.is)
