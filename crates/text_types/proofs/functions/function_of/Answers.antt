use Rattle.text_types.specs.{Scopes.text_in}
use Rattle.text_types.proofs.FunctionLaws.{free_made, params_on}
use Rattle.text_types.proofs.functions.function_of.Goals as goal

pub returns-clause-stands : goal.returns-clause-stands
returns-clause-stands c =
    free_made (text_in c.args.scope.now) c.args.signature.now _ _ _ _ _ _ _ c.made.result c.made.ensures.made c.free_kind.ensures c.in_ok-name.ensures.text
    c.deref.ensures.value
    (params_on (text_in c.args.scope.now) c.in_ok-returned.ensures.grows c.in_ok-params.ensures.each) c.in_ok-returned.ensures.is
