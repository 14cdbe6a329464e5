use Rattle.text_trees.specs.Seen.{cut}
use Rattle.text_types.specs.{Scopes.text_in}
use Rattle.text_types.proofs.FunctionLaws.{method_made, params_on}
use Rattle.text_types.proofs.functions.method_of.Goals as goal

pub returns-clause-stands : goal.returns-clause-stands
returns-clause-stands c =
    method_made (text_in c.args.scope.now) (cut (text_in c.args.scope.now) c.args.resource) c.args.id c.args.prefix.now c.args.name c.args.signature.now _
    _ _ c.in_ok-params.params.items _ _ _
    c.made.result c.made.ensures.made c.method_kind.ensures c.in_ok-insert.ensures.items c.in_ok-name.ensures.text c.deref.ensures.value
    (params_on (text_in c.args.scope.now) c.in_ok-returned.ensures.grows c.in_ok-params.ensures.each) c.in_ok-returned.ensures.is
