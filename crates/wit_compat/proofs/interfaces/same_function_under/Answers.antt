use Rattle.std.specs.HashMap.{get_by_text}
use Rattle.indexmap.specs.IndexMap.{values}
use Rattle.wit_model.specs.{Meant.function_meaning, Text.text_of}
use Rattle.wit_compat.proofs.Members.{among_found, found_exact, missing_exact}
use Rattle.wit_compat.proofs.interfaces.same_function_under.Goals as goal

pub same_function_senses-requires-clause-g : goal.same_function_senses-requires-clause-g
same_function_senses-requires-clause-g c = c.requires.others _ (among_found (values c.args.others.now) _ _ c.get.ensures.member c.in-Some.is)

pub returns-in-Some-clause-exact : goal.returns-in-Some-clause-exact
returns-in-Some-clause-exact c = found_exact (function_meaning c.args.right.now.resolve.now) (function_meaning c.args.left.now.resolve.now c.args.function.now) (get_by_text c.args.others.now) _
    (text_of c.args.name.now) _ c.as_str.ensures.value c.get.ensures.value _ c.in-Some.is _ c.same_function_senses.ensures.exact

pub returns-in-None-clause-exact : goal.returns-in-None-clause-exact
returns-in-None-clause-exact c = missing_exact (function_meaning c.args.right.now.resolve.now) (function_meaning c.args.left.now.resolve.now c.args.function.now)
    (get_by_text c.args.others.now) _ (text_of c.args.name.now) _ c.as_str.ensures.value c.get.ensures.value c.in-None.is
