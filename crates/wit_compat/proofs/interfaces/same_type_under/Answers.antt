use Rattle.std.specs.HashMap.{get_by_text}
use Rattle.indexmap.specs.IndexMap.{values}
use Rattle.wit_model.specs.Text.{text_of}
use Rattle.wit_compat.proofs.Members.{among_found, found_exact, meaning_in, missing_exact}
use Rattle.wit_compat.proofs.interfaces.same_type_under.Goals as goal

pub same_type_meanings-requires-clause-b : goal.same_type_meanings-requires-clause-b
same_type_meanings-requires-clause-b c = c.requires.others _ (among_found (values c.args.others.now) _ _ c.get.ensures.member c.in-Some.is)

pub returns-in-Some-clause-exact : goal.returns-in-Some-clause-exact
returns-in-Some-clause-exact c = found_exact (meaning_in c.args.right.now.resolve.now) (meaning_in c.args.left.now.resolve.now c.args.id) (get_by_text c.args.others.now) _ (text_of c.args.name.now) _
    c.as_str.ensures.value c.get.ensures.value _ c.in-Some.is _ c.same_type_meanings.ensures.exact

pub returns-in-None-clause-exact : goal.returns-in-None-clause-exact
returns-in-None-clause-exact c = missing_exact (meaning_in c.args.right.now.resolve.now) (meaning_in c.args.left.now.resolve.now c.args.id) (get_by_text c.args.others.now) _
    (text_of c.args.name.now) _ c.as_str.ensures.value c.get.ensures.value c.in-None.is
