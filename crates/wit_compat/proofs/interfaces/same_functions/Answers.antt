use Rattle.std.proofs.Common.{rules, ◌≡◌}
use Rattle.base_lemmas.proofs.Elements.{contains-map}
use Rattle.wit_model.specs.{Meant.function_meaning, Text.text_of}
use Rattle.wit_compat.proofs.SameMaps.{all_found, found_under, from_start, lengths_apart, not_under, stands}
use Rattle.wit_compat.proofs.interfaces.same_functions.Goals as goal

pub returns-then-len-clause-exact : goal.returns-then-len-clause-exact
returns-then-len-clause-exact c = lengths_apart (function_meaning c.args.left.now.resolve.now) (function_meaning c.args.right.now.resolve.now) _ _ c.len.ensures.unique c.len-2.ensures.unique
    (λ same. let e : c.len.result ≡ c.len-2.result = search rules in search (rules, c.if-len.true))

pub loop-name-init : goal.loop-name-init
loop-name-init c = record { along = from_start text_of _ _ _ _ (search rules); kept = c.requires.pairs }

pub same_function_under-requires-clause-function : goal.same_function_under-requires-clause-function
same_function_under-requires-clause-function c = c.requires.functions _ (contains-map (λ e. e.1) c.args.functions.now.entries _
    (stands (function_meaning c.args.left.now.resolve.now) (function_meaning c.args.right.now.resolve.now) _ _ _ _ _ _ c.loop-name.invariant.along
    c.in-Some.is c.next.ensures.steps))

pub returns-then-not-branch-clause-exact : goal.returns-then-not-branch-clause-exact
returns-then-not-branch-clause-exact c = not_under (function_meaning c.args.left.now.resolve.now) (function_meaning c.args.right.now.resolve.now) _ _ _ _ _ _ c.loop-name.invariant.along
    c.in-Some.is c.next.ensures.steps c.len.ensures.unique _ c.in_ok-same_function_under.ensures.exact (search rules)

pub loop-name-preserved : goal.loop-name-preserved
loop-name-preserved c = record {
  along = found_under (function_meaning c.args.left.now.resolve.now) (function_meaning c.args.right.now.resolve.now) _ _ _ _ _ _ c.loop-name.invariant.along
      c.in-Some.is c.next.ensures.steps _ c.in_ok-same_function_under.ensures.exact (search rules);
  kept = c.same_function_under.ensures.kept;
}

pub returns-clause-exact : goal.returns-clause-exact
returns-clause-exact c = all_found (function_meaning c.args.left.now.resolve.now) (function_meaning c.args.right.now.resolve.now) _ _ _ _ _ c.loop-name.invariant.along
    c.in-None.is c.next.ensures.steps (search rules) c.len.ensures.unique
