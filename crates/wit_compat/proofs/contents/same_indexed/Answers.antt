use Rattle.std.proofs.Common.{rules, ◌≡◌}
use Rattle.wit_model.specs.Text.{text_of}
use Rattle.wit_compat.proofs.WorldContents.{sense_of_item}
use Rattle.wit_compat.proofs.SameMaps.{all_found, found_under, from_start, lengths_apart, not_under, stands}
use Rattle.wit_compat.proofs.contents.same_indexed.Goals as goal

pub returns-then-len-clause-exact : goal.returns-then-len-clause-exact
returns-then-len-clause-exact c = lengths_apart (sense_of_item c.args.left.now.resolve.now) (sense_of_item c.args.right.now.resolve.now) _ _ c.len.ensures.unique c.len-2.ensures.unique
    (λ same. let e : c.len.result ≡ c.len-2.result = search rules in search (rules, c.if-len.true))

pub loop-key-init : goal.loop-key-init
loop-key-init c = record { along = from_start text_of _ _ _ _ (search rules); kept = c.requires.pairs }

pub same_item_under-requires-clause-item : goal.same_item_under-requires-clause-item
same_item_under-requires-clause-item c = c.requires.items _ (stands (sense_of_item c.args.left.now.resolve.now) (sense_of_item c.args.right.now.resolve.now) _ _ _ _ _ _ c.loop-key.invariant.along
    c.in-Some.is c.next.ensures.steps)

pub returns-then-not-branch-clause-exact : goal.returns-then-not-branch-clause-exact
returns-then-not-branch-clause-exact c = not_under (sense_of_item c.args.left.now.resolve.now) (sense_of_item c.args.right.now.resolve.now) _ _ _ _ _ _ c.loop-key.invariant.along c.in-Some.is
    c.next.ensures.steps c.len.ensures.unique _ c.in_ok-same_item_under.ensures.exact (search rules)

pub loop-key-preserved : goal.loop-key-preserved
loop-key-preserved c = record {
  along = found_under (sense_of_item c.args.left.now.resolve.now) (sense_of_item c.args.right.now.resolve.now) _ _ _ _ _ _ c.loop-key.invariant.along c.in-Some.is c.next.ensures.steps _
      c.in_ok-same_item_under.ensures.exact (search rules);
  kept = c.same_item_under.ensures.kept;
}

pub returns-clause-exact : goal.returns-clause-exact
returns-clause-exact c = all_found (sense_of_item c.args.left.now.resolve.now) (sense_of_item c.args.right.now.resolve.now) _ _ _ _ _ c.loop-key.invariant.along c.in-None.is
    c.next.ensures.steps (search rules) c.len.ensures.unique
