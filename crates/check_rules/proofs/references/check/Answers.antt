use Rattle.std.proofs.Common.{rules, ◌≤◌, length, arith}
use Rattle.wit_model.specs.Checks.{references}
use Rattle.wit_model.proofs.Checks.{references_kept, types_pass, reference_breaks}
use Rattle.check_rules.proofs.references.check.Goals as goal

pub returns-then-not-branch-clause-broken : goal.returns-then-not-branch-clause-broken
returns-then-not-branch-clause-broken c = reference_breaks c.args.resolve.now c.loop-number.number (search rules)

pub returns-clause-kept : goal.returns-clause-kept
returns-clause-kept c =
    let past : length c.args.resolve.now.types.items ≤ c.loop-number.number = search rules in
    references_kept c.args.resolve.now (types_pass references c.args.resolve.now (λ n h. c.loop-number.invariant n (omega (arith, past, h))))
